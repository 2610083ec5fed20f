-- 01, "Floors to try", with case h as 02's R-2, the costs as R-3 and the two sums as R-6 has them: the cases a to l, and what it is that a case holds.
use Rattle.std.specs.Prelude.{◌≡◌, List, [], ◌∷◌, ℕ, ◌*◌}
use Rattle.paths.specs.Graph.{MARK}
use Rattle.paths.specs.Table.{Right}
use Rattle.settling.specs.Answer.{Kind, Row, costs_left}
use Rattle.floor.specs.declared.Floor.{Floor}
use Rattle.floor.specs.Screen.{Passed, Refused}
use Rattle.floor.specs.Place.{floor_of, cells}
use Rattle.floor.specs.Step.{graph}
use Rattle.floor.specs.Length.{Surd, surd, length_of}
use Rattle.floor.specs.Refusal.{Line, screen}
use Rattle.answering.specs.declared.Question.{Question}
use Rattle.answering.specs.Question.{question}
use Rattle.answering.specs.Answers.{row_of}
use Rattle.search.specs.Search.{limited_lines}

-- what the paper says of a question: a row of its table, with P and Q of its route, the right table of the start and the costs that the search leaves; or a
-- refusal and its place
pub data Told : Type 0 where
  gives : (row : Row) (sums : Surd) (table costs : List ℕ) → Told
  refuses : (number place : ℕ) → Told

-- a question on a map, and what is told of it
pub record Case : Type 0 where
  pub floor : Floor
  pub bytes : List ℕ
  pub asked : Question
  pub told : Told

-- the search's refusals, for rooms of just the lengths that it needs
abbrev pub lines_of : Case → List Line
lines_of c = let n = cells c.floor in limited_lines c.floor c.bytes c.asked n (2 * n) n

pub record Gives (c : Case) (row : Row) (sums : Surd) (table costs : List ℕ) : Type 0 where
  pub passed : screen (lines_of c) ≡ Passed
  pub right : Right (graph c.floor c.bytes) c.asked.start table
  pub answers : row_of c.floor c.bytes c.asked table ≡ row
  pub measured : length_of c.floor c.bytes c.asked.start row.route ≡ sums
  pub leaves : costs_left table row.settled ≡ costs

abbrev pub HoldsAs : Case → Told → Type 0
HoldsAs c (gives row sums table costs) = Gives c row sums table costs
HoldsAs c (refuses n p) = screen (lines_of c) ≡ Refused n p

abbrev pub Holds : Case → Type 0
Holds c = HoldsAs c c.told

abbrev pub AllHold : List Case → Type 0
AllHold [] = Unit {0}
AllHold (c ∷ cs) = Holds c × AllHold cs

-- an answer by the settled count and the number returned
abbrev found : ℕ → ℕ → List ℕ → Row
found n c ds = record { kind = Kind.found; settled = n; number = c; route = ds }

abbrev none : ℕ → Row
none n = record { kind = Kind.none; settled = n; number = MARK; route = [] }

abbrev stopped : ℕ → ℕ → Row
stopped n c = record { kind = Kind.stopped; settled = n; number = c; route = [] }

abbrev case : Floor → List ℕ → ℕ → ℕ → ℕ → Row → Surd → List ℕ → List ℕ → Case
case f m s g k a l t c = record { floor = f; bytes = m; asked = question s g k; told = gives a l t c }

-- a refusal with place 0
abbrev refused_case : Floor → List ℕ → ℕ → ℕ → ℕ → ℕ → Case
refused_case f m s g k n = record { floor = f; bytes = m; asked = question s g k; told = refuses n 0 }

abbrev pub cases : List Case
cases =
    -- a: .@./...
    case (floor_of 3 2 8) (1 ∷ 0 ∷ 1 ∷ 1 ∷ 1 ∷ 1 ∷ []) 0 2 5 (found 5 560 (4 ∷ 2 ∷ 2 ∷ 0 ∷ [])) (surd 8 0)
    (0 ∷ MARK ∷ 560 ∷ 140 ∷ 280 ∷ 420 ∷ []) (0 ∷ MARK ∷ 560 ∷ 140 ∷ 280 ∷ 420 ∷ [])
    -- b: the same, limit 4
    ∷ case (floor_of 3 2 8) (1 ∷ 0 ∷ 1 ∷ 1 ∷ 1 ∷ 1 ∷ []) 0 2 4 (stopped 4 560) (surd 0 0)
    (0 ∷ MARK ∷ 560 ∷ 140 ∷ 280 ∷ 420 ∷ []) (0 ∷ MARK ∷ MARK ∷ 140 ∷ 280 ∷ 420 ∷ [])
    -- c: .../.../...
    ∷ case (floor_of 3 3 8) (1 ∷ 1 ∷ 1 ∷ 1 ∷ 1 ∷ 1 ∷ 1 ∷ 1 ∷ 1 ∷ []) 0 8 9 (found 9 396 (3 ∷ 3 ∷ [])) (surd 0 4)
    (0 ∷ 140 ∷ 280 ∷ 140 ∷ 198 ∷ 338 ∷ 280 ∷ 338 ∷ 396 ∷ []) (0 ∷ 140 ∷ 280 ∷ 140 ∷ 198 ∷ 338 ∷ 280 ∷ 338 ∷ 396 ∷ [])
    -- d: the same, 4 ways
    ∷ case (floor_of 3 3 4) (1 ∷ 1 ∷ 1 ∷ 1 ∷ 1 ∷ 1 ∷ 1 ∷ 1 ∷ 1 ∷ []) 0 8 9 (found 9 560 (4 ∷ 4 ∷ 2 ∷ 2 ∷ [])) (surd 8 0)
    (0 ∷ 140 ∷ 280 ∷ 140 ∷ 280 ∷ 420 ∷ 280 ∷ 420 ∷ 560 ∷ []) (0 ∷ 140 ∷ 280 ∷ 140 ∷ 280 ∷ 420 ∷ 280 ∷ 420 ∷ 560 ∷ [])
    -- e: ../.9
    ∷ case (floor_of 2 2 8) (1 ∷ 1 ∷ 1 ∷ 9 ∷ []) 0 3 4 (found 4 840 (4 ∷ 2 ∷ [])) (surd 12 0)
    (0 ∷ 140 ∷ 140 ∷ 840 ∷ []) (0 ∷ 140 ∷ 140 ∷ 840 ∷ [])
    -- f: .9./...; cell 1 is seen and not settled
    ∷ case (floor_of 3 2 8) (1 ∷ 9 ∷ 1 ∷ 1 ∷ 1 ∷ 1 ∷ []) 0 2 6 (found 5 396 (3 ∷ 1 ∷ [])) (surd 0 4)
    (0 ∷ 700 ∷ 396 ∷ 140 ∷ 198 ∷ 338 ∷ []) (0 ∷ MARK ∷ 396 ∷ 140 ∷ 198 ∷ 338 ∷ [])
    -- g: .@.
    ∷ case (floor_of 3 1 8) (1 ∷ 0 ∷ 1 ∷ []) 0 2 1 (none 1) (surd 0 0) (0 ∷ MARK ∷ MARK ∷ []) (0 ∷ MARK ∷ MARK ∷ [])
    -- h: the same, limit 0
    ∷ refused_case (floor_of 3 1 8) (1 ∷ 0 ∷ 1 ∷ []) 0 2 0 15
    -- i: .
    ∷ case (floor_of 1 1 8) (1 ∷ []) 0 0 1 (found 1 0 []) (surd 0 0) (0 ∷ []) (0 ∷ [])
    -- j: .9
    ∷ case (floor_of 2 1 8) (1 ∷ 9 ∷ []) 0 1 2 (found 2 700 (2 ∷ [])) (surd 10 0) (0 ∷ 700 ∷ []) (0 ∷ 700 ∷ [])
    -- k: .9, the other way
    ∷ case (floor_of 2 1 8) (1 ∷ 9 ∷ []) 1 0 2 (found 2 700 (6 ∷ [])) (surd 10 0) (700 ∷ 0 ∷ []) (700 ∷ 0 ∷ [])
    -- l: .@/@.
    ∷ case (floor_of 2 2 8) (1 ∷ 0 ∷ 0 ∷ 1 ∷ []) 0 3 4 (none 1) (surd 0 0) (0 ∷ MARK ∷ MARK ∷ MARK ∷ []) (0 ∷ MARK ∷ MARK ∷ MARK ∷ [])
    ∷ []
