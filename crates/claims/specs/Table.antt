-- What the check of a claimed cost table answers.
use Rattle.std.specs.Prelude.{◌≡◌, ◌≢◌, Option, Some, None, Result, Ok, Err, Bool, cond, not, List, [], ◌∷◌, ◌++◌, ℕ, ◌<◌, eqb, ltb, length, get_or}
use Rattle.paths.specs.Below.{lowest}
use Rattle.paths.specs.Graph.{MARK}
use Rattle.paths.specs.Table.{due}
use Rattle.floor.specs.declared.Floor.{Floor}
use Rattle.floor.specs.declared.refusals.Refusal.{Refusal}
use Rattle.floor.specs.Place.{cells}
use Rattle.floor.specs.Step.{graph}
use Rattle.floor.specs.Refusal.{Line, line, screen, floor_lines, outside_line, blocked_line}
use Rattle.floor.specs.Numbers.{Numbers, refused, fault, gives, refused_as, after_screen}

-- 9: the costs are shorter than width × height
abbrev pub costs_line : Floor → List ℕ → Line
costs_line f t = line 9 (ltb (length t) (cells f)) 0

-- 1 to 5, 7, then 9
abbrev pub table_lines : Floor → List ℕ → ℕ → List ℕ → List Line
table_lines f m s t = floor_lines f m ++ (outside_line 5 f s ∷ blocked_line 7 m s ∷ costs_line f t ∷ [])

-- what the rule asks of cell v: a blocked cell has MARK, any other what it is due by the values of its neighbours
unfoldable pub owed : Floor → List ℕ → ℕ → List ℕ → ℕ → ℕ
owed f m s t v = cond (eqb (get_or m v 0) 0) MARK (due (graph f m) s t v)

-- cell v has another value
unfoldable pub breaks : Floor → List ℕ → ℕ → List ℕ → ℕ → Bool
breaks f m s t v = not (eqb (get_or t v 0) (owed f m s t v))

-- b is the lowest cell that breaks the rule
pub record IsLowest (f : Floor) (m : List ℕ) (s : ℕ) (t : List ℕ) (b : ℕ) : Type 0 where
  pub inside : b < cells f
  pub breaks : get_or t b 0 ≢ owed f m s t b
  pub lowest : (v : ℕ) → v < b → get_or t v 0 ≡ owed f m s t v

-- the lowest cell that breaks the rule, or the number of cells
unfoldable pub breaking : Floor → List ℕ → ℕ → List ℕ → ℕ
breaking f m s t = lowest (breaks f m s t) (cells f)

-- a table that is right gives nothing, and one that is not the lowest cell that breaks the rule
abbrev pub right : Numbers
right = gives []

abbrev pub breaks_at : ℕ → Numbers
breaks_at b = gives (b ∷ [])

-- 01's numbers of each case
abbrev pub numbers_of : Result (Option ℕ) Refusal → Numbers
numbers_of (Ok None) = right
numbers_of (Ok (Some b)) = breaks_at b
numbers_of (Err r) = refused_as r

abbrev pub judged : Floor → ℕ → Numbers
judged f b = cond (ltb b (cells f)) (breaks_at b) right

unfoldable pub table_verdict : Floor → List ℕ → ℕ → List ℕ → Numbers
table_verdict f m s t = after_screen (screen (table_lines f m s t)) (judged f (breaking f m s t))

-- For callers from C, whose answer must have a number: a cell that breaks the rule is fault 40 at that cell. 01 gives it no number
abbrev pub as_fault : Numbers → Numbers
as_fault (refused n p) = refused n p
as_fault (fault n p) = fault n p
as_fault (gives []) = right
as_fault (gives (b ∷ bs)) = fault 40 b
