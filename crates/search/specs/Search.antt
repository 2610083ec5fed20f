-- What the search answers and leaves: 01, "The search".
use Rattle.std.specs.Prelude.{◌≡◌, List, [], ◌∷◌, ◌++◌, ℕ, eqb, length}
use Rattle.paths.specs.Table.{Right}
use Rattle.settling.specs.Answer.{Row, costs_left}
use Rattle.floor.specs.declared.Floor.{Floor}
use Rattle.floor.specs.Screen.{Passed, Refused}
use Rattle.floor.specs.Step.{graph}
use Rattle.floor.specs.Refusal.{Line, line, screen}
use Rattle.answering.specs.Answer.{Answer}
use Rattle.answering.specs.declared.AnswerNumbers.{AnswerNumbers}
use Rattle.answering.specs.declared.Question.{Question}
use Rattle.answering.specs.Answers.{row_of, answer_by, numbers_of}
use Rattle.answering.specs.Rooms.{Rooms, length_lines, leaving}

-- 15: the limit is 0 (02, R-2)
abbrev pub limit_line : ℕ → Line
limit_line limit = line 15 (eqb limit 0) 0

-- 1 to 11, and then 15: a search that has a limit
abbrev pub limited_lines : Floor → List ℕ → Question → ℕ → ℕ → ℕ → List Line
limited_lines f m q costs work route = length_lines f m q.start q.goal costs work route ++ (limit_line q.limit ∷ [])

abbrev pub search_lines : Floor → List ℕ → Question → Rooms → List Line
search_lines f m q r = limited_lines f m q (length r.costs) (length r.work) (length r.route)

-- the rooms after an answer: the costs left and the route are the row's
abbrev pub after : Floor → List ℕ → Row → Rooms → Rooms
after f t a r = leaving f (costs_left t a.settled) a.route r

-- the answer and the rooms by the right table of the start
pub record ByTable (f : Floor) (m : List ℕ) (q : Question) (r : Rooms) (a : Answer) (r' : Rooms) : Type 0 where
  pub table : List ℕ
  pub right : Right (graph f m) q.start table
  pub answer : a ≡ answer_by f m q.start (row_of f m q table)
  pub leaves : r' ≡ after f table (row_of f m q table) r

-- The promise: a refusal, which changes nothing, or an answer by the right table
pub data Searched (f : Floor) (m : List ℕ) (q : Question) (r : Rooms) (a : Answer) (r' : Rooms) : Type 0 where
  refused : (n p : ℕ) → screen (search_lines f m q r) ≡ Refused n p → a ≡ Answer.Refused n p → r' ≡ r → Searched f m q r a r'
  passed : screen (search_lines f m q r) ≡ Passed → ByTable f m q r a r' → Searched f m q r a r'

-- The promise of the call from C: the numbers are those of an answer that meets the search's promise
pub record Called (f : Floor) (m : List ℕ) (q : Question) (r : Rooms) (n : AnswerNumbers) (r' : Rooms) : Type 0 where
  pub answer : Answer
  pub searched : Searched f m q r answer r'
  pub numbers : n ≡ numbers_of answer
