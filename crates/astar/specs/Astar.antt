-- What A* answers and leaves: 02, R-4.
use Rattle.std.specs.Prelude.{◌≡◌, List, ℕ}
use Rattle.paths.specs.Table.{Right}
use Rattle.settling.specs.Answer.{Row}
use Rattle.settling.specs.Aimed.{settled_costs, aimed_of}
use Rattle.floor.specs.declared.Floor.{Floor}
use Rattle.floor.specs.Screen.{Passed, Refused}
use Rattle.floor.specs.Step.{graph}
use Rattle.floor.specs.Estimate.{estimate}
use Rattle.floor.specs.Refusal.{screen}
use Rattle.answering.specs.Answer.{Answer}
use Rattle.answering.specs.declared.AnswerNumbers.{AnswerNumbers}
use Rattle.answering.specs.Answers.{answer_by, numbers_of}
use Rattle.answering.specs.Rooms.{Rooms, lent_lines, leaving}

-- the row that the right table of the start gives: the settled cells are those that the octile estimate leaves
abbrev pub aimed_row : Floor → List ℕ → ℕ → ℕ → List ℕ → Row
aimed_row f m start goal t = aimed_of (graph f m) start t (estimate f goal) goal

-- the rooms after an answer: the costs of the settled cells, and the row's route
abbrev pub aimed_after : Floor → List ℕ → ℕ → ℕ → List ℕ → Rooms → Rooms
aimed_after f m start goal t r = leaving f (settled_costs (estimate f goal) t goal) (aimed_row f m start goal t).route r

-- the answer and the rooms by the right table of the start
pub record AimedTable (f : Floor) (m : List ℕ) (start goal : ℕ) (r : Rooms) (a : Answer) (r' : Rooms) : Type 0 where
  pub table : List ℕ
  pub right : Right (graph f m) start table
  pub answer : a ≡ answer_by f m start (aimed_row f m start goal table)
  pub leaves : r' ≡ aimed_after f m start goal table r

-- The promise: a refusal from 1 to 11, which changes nothing, or an answer by the right table
pub data Aimed (f : Floor) (m : List ℕ) (start goal : ℕ) (r : Rooms) (a : Answer) (r' : Rooms) : Type 0 where
  refused : (n p : ℕ) → screen (lent_lines f m start goal r) ≡ Refused n p → a ≡ Answer.Refused n p → r' ≡ r → Aimed f m start goal r a r'
  passed : screen (lent_lines f m start goal r) ≡ Passed → AimedTable f m start goal r a r' → Aimed f m start goal r a r'

-- The promise of the call from C: the numbers are those of an answer that meets the promise above
pub record AimedCall (f : Floor) (m : List ℕ) (start goal : ℕ) (r : Rooms) (n : AnswerNumbers) (r' : Rooms) : Type 0 where
  pub answer : Answer
  pub aimed : Aimed f m start goal r answer r'
  pub numbers : n ≡ numbers_of answer
