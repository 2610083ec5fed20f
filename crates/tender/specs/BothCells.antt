-- 02, R-3: half the step lies on the cell you leave. What a step costs, that the step back costs the same, and what no answer's cost or floor exceeds.
use Rattle.std.specs.Prelude.{◌≡◌, Ok, List, ◌∷◌, ℕ, ◌+◌, ◌*◌, ◌≤◌, ◌<◌, T, get_or}
use Rattle.paths.specs.Route.{walks, cost_of}
use Rattle.floor.specs.declared.Floor.{Floor}
use Rattle.floor.specs.Direction.{row_of, opposite}
use Rattle.floor.specs.Length.{plus, step_length, length_of}
use Rattle.floor.specs.Refusal.{HasPassed}
use Rattle.floor.specs.Step.{least_step, greatest_step, greatest_cost, step, step_of, graph}
use Rattle.answering.specs.Answer.{Answer}
use Rattle.answering.specs.declared.AnswerNumbers.{AnswerNumbers}
use Rattle.answering.specs.Answers.{numbers_of}
use Rattle.answering.specs.Rooms.{Rooms}
use Rattle.answering.specs.declared.Question.{Question}
use Rattle.search.specs.Search.{Searched, Called}
use Rattle.astar.specs.Astar.{Aimed, AimedCall}
use Rattle.recordlayout.specs.Record.{record_for}
use Rattle.desk.specs.Desk.{whole_records, record_at, IsAnswered}

-- "the sum of the weights of both its cells"
abbrev pub both_weights : List ℕ → ℕ → ℕ → ℕ
both_weights m v w = get_or m v 0 + get_or m w 0

-- n are 01's numbers of an answer: kind 1 is found, 3 stopped
pub record Bounded (n : AnswerNumbers) : Type 0 where
  pub cost : n.kind ≡ 1 → n.number ≤ greatest_cost
  pub floor : n.kind ≡ 3 → n.number ≤ greatest_cost

pub record BothCells : Type 0 where
  -- "A step now costs its unit times" that sum
  pub costs : (f : Floor) (m : List ℕ) (v d w c : ℕ) → step_of f m v d ≡ Ok (step w c) → c ≡ (row_of d).unit * both_weights m v w
  -- "It is the same piece of floor": the step back is allowed, leads back and costs the same
  pub back : (f : Floor) (m : List ℕ) (v d w c : ℕ) → step_of f m v d ≡ Ok (step w c) → step_of f m w (opposite d) ≡ Ok (step v c)
  -- the bounds of a step's cost
  pub between : (f : Floor) (m : List ℕ) → HasPassed f m → (v d w c : ℕ) → step_of f m v d ≡ Ok (step w c) → (least_step ≤ c) × (c ≤ greatest_step)
  -- "P and Q sum the same pairs": P over straight steps, Q over diagonal ones
  pub sums : (f : Floor) (m : List ℕ) (v d w c : ℕ) (ds : List ℕ) → step_of f m v d ≡ Ok (step w c)
      → length_of f m v (d ∷ ds) ≡ plus (step_length d (both_weights m v w)) (length_of f m w ds)
  -- and so every allowed route costs 70 P + 99 Q
  pub route : (f : Floor) (m : List ℕ) (v : ℕ) (ds : List ℕ) → T (walks (graph f m) v ds)
      → cost_of (graph f m) v ds ≡ 70 * (length_of f m v ds).whole + 99 * (length_of f m v ds).root
  -- "The greatest cost": no answer has a cost or a floor above it
  pub search : (f : Floor) (m : List ℕ) (q : Question) (r : Rooms) (a : Answer) (r' : Rooms) → Searched f m q r a r' → Bounded (numbers_of a)
  pub call : (f : Floor) (m : List ℕ) (q : Question) (r : Rooms) (n : AnswerNumbers) (r' : Rooms) → Called f m q r n r' → Bounded n
  pub records : (f : Floor) (m bytes : List ℕ) (r : Rooms) (k : ℕ) (bytes' : List ℕ) (r' : Rooms) → IsAnswered f m bytes r k bytes' r'
      → (i : ℕ) → i < whole_records bytes → (n : AnswerNumbers) × (record_at i bytes' ≡ record_for n) × Bounded n
  pub astar : (f : Floor) (m : List ℕ) (start goal : ℕ) (r : Rooms) (a : Answer) (r' : Rooms) → Aimed f m start goal r a r' → Bounded (numbers_of a)
  pub astar_call : (f : Floor) (m : List ℕ) (start goal : ℕ) (r : Rooms) (n : AnswerNumbers) (r' : Rooms) → AimedCall f m start goal r n r' → Bounded n
