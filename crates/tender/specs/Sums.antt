-- 02, R-6: the two sums in the answer. What P, Q and the cost tell by themselves, and so what can be read off a record's bytes with no map and no route at hand;
-- and which of them the log takes.
use Rattle.std.specs.Prelude.{◌≡◌, ◌≢◌, ◌⊎◌, false, List, ℕ, ◌+◌, ◌*◌, ◌≤◌, ◌<◌, T, get_or}
use Rattle.floor.specs.declared.Floor.{Floor}
use Rattle.floor.specs.declared.RouteLength.{RouteLength}
use Rattle.floor.specs.Length.{Surd, surd, at_most, times, squared}
use Rattle.floor.specs.Step.{greatest_cost}
use Rattle.answering.specs.Answer.{Answer, Found}
use Rattle.answering.specs.declared.AnswerNumbers.{AnswerNumbers}
use Rattle.answering.specs.Answers.{numbers_of}
use Rattle.answering.specs.Rooms.{Rooms}
use Rattle.answering.specs.declared.Question.{Question}
use Rattle.search.specs.Search.{Searched, Called}
use Rattle.astar.specs.Astar.{Aimed, AimedCall}
use Rattle.recordlayout.specs.Record.{record_of, answer_in}
use Rattle.logentries.specs.Entry.{can_be_logged}
use Rattle.desk.specs.Desk.{whole_records, record_at, IsAnswered}
use Rattle.tender.specs.ThirdCondition.{twice_square}

-- k × (P + Q√2)²
abbrev pub times_sums : ℕ → AnswerNumbers → Surd
times_sums k n = times k (squared (surd n.p n.q))

-- n are the numbers of an answer: kind 1 is found
pub record SumsTell (n : AnswerNumbers) : Type 0 where
  pub cost : n.kind ≡ 1 → n.number ≡ 70 * n.p + 99 * n.q
  -- 9800 × (P + Q√2)² ≤ 2 × cost² ≤ 9801 × (P + Q√2)²
  pub above : n.kind ≡ 1 → T (at_most (times_sums 9800 n) (twice_square n.number))
  pub below : n.kind ≡ 1 → T (at_most (twice_square n.number) (times_sums 9801 n))
  -- "they are 0 for every other answer"
  pub others : n.kind ≢ 1 → (n.p ≡ 0) × (n.q ≡ 0)
  -- and neither comes near to what 32 bits hold
  pub bounded : 70 * n.p + 99 * n.q ≤ greatest_cost

pub record TwoSums : Type 0 where
  pub search : (f : Floor) (m : List ℕ) (q : Question) (r : Rooms) (a : Answer) (r' : Rooms) → Searched f m q r a r' → SumsTell (numbers_of a)
  pub call : (f : Floor) (m : List ℕ) (q : Question) (r : Rooms) (n : AnswerNumbers) (r' : Rooms) → Called f m q r n r' → SumsTell n
  -- of each record of a buffer, by the numbers that are read from its bytes
  pub records : (f : Floor) (m bytes : List ℕ) (r : Rooms) (k : ℕ) (bytes' : List ℕ) (r' : Rooms) → IsAnswered f m bytes r k bytes' r'
      → (i : ℕ) → i < whole_records bytes → SumsTell (answer_in (record_at i bytes'))
  pub astar : (f : Floor) (m : List ℕ) (start goal : ℕ) (r : Rooms) (a : Answer) (r' : Rooms) → Aimed f m start goal r a r' → SumsTell (numbers_of a)
  pub astar_call : (f : Floor) (m : List ℕ) (start goal : ℕ) (r : Rooms) (n : AnswerNumbers) (r' : Rooms) → AimedCall f m start goal r n r' → SumsTell n
  -- of the log: "62 also if one of these eight isn't 0, or P or Q isn't 0 in an answer other than found"
  pub eight_zeros : (answer : List ℕ) (i : ℕ) → i < 8 → get_or answer (24 + i) 0 ≢ 0 → can_be_logged answer ≡ false
  pub no_sums : (answer : List ℕ) → (answer_in answer).kind ≢ 1 → ((answer_in answer).p ≢ 0) ⊎ ((answer_in answer).q ≢ 0) → can_be_logged answer ≡ false
  -- "P and Q aren't tested against the cost": whether a found answer can be logged is the same for any
  pub untested : (settled cost : ℕ) (l k : RouteLength) → l.steps ≡ k.steps → can_be_logged (record_of (Found settled cost l)) ≡ can_be_logged (record_of (Found settled cost k))
