-- 02, R-2: limit 0 tells nothing, and is refused. So the second condition speaks of limits from 1 on, and every answer tells something.
use Rattle.std.specs.Prelude.{◌≡◌, ◌↔◌, ◌≢◌, List, ℕ, ◌≤◌, ◌<◌, length}
use Rattle.floor.specs.declared.Floor.{Floor}
use Rattle.floor.specs.Screen.{Passed}
use Rattle.floor.specs.Refusal.{screen}
use Rattle.floor.specs.Step.{least_step}
use Rattle.answering.specs.Answer.{Answer}
use Rattle.answering.specs.declared.AnswerNumbers.{AnswerNumbers}
use Rattle.answering.specs.Answers.{numbers_of}
use Rattle.answering.specs.Rooms.{Rooms, length_lines}
use Rattle.answering.specs.declared.Question.{Question}
use Rattle.search.specs.Search.{search_lines, Searched, Called}
use Rattle.recordlayout.specs.Record.{question_in, record_for}
use Rattle.desk.specs.Desk.{whole_records, record_at, IsAnswered}

-- n are 01's numbers of the answer to question q: kind 0 is refused, 3 stopped
pub record Tells (q : Question) (n : AnswerNumbers) : Type 0 where
  pub limit_0 : q.limit ≡ 0 → n.kind ≡ 0
  -- what is not refused has settled the start at least
  pub settles : n.kind ≢ 0 → 1 ≤ n.settled
  -- no floor is less than a step costs
  pub floor : n.kind ≡ 3 → least_step ≤ n.number

pub record LimitsFromOne : Type 0 where
  -- "Refuse it as 15, checked after 11": exactly when none of 1 to 11 is given
  pub fifteen : (f : Floor) (m : List ℕ) (q : Question) (r : Rooms) (a : Answer) (r' : Rooms) → Searched f m q r a r'
      → (a ≡ Answer.Refused 15 0)
      ↔ ((q.limit ≡ 0) × (screen (length_lines f m q.start q.goal (length r.costs) (length r.work) (length r.route)) ≡ Passed))
  -- so what passes has a limit from 1 on
  pub passed : (f : Floor) (m : List ℕ) (q : Question) (r : Rooms) → screen (search_lines f m q r) ≡ Passed → 1 ≤ q.limit
  pub search : (f : Floor) (m : List ℕ) (q : Question) (r : Rooms) (a : Answer) (r' : Rooms) → Searched f m q r a r' → Tells q (numbers_of a)
  pub call : (f : Floor) (m : List ℕ) (q : Question) (r : Rooms) (n : AnswerNumbers) (r' : Rooms) → Called f m q r n r' → Tells q n
  pub records : (f : Floor) (m bytes : List ℕ) (r : Rooms) (k : ℕ) (bytes' : List ℕ) (r' : Rooms) → IsAnswered f m bytes r k bytes' r'
      → (i : ℕ) → i < whole_records bytes → (n : AnswerNumbers) × (record_at i bytes' ≡ record_for n) × Tells (question_in (record_at i bytes)) n
