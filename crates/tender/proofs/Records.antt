-- The records of a buffer, one by one: the first lies apart from the others, and the rooms keep their lengths from one to the next. What holds of searches and refusals then holds of each.
use mathlib.Core.Path.{◌≡◌, refl, sym, ◌∙◌, ap}
use mathlib.Core.List.{List, ◌++◌}
use Prim.Native.Nat.{ℕ, zero, suc, ◌+◌, ◌*◌, ◌<◌}
use native.Mathlib.Omega.{arith}
use lib.ListN.{take, drop}
use lib.Seq.{take_at, drop_at, drop-drop}
use Rattle.floor.specs.declared.Floor.{Floor}
use Rattle.answering.specs.Answer.{Answer}
use Rattle.answering.specs.declared.AnswerNumbers.{AnswerNumbers}
use Rattle.answering.specs.Answers.{numbers_of}
use Rattle.answering.specs.Rooms.{Rooms}
use Rattle.answering.specs.declared.Question.{Question}
use Rattle.search.specs.Search.{Searched}
use Rattle.recordlayout.specs.Record.{record_size, question_in, ways_in, record_for, record_of}
use Rattle.desk.specs.Desk.{with_ways, Asked, no_zeros, searched, whole_records, Answered, record_at, IsAnswered}
use Rattle.recordlayout.proofs.Records.{record_length}
use Rattle.tender.specs.SearchTable.{SameLengths}
use Rattle.tender.proofs.Searches.{search_lengths}

pub same_length : {r : Rooms} → SameLengths r r
same_length = record { costs = refl; work = refl; route = refl }

-- rooms that have the lengths of the same rooms
pub alike : {r p s : Rooms} → SameLengths r p → SameLengths r s → SameLengths p s
alike a b = record { costs = b.costs ∙ sym a.costs; work = b.work ∙ sym a.work; route = b.route ∙ sym a.route }

pub further : {r p s : Rooms} → SameLengths r p → SameLengths p s → SameLengths r s
further a b = record { costs = b.costs ∙ a.costs; work = b.work ∙ a.work; route = b.route ∙ a.route }

pub record_numbers : (a : Answer) → record_of a ≡ record_for (numbers_of a)
unfolding record_of
record_numbers a = refl

module _ (f : Floor) (m : List ℕ) where
  asked_lengths : {question : List ℕ} {r : Rooms} {a : Answer} {r' : Rooms} → Asked f m question r a r' → SameLengths r r'
  asked_lengths (no_zeros z e l) = rw l same_length
  asked_lengths (searched z x) = search_lengths x

  -- a question that has been answered in rooms of the lengths of r
  pub record AnsweredIn (r : Rooms) (question out : List ℕ) : Type 0 where
    pub rooms : Rooms
    pub lengths : SameLengths r rooms
    pub answer : Answer
    pub left : Rooms
    pub asked : Asked f m question rooms answer left
    pub leaves : out ≡ record_of answer

  -- in a buffer the first record lies apart from the others
  drop_first : (k : ℕ) (bytes : List ℕ) → drop (suc k * record_size) bytes ≡ drop (k * record_size) (drop record_size bytes)
  drop_first k bytes = let e : suc k * record_size ≡ record_size + k * record_size = omega arith in rw e (sym (drop-drop (k * record_size) record_size bytes))

  behind_answer : (k : ℕ) (a : Answer) (rest bytes' : List ℕ) → bytes' ≡ record_of a ++ rest → drop (suc k * record_size) bytes' ≡ drop (k * record_size) rest
  behind_answer k a rest bytes' e =
      drop_first k bytes' ∙ ap (drop (k * record_size)) (ap (drop record_size) e ∙ drop_at (record_of a) rest record_size (record_length a))

  pub answered_each : (n : ℕ) (bytes : List ℕ) (r : Rooms) (bytes' : List ℕ) (r' : Rooms) → Answered f m n bytes r bytes' r'
      → (i : ℕ) → i < n → AnsweredIn r (record_at i bytes) (record_at i bytes')
  answered_each zero bytes r bytes' r' x i h = absurd (omega arith)
  answered_each (suc n) bytes r bytes' r' x zero h = record {
    rooms = r;
    lengths = same_length;
    answer = x.answer;
    left = x.between;
    asked = x.asked;
    leaves = ap (take record_size) x.leaves ∙ take_at (record_of x.answer) x.rest record_size (record_length x.answer);
  }
  answered_each (suc n) bytes r bytes' r' x (suc i) h =
      let ih = answered_each n (drop record_size bytes) x.between x.rest r' x.others i (omega arith) in
      record {
        rooms = ih.rooms;
        lengths = further (asked_lengths x.asked) ih.lengths;
        answer = ih.answer;
        left = ih.left;
        asked = rw (drop_first i bytes) ih.asked;
        leaves = ap (take record_size) (behind_answer i x.answer x.rest bytes' x.leaves) ∙ ih.leaves;
      }

  pub rest_stays : (n : ℕ) (bytes : List ℕ) (r : Rooms) (bytes' : List ℕ) (r' : Rooms) → Answered f m n bytes r bytes' r'
      → drop (n * record_size) bytes' ≡ drop (n * record_size) bytes
  rest_stays zero bytes r bytes' r' x = ap (drop (zero * record_size)) x.0
  rest_stays (suc n) bytes r bytes' r' x =
      behind_answer n x.answer x.rest bytes' x.leaves
      ∙ rest_stays n (drop record_size bytes) x.between x.rest r' x.others ∙ sym (drop_first n bytes)

-- what holds of every search and of every refusal, by the route room that is left, holds of every record of a buffer
module _ (Holds : Floor → List ℕ → Question → AnswerNumbers → List ℕ → Type 0)
    (of_search : (f : Floor) (m : List ℕ) (q : Question) (r : Rooms) (a : Answer) (r' : Rooms) → Searched f m q r a r' → Holds f m q (numbers_of a) r'.route)
    (of_refusal : (f : Floor) (m : List ℕ) (q : Question) (n p : ℕ) (room : List ℕ) → Holds f m q (numbers_of (Answer.Refused n p)) room) where
  of_asked : (f : Floor) (m question : List ℕ) (r : Rooms) (a : Answer) (r' : Rooms) → Asked f m question r a r'
      → Holds (with_ways f (ways_in question)) m (question_in question) (numbers_of a) r'.route
  of_asked f m question r a r' (no_zeros z e l) = rw e (of_refusal (with_ways f (ways_in question)) m (question_in question) 13 0 r'.route)
  of_asked f m question r a r' (searched z x) = of_search (with_ways f (ways_in question)) m (question_in question) r a r' x

  pub each_record : (f : Floor) (m bytes : List ℕ) (r : Rooms) (k : ℕ) (bytes' : List ℕ) (r' : Rooms) → IsAnswered f m bytes r k bytes' r'
      → (i : ℕ) → i < whole_records bytes
      → (n : AnswerNumbers) × (record_at i bytes' ≡ record_for n)
      × ((room : List ℕ) × Holds (with_ways f (ways_in (record_at i bytes))) m (question_in (record_at i bytes)) n room)
  each_record f m bytes r k bytes' r' x i h =
      let y = answered_each f m (whole_records bytes) bytes r bytes' r' x.records i h in
      (numbers_of y.answer, y.leaves ∙ record_numbers y.answer, (y.left.route, of_asked f m (record_at i bytes) y.rooms y.answer y.left y.asked))
