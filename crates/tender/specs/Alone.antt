-- Every question is answered as if it were asked alone: what the rooms held before does not show, nor do the other records of a buffer.
use Rattle.std.specs.Prelude.{◌≡◌, List, ℕ, ◌*◌, ◌<◌, take, drop}
use Rattle.floor.specs.declared.Floor.{Floor}
use Rattle.floor.specs.Screen.{Passed}
use Rattle.floor.specs.Place.{cells}
use Rattle.floor.specs.Refusal.{screen}
use Rattle.answering.specs.Answer.{Answer}
use Rattle.answering.specs.Answers.{numbers_of}
use Rattle.answering.specs.Rooms.{Rooms}
use Rattle.answering.specs.declared.Question.{Question}
use Rattle.search.specs.Search.{search_lines, Searched}
use Rattle.recordlayout.specs.Record.{record_size}
use Rattle.desk.specs.Desk.{whole_records, record_at, IsAnswered}
use Rattle.tender.specs.SearchTable.{SameLengths}

-- the parts of the rooms that a search writes hold the same; n is the length of the route
pub record SameWritten (f : Floor) (n : ℕ) (r p : Rooms) : Type 0 where
  pub costs : take (cells f) r.costs ≡ take (cells f) p.costs
  pub work : take (2 * cells f) r.work ≡ take (2 * cells f) p.work
  pub route : take n r.route ≡ take n p.route

-- r and p are rooms of the same lengths that hold anything
pub record AsIfAlone : Type 0 where
  pub search : (f : Floor) (m : List ℕ) (q : Question) (r p : Rooms) → SameLengths r p
      → (a b : Answer) (r' p' : Rooms) → Searched f m q r a r' → Searched f m q p b p'
      → (a ≡ b) × (screen (search_lines f m q r) ≡ Passed → SameWritten f (numbers_of a).length r' p')
  -- each whole record has the answer that it gets as the only record of a buffer; what follows the last stays
  pub each : (f : Floor) (m bytes : List ℕ) (r : Rooms) (n : ℕ) (bytes' : List ℕ) (r' : Rooms) → IsAnswered f m bytes r n bytes' r'
      → (p : Rooms) → SameLengths r p → (i : ℕ) → i < whole_records bytes
      → (p' : Rooms) × IsAnswered f m (record_at i bytes) p record_size (record_at i bytes') p'
  pub rest : (f : Floor) (m bytes : List ℕ) (r : Rooms) (n : ℕ) (bytes' : List ℕ) (r' : Rooms) → IsAnswered f m bytes r n bytes' r'
      → drop n bytes' ≡ drop n bytes
