-- Records that are answered in place: 01, "The program".
use Rattle.std.specs.Prelude.{◌≡◌, true, false, List, ◌++◌, ℕ, zero, suc, ◌*◌, ◌/◌, length, take, drop}
use Rattle.floor.specs.declared.Floor.{Floor}
use Rattle.floor.specs.Place.{floor_of}
use Rattle.answering.specs.Answer.{Answer}
use Rattle.answering.specs.Rooms.{Rooms}
use Rattle.search.specs.Search.{Searched}
use Rattle.recordlayout.specs.Record.{record_size, question_in, ways_in, ends_in_zeros, record_of}

-- the floor with the ways of a question
abbrev pub with_ways : Floor → ℕ → Floor
with_ways f n = floor_of f.width f.height n

-- One question. 13 is decided before all others, and leaves the rooms; else the search answers
pub data Asked (f : Floor) (m question : List ℕ) (r : Rooms) (a : Answer) (r' : Rooms) : Type 0 where
  no_zeros : ends_in_zeros question ≡ false → a ≡ Answer.Refused 13 0 → r' ≡ r → Asked f m question r a r'
  searched : ends_in_zeros question ≡ true → Searched (with_ways f (ways_in question)) m (question_in question) r a r' → Asked f m question r a r'

-- the first record of a buffer is answered, and then the others, in the rooms as it left them
pub record AnsweredFirst (f : Floor) (m : List ℕ) (Others : List ℕ → Rooms → List ℕ → Rooms → Type 0) (bytes : List ℕ) (r : Rooms) (bytes' : List ℕ) (r' : Rooms) : Type 0 where
  pub answer : Answer
  pub between : Rooms
  pub rest : List ℕ
  pub asked : Asked f m (take record_size bytes) r answer between
  pub others : Others (drop record_size bytes) between rest r'
  pub leaves : bytes' ≡ record_of answer ++ rest

-- the first n records of a buffer are answered in place and in order; the rest of it stays
abbrev pub Answered : Floor → List ℕ → ℕ → List ℕ → Rooms → List ℕ → Rooms → Type 0
Answered f m zero bytes r bytes' r' = (bytes' ≡ bytes) × (r' ≡ r)
Answered f m (suc n) bytes r bytes' r' = AnsweredFirst f m (Answered f m n) bytes r bytes' r'

abbrev pub whole_records : List ℕ → ℕ
whole_records bytes = length bytes / record_size

-- the record at place i of a buffer, counted from 0
abbrev pub record_at : ℕ → List ℕ → List ℕ
record_at i bytes = take record_size (drop (i * record_size) bytes)

-- the promise: every whole record is answered, a broken last one is not; n is the number of bytes that are answers now
pub record IsAnswered (f : Floor) (m bytes : List ℕ) (r : Rooms) (n : ℕ) (bytes' : List ℕ) (r' : Rooms) : Type 0 where
  pub bytes_answered : n ≡ whole_records bytes * record_size
  pub records : Answered f m (whole_records bytes) bytes r bytes' r'
