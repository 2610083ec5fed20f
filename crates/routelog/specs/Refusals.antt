-- R-1's refusals in its words: each is given where none before it applies.
use Rattle.std.specs.Prelude.{◌≡◌, ◌≢◌, ◌⊎◌, true, false, List, ℕ, ◌+◌, ◌≤◌, ◌<◌, length, get_or}
use Rattle.recordlayout.specs.Record.{record_size}
use Rattle.logentries.specs.Entry.{Entry, entry_bytes, route_size, filler, can_be_logged, steps_in}
use Rattle.routelog.specs.Reading.{answer_at, route_at}

-- among the bytes of a route of n directions: a direction above 7, or a wrong filler
pub record WrongByte (n : ℕ) (bytes : List ℕ) : Type 0 where
  pub place : ℕ
  pub within : place < route_size n
  pub wrong : ((place < n) × (7 < get_or bytes place 0)) ⊎ ((n ≤ place) × (get_or bytes place 0 ≢ filler))

-- the two records are there, and the answer is one that can be logged
pub record HasRecords (rest : List ℕ) : Type 0 where
  pub long : record_size + record_size ≤ length rest
  pub logged : can_be_logged (answer_at rest) ≡ true

-- and the bytes of the route are there too
pub record HasRoute (rest : List ℕ) : Type 0 where
  pub records : HasRecords rest
  pub route_long : route_size (steps_in (answer_at rest)) ≤ length (route_at rest)

-- what the reader refuses, for a route room of that length
pub data ReaderRefuses (rest : List ℕ) (room : ℕ) : ℕ → Type 0 where
  ends_in_records : length rest ≢ 0 → length rest < record_size + record_size → ReaderRefuses rest room 61
  answer_wrong : record_size + record_size ≤ length rest → can_be_logged (answer_at rest) ≡ false → ReaderRefuses rest room 62
  ends_in_route : HasRecords rest → length (route_at rest) < route_size (steps_in (answer_at rest)) → ReaderRefuses rest room 61
  route_wrong : HasRoute rest → WrongByte (steps_in (answer_at rest)) (route_at rest) → ReaderRefuses rest room 63
  room_short : HasRoute rest → (WrongByte (steps_in (answer_at rest)) (route_at rest) → ⊥) → room < steps_in (answer_at rest) → ReaderRefuses rest room 64

-- what the writer refuses, for a room of that length
pub data WriterRefuses (e : Entry) (room : ℕ) : ℕ → Type 0 where
  answer_wrong : can_be_logged e.answer ≡ false → WriterRefuses e room 62
  count_wrong : can_be_logged e.answer ≡ true → length e.route ≢ steps_in e.answer → WriterRefuses e room 63
  direction_wrong : can_be_logged e.answer ≡ true → (i : ℕ) → i < length e.route → 7 < get_or e.route i 0 → WriterRefuses e room 63
  room_short : can_be_logged e.answer ≡ true → length e.route ≡ steps_in e.answer → ((i : ℕ) → i < length e.route → get_or e.route i 0 ≤ 7)
      → room < length (entry_bytes e) → WriterRefuses e room 64
