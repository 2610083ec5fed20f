-- The first condition of the tender, of refusals: each is given exactly when 01 says, and changes nothing in lent memory.
-- That every call ends, keeps to the memory lent to it and relies on no check by its caller is not said here: no crate builds otherwise (docs/PROMISES.md).
use Rattle.std.specs.Prelude.{◌≡◌, ◌↔◌, ◌⊎◌, true, false, Option, Result, List, ℕ, ◌/◌, ◌%◌, ◌≤◌, ◌<◌, length}
use Rattle.paths.specs.Graph.{MARK}
use Rattle.floor.specs.declared.Floor.{Floor}
use Rattle.floor.specs.declared.refusals.Refusal.{Refusal}
use Rattle.floor.specs.declared.written.WrittenNumbers.{WrittenNumbers}
use Rattle.floor.specs.Screen.{screened}
use Rattle.floor.specs.Refusal.{screen, map_lines, floor_lines, question_lines}
use Rattle.floor.specs.LowestLine.{IsLowestLine}
use Rattle.floor.specs.Numbers.{refused, numbers_of, written_as, written_numbers}
use Rattle.maptext.specs.declared.ReadNumbers.{ReadNumbers}
use Rattle.maptext.specs.Text.{write_lines, IsWritten}
use Rattle.maptext.specs.Reading as reading
use Rattle.maptext.specs.Reading.{read, reading_of, read_for, IsRead}
use Rattle.maptext.specs.Calls.{read_numbers, ReadCalled, WriteCalled}
use Rattle.maptext.specs.Faults.{IsFirstFault}
use Rattle.claims.specs.declared.FaultAt.{FaultAt}
use Rattle.claims.specs.Route as route
use Rattle.claims.specs.Route.{Claim, claim_lines, route_verdict, packed}
use Rattle.claims.specs.Table as table
use Rattle.claims.specs.Table.{table_lines, table_verdict, as_fault}
use Rattle.answering.specs.Answer.{Answer}
use Rattle.answering.specs.declared.AnswerNumbers.{AnswerNumbers}
use Rattle.answering.specs.Answers as answer
use Rattle.answering.specs.Rooms.{Rooms, lent_lines}
use Rattle.answering.specs.declared.Question.{Question}
use Rattle.search.specs.Search.{search_lines, Searched, Called}
use Rattle.astar.specs.Astar.{Aimed, AimedCall}
use Rattle.routelog.specs.declared.EntryRead.{EntryRead}
use Rattle.routelog.specs.declared.EntryNumbers.{EntryNumbers}
use Rattle.logentries.specs.Entry.{Entry}
use Rattle.routelog.specs.Reading as log-read
use Rattle.routelog.specs.Writing as log_written
use Rattle.routelog.specs.Calls as log-calls
use Rattle.routelog.specs.Refusals.{ReaderRefuses, WriterRefuses}
use Rattle.mapuse.specs.Use.{greatest_text, greatest_used_side, IsUsed}
use Rattle.recordlayout.specs.Record.{question_in, ways_in, ends_in_zeros, record_of}
use Rattle.desk.specs.Desk.{with_ways, Asked, whole_records, record_at, IsAnswered}

-- `refused n p`: the answer is refusal n with place p; `due n p`: 01 says so; `same`: every lent room is as it was
pub record Refuses (due refused : ℕ → ℕ → Type 0) (same : Type 0) : Type 0 where
  pub exactly : (n p : ℕ) → refused n p ↔ due n p
  pub alters_nothing : (n p : ℕ) → refused n p → same

-- the program's map: a text that is too long; then what the reader refuses; then a side that is too great
pub data IsUnusable (text : List ℕ) (room n p : ℕ) : Type 0 where
  too_long : greatest_text < length text → n ≡ 14 → p ≡ 0 → IsUnusable text room n p
  unread : length text ≤ greatest_text → IsFirstFault text room n p → IsUnusable text room n p
  too_great : length text ≤ greatest_text → (w h : ℕ) (m : List ℕ) → reading_of text room ≡ read w h m → (greatest_used_side < w) ⊎ (greatest_used_side < h)
      → n ≡ 14 → p ≡ 0 → IsUnusable text room n p

-- a question record: 13 is decided before all others; then what the search refuses
pub data IsRefusable (f : Floor) (m question : List ℕ) (r : Rooms) (n p : ℕ) : Type 0 where
  zeros_missing : ends_in_zeros question ≡ false → n ≡ 13 → p ≡ 0 → IsRefusable f m question r n p
  not_searched : ends_in_zeros question ≡ true → IsLowestLine (search_lines (with_ways f (ways_in question)) m (question_in question) r) n p
      → IsRefusable f m question r n p

-- the number of a check's call says refusal n at place p: a table that breaks the rule has number 40, and a route's fault one from 41 on
pub record SaysRefused (x n p : ℕ) : Type 0 where
  pub number : x / 4294967296 ≡ n
  pub place : x % 4294967296 ≡ p
  pub no_fault : n < 40
  pub not_held : 0 < n

-- the numbers of a call of the route log say refusal n at place p: 0 is none, and an empty rest of a file has no other
pub record Says (refusal place n p : ℕ) : Type 0 where
  pub number : refusal ≡ n
  pub at : place ≡ p
  pub some : 0 < n

-- The checks are lent nothing to write to: what they answer is all that they do
pub record FirstCondition : Type 0 where
  pub search : (f : Floor) (m : List ℕ) (q : Question) (r : Rooms) (a : Answer) (r' : Rooms) → Searched f m q r a r'
      → Refuses (IsLowestLine (search_lines f m q r)) (λ n p. a ≡ Answer.Refused n p) (r' ≡ r)
  pub search_call : (f : Floor) (m : List ℕ) (q : Question) (r : Rooms) (x : AnswerNumbers) (r' : Rooms) → Called f m q r x r'
      → Refuses (IsLowestLine (search_lines f m q r)) (λ n p. x ≡ answer.numbers_of (Answer.Refused n p)) (r' ≡ r)
  -- A*: refusals 1 to 11
  pub astar : (f : Floor) (m : List ℕ) (start goal : ℕ) (r : Rooms) (a : Answer) (r' : Rooms) → Aimed f m start goal r a r'
      → Refuses (IsLowestLine (lent_lines f m start goal r)) (λ n p. a ≡ Answer.Refused n p) (r' ≡ r)
  pub astar_call : (f : Floor) (m : List ℕ) (start goal : ℕ) (r : Rooms) (x : AnswerNumbers) (r' : Rooms) → AimedCall f m start goal r x r'
      → Refuses (IsLowestLine (lent_lines f m start goal r)) (λ n p. x ≡ answer.numbers_of (Answer.Refused n p)) (r' ≡ r)
  pub route_check : (f : Floor) (m : List ℕ) (c : Claim) (v : Result (Result ℕ FaultAt) Refusal) → route.numbers_of v ≡ route_verdict f m c
      → (n p : ℕ) → (route.numbers_of v ≡ refused n p) ↔ IsLowestLine (claim_lines f m c) n p
  pub route_call : (f : Floor) (m : List ℕ) (c : Claim) → c.cost ≤ MARK → (x : ℕ) → x ≡ packed (route_verdict f m c)
      → (n p : ℕ) → SaysRefused x n p ↔ IsLowestLine (claim_lines f m c) n p
  pub table_check : (f : Floor) (m : List ℕ) (s : ℕ) (t : List ℕ) (v : Result (Option ℕ) Refusal) → table.numbers_of v ≡ table_verdict f m s t
      → (n p : ℕ) → (table.numbers_of v ≡ refused n p) ↔ IsLowestLine (table_lines f m s t) n p
  pub table_call : (f : Floor) (m : List ℕ) (s : ℕ) (t : List ℕ) (x : ℕ) → x ≡ packed (as_fault (table_verdict f m s t))
      → (n p : ℕ) → SaysRefused x n p ↔ IsLowestLine (table_lines f m s t) n p
  pub writer : (f : Floor) (m room : List ℕ) (w : Result ℕ Refusal) (room' : List ℕ) → IsWritten f m room w room'
      → Refuses (IsLowestLine (write_lines f m (length room))) (λ n p. written_as w ≡ refused n p) (room' ≡ room)
  pub writer_call : (f : Floor) (m room : List ℕ) (x : WrittenNumbers) (room' : List ℕ) → WriteCalled f m room x room'
      → Refuses (IsLowestLine (write_lines f m (length room))) (λ n p. x ≡ written_numbers (refused n p)) (room' ≡ room)
  pub reader : (text room : List ℕ) (r : Result Floor Refusal) (room' : List ℕ) → IsRead text room r room'
      → Refuses (IsFirstFault text (length room)) (λ n p. reading.numbers_of r ≡ refused n p) (room' ≡ room)
  pub reader_call : (text room : List ℕ) (x : ReadNumbers) (room' : List ℕ) → ReadCalled text room x room'
      → Refuses (IsFirstFault text (length room)) (λ n p. x ≡ read_numbers (refused n p)) (room' ≡ room)
  pub judge : (text : List ℕ) (room : ℕ) (r : Result Floor Refusal) → reading.numbers_of r ≡ read_for (reading_of text room)
      → (n p : ℕ) → (reading.numbers_of r ≡ refused n p) ↔ IsFirstFault text room n p
  pub judge_call : (text : List ℕ) (room : ℕ) (x : ReadNumbers) → x ≡ read_numbers (read_for (reading_of text room))
      → (n p : ℕ) → (x ≡ read_numbers (refused n p)) ↔ IsFirstFault text room n p
  pub program_map : (text room : List ℕ) (r : Result Floor Refusal) (room' : List ℕ) → IsUsed text room r room'
      → Refuses (IsUnusable text (length room)) (λ n p. reading.numbers_of r ≡ refused n p) (room' ≡ room)
  pub program_question : (f : Floor) (m question : List ℕ) (r : Rooms) (a : Answer) (r' : Rooms) → Asked f m question r a r'
      → Refuses (IsRefusable f m question r) (λ n p. a ≡ Answer.Refused n p) (r' ≡ r)
  -- record i of a buffer is answered with refusal n exactly when it is to be; a record says no place
  pub program_records : (f : Floor) (m bytes : List ℕ) (r : Rooms) (k : ℕ) (bytes' : List ℕ) (r' : Rooms) → IsAnswered f m bytes r k bytes' r'
      → (i : ℕ) → i < whole_records bytes → (n : ℕ)
      → ((p : ℕ) × (record_at i bytes' ≡ record_of (Answer.Refused n p))) ↔ ((p : ℕ) × IsRefusable f m (record_at i bytes) r n p)
  -- the screens that the entries share: 1 to 3, 1 to 4, 1 to 8
  pub map_screen : (f : Floor) (m : List ℕ) (x : Result (Unit {0}) Refusal) → screened x ≡ screen (map_lines f m)
      → (n p : ℕ) → (numbers_of (screened x) ≡ refused n p) ↔ IsLowestLine (map_lines f m) n p
  pub floor_screen : (f : Floor) (m : List ℕ) (x : Result (Unit {0}) Refusal) → screened x ≡ screen (floor_lines f m)
      → (n p : ℕ) → (numbers_of (screened x) ≡ refused n p) ↔ IsLowestLine (floor_lines f m) n p
  pub question_screen : (f : Floor) (m : List ℕ) (s g : ℕ) (x : Result (Unit {0}) Refusal) → screened x ≡ screen (question_lines f m s g)
      → (n p : ℕ) → (numbers_of (screened x) ≡ refused n p) ↔ IsLowestLine (question_lines f m s g) n p
  -- the route log, in 02's words; its refusals have place 0
  pub log_reader : (rest room : List ℕ) (r : Result (Option EntryRead) Refusal) (room' : List ℕ) → log-read.IsRead rest room r room'
      → Refuses (λ n p. ReaderRefuses rest (length room) n × (p ≡ 0)) (λ n p. log-read.numbers_of r ≡ refused n p) (room' ≡ room)
  pub log_reader_call : (rest room : List ℕ) (x : EntryNumbers) (room' : List ℕ) → log-calls.ReadCalled rest room x room'
      → Refuses (λ n p. ReaderRefuses rest (length room) n × (p ≡ 0)) (Says x.refusal x.place) (room' ≡ room)
  pub log_writer : (e : Entry) (room : List ℕ) (w : Result ℕ Refusal) (room' : List ℕ) → log_written.IsWritten e room w room'
      → Refuses (λ n p. WriterRefuses e (length room) n × (p ≡ 0)) (λ n p. written_as w ≡ refused n p) (room' ≡ room)
  pub log_writer_call : (e : Entry) (room : List ℕ) (x : WrittenNumbers) (room' : List ℕ) → log-calls.WriteCalled e room x room'
      → Refuses (λ n p. WriterRefuses e (length room) n × (p ≡ 0)) (Says x.refusal x.place) (room' ≡ room)
