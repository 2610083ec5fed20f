-- The route log, 02's R-1, over the promises of its functions and of the program: what is written is read back, what is read is written back, a torn file
-- loses no whole entry, and every answer can be logged. What is refused is in FirstCondition.
use Rattle.std.specs.Prelude.{◌≡◌, ◌≢◌, Option, Some, Result, Ok, List, [], ◌∷◌, ◌++◌, ℕ, ◌≤◌, ◌<◌, length, take, drop}
use Rattle.floor.specs.declared.Floor.{Floor}
use Rattle.floor.specs.declared.refusals.Refusal.{Refusal}
use Rattle.floor.specs.declared.written.WrittenNumbers.{WrittenNumbers}
use Rattle.floor.specs.Screen.{Passed}
use Rattle.floor.specs.Place.{cells}
use Rattle.floor.specs.Numbers.{gives, written_numbers}
use Rattle.answering.specs.Answer.{Answer}
use Rattle.answering.specs.Answers.{numbers_of}
use Rattle.answering.specs.Rooms.{Rooms}
use Rattle.recordlayout.specs.Record.{record_size, record_of}
use Rattle.routelog.specs.declared.EntryRead.{EntryRead}
use Rattle.routelog.specs.declared.EntryNumbers.{EntryNumbers}
use Rattle.logentries.specs.Entry.{Entry, entry_of, IsEntry}
use Rattle.routelog.specs.Reading.{refused, reading_of, greatest_entry, IsRead}
use Rattle.routelog.specs.Writing.{IsWritten}
use Rattle.routelog.specs.Calls.{entry_numbers, ReadCalled, WriteCalled}
use Rattle.routelog.specs.File.{file_bytes, log_with, log_of, AllEntries, whole_before, cut_ending}
use Rattle.mapuse.specs.Use.{greatest_used_cells}
use Rattle.desk.specs.Desk.{Asked, whole_records, record_at, IsAnswered}
use Rattle.tender.specs.SearchTable.{SameLengths}

-- an answer record that can be logged with the route that was left for it, and with no other count of directions; the rooms have the lengths of r
pub record CanBeEntered (f : Floor) (m : List ℕ) (r : Rooms) (question answer : List ℕ) : Type 0 where
  pub before : Rooms
  pub lengths : SameLengths r before
  pub given : Answer
  pub after : Rooms
  pub asked : Asked f m question before given after
  pub is_record : answer ≡ record_of given
  pub entered : IsEntry (entry_of question answer (take (numbers_of given).length after.route))
  pub no_other : (ds : List ℕ) → IsEntry (entry_of question answer ds) → length ds ≡ (numbers_of given).length

pub record RouteLog : Type 0 where
  -- "Writing then reading gives the same entries": one entry, whatever follows it in the file
  pub reads_back : (e : Entry) → length e.question ≡ record_size → length e.answer ≡ record_size
      → (room room' : List ℕ) (n : ℕ) → IsWritten e room (Ok n) room'
      → (more route route' : List ℕ) (r : Result (Option EntryRead) Refusal) → IsRead (take n room' ++ more) route r route' → length e.route ≤ length route
      → (r ≡ Ok (Some (record { length = length e.route; taken = n; question = e.question; answer = e.answer }))) × (route' ≡ e.route ++ drop (length e.route) route)
  -- and so for the two calls from C, where a refusal of 0 says that the entry was written
  pub reads_back_call : (e : Entry) → length e.question ≡ record_size → length e.answer ≡ record_size
      → (room room' : List ℕ) (n : WrittenNumbers) → WriteCalled e room n room' → n.refusal ≡ 0
      → (more route route' : List ℕ) (k : EntryNumbers) → ReadCalled (take n.length room' ++ more) route k route' → length e.route ≤ length route
      → (k ≡ entry_numbers (gives (length e.route ∷ n.length ∷ [])) e.question e.answer) × (route' ≡ e.route ++ drop (length e.route) route)
  -- and whole files
  pub file_read : (room : ℕ) (es : List Entry) → AllEntries room es → log_of (file_bytes es) room ≡ log_with es Passed
  -- "a file that is read writes back byte for byte": one entry
  pub writes_back : (rest route route' : List ℕ) (r : EntryRead) → IsRead rest route (Ok (Some r)) route'
      → (room room' : List ℕ) (w : Result ℕ Refusal) → IsWritten (entry_of r.question r.answer (take r.length route')) room w room' → r.taken ≤ length room
      → (w ≡ Ok r.taken) × (room' ≡ take r.taken rest ++ drop r.taken room)
  -- and so for the two calls
  pub writes_back_call : (rest route route' : List ℕ) (k : EntryNumbers) → ReadCalled rest route k route' → k.refusal ≡ 0 → 0 < k.taken
      → (room room' : List ℕ) (n : WrittenNumbers) → WriteCalled (entry_of k.question k.answer (take k.length route')) room n room'
      → k.taken ≤ length room
      → (n ≡ written_numbers (gives (k.taken ∷ []))) × (room' ≡ take k.taken rest ++ drop k.taken room)
  -- and whole files
  pub file_written : (room : ℕ) (file : List ℕ) (es : List Entry) → log_of file room ≡ log_with es Passed → file_bytes es ≡ file
  pub one_list : (room : ℕ) (es fs : List Entry) → AllEntries room es → AllEntries room fs → file_bytes es ≡ file_bytes fs → es ≡ fs
  -- cut at any byte, a file reads as the entries that are whole before the cut, and then as empty or 61
  pub torn : (room : ℕ) (es : List Entry) → AllEntries room es → (n : ℕ) → n ≤ length (file_bytes es)
      → log_of (take n (file_bytes es)) room ≡ log_with (whole_before n es) (cut_ending n es)
  -- as many bytes of the rest of a file as the longest entry has, or all that are left, read as the rest does
  pub window : (rest : List ℕ) (room n : ℕ) → greatest_entry ≤ n → reading_of (take n rest) room ≡ reading_of rest room
  -- and a piece of any length but 0 that is not refused as 61 reads as the file does
  pub piece : (bytes more : List ℕ) (room : ℕ) → length bytes ≢ 0 → reading_of bytes room ≢ refused 61 0 → reading_of (bytes ++ more) room ≡ reading_of bytes room
  -- every record that the program answers can be logged with its question and its route
  pub answers : (f : Floor) (m bytes : List ℕ) (r : Rooms) (k : ℕ) (bytes' : List ℕ) (r' : Rooms) → IsAnswered f m bytes r k bytes' r' → cells f ≤ greatest_used_cells
      → (i : ℕ) → i < whole_records bytes → CanBeEntered f m r (record_at i bytes) (record_at i bytes')
