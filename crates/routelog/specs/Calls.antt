-- What the calls from C promise: the numbers of the reader and the writer in a struct, in which those that a case does not have are 0.
-- An entry takes at least two records, so that no refusal and no byte taken is the rest that is empty.
use Rattle.std.specs.Prelude.{◌≡◌, List, ℕ, length, get_or}
use Rattle.floor.specs.declared.written.WrittenNumbers.{WrittenNumbers}
use Rattle.floor.specs.Numbers.{Numbers, refused, fault, gives, written_numbers}
use Rattle.floor.specs.Refusal.{screen}
use Rattle.routelog.specs.declared.EntryNumbers.{EntryNumbers}
use Rattle.logentries.specs.Entry.{Entry}
use Rattle.routelog.specs.Reading.{Reading, reading_of, outcome_for, question_for, answer_for, route_left}
use Rattle.routelog.specs.Writing.{write_lines, written_for, entry_left}

-- refusal and place, or the route's length and how many bytes the entry took; and the two records
abbrev pub entry_numbers : Numbers → List ℕ → List ℕ → EntryNumbers
entry_numbers (refused n p) q a = record { refusal = n; place = p; length = 0; taken = 0; question = q; answer = a }
entry_numbers (fault n p) q a = record { refusal = n; place = p; length = 0; taken = 0; question = q; answer = a }
entry_numbers (gives vs) q a = record { refusal = 0; place = 0; length = get_or vs 0 0; taken = get_or vs 1 0; question = q; answer = a }

abbrev pub called_as : Reading → EntryNumbers
called_as x = entry_numbers (outcome_for x) (question_for x) (answer_for x)

-- the promise of the reader's call: its numbers and its room are the reader's
pub record ReadCalled (rest room : List ℕ) (n : EntryNumbers) (room' : List ℕ) : Type 0 where
  pub numbers : n ≡ called_as (reading_of rest (length room))
  pub leaves : room' ≡ route_left (reading_of rest (length room)) room

-- and of the writer's
pub record WriteCalled (e : Entry) (room : List ℕ) (n : WrittenNumbers) (room' : List ℕ) : Type 0 where
  pub numbers : n ≡ written_numbers (written_for e (screen (write_lines e (length room))))
  pub leaves : room' ≡ entry_left e room (screen (write_lines e (length room)))
