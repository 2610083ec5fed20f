-- What the reader answers and leaves, for the rest of a file: 02, R-1.
use Rattle.std.specs.Prelude.{◌≡◌, Option, Some, None, Result, Ok, Err, cond, not, ◌&&◌, List, [], ◌∷◌, ◌++◌, ℕ, ◌+◌, ◌-◌, eqb, ltb, length, take, drop, replicate}
use Rattle.floor.specs.declared.refusals.Refusal.{Refusal}
use Rattle.floor.specs.Screen.{Screen, Passed, Refused}
use Rattle.floor.specs.Refusal.{Line, line, screen}
use Rattle.floor.specs.Numbers.{Numbers, gives, refused_as}
use Rattle.recordlayout.specs.Record.{record_size}
use Rattle.routelog.specs.declared.EntryRead.{EntryRead}
use Rattle.logentries.specs.Entry.{Entry, entry_of, entry_bytes, route_size, greatest_length, can_be_logged, steps_in, all_directions, all_filler}

-- where question, answer and route stand in the rest of a file
abbrev pub question_at : List ℕ → List ℕ
question_at rest = take record_size rest

abbrev pub answer_at : List ℕ → List ℕ
answer_at rest = take record_size (drop record_size rest)

abbrev pub route_at : List ℕ → List ℕ
route_at rest = drop (record_size + record_size) rest

abbrev pub entry_at : List ℕ → Entry
entry_at rest = entry_of (question_at rest) (answer_at rest) (take (steps_in (answer_at rest)) (route_at rest))

-- 61: the file ends inside the question or the answer; 62: the answer can't be logged
abbrev pub head_lines : List ℕ → List Line
head_lines rest = line 61 (ltb (length rest) (record_size + record_size)) 0 ∷ line 62 (not (can_be_logged (answer_at rest))) 0 ∷ []

-- for a route of n directions: 61 the file ends inside it; 63 a direction above 7 or a wrong filler; 64 the room is shorter than the route
abbrev pub route_lines : List ℕ → ℕ → ℕ → List Line
route_lines bytes n room =
    line 61 (ltb (length bytes) (route_size n)) 0
    ∷ line 63 (not (all_directions (take n bytes) && all_filler (take (route_size n - n) (drop n bytes)))) 0
    ∷ line 64 (ltb room n) 0
    ∷ []

-- the reader's refusals, for a route room of that length
unfoldable pub read_lines : List ℕ → ℕ → List Line
read_lines rest room = head_lines rest ++ route_lines (route_at rest) (steps_in (answer_at rest)) room

pub data Reading : Type 0 where
  empty : Reading
  refused : ℕ → ℕ → Reading
  entry : Entry → Reading

abbrev pub after_lines : Screen → List ℕ → Reading
after_lines Passed rest = entry (entry_at rest)
after_lines (Refused n p) rest = refused n p

-- the reading of the rest of a file: it is empty, it is refused, or it begins with an entry
unfoldable pub reading_of : List ℕ → ℕ → Reading
reading_of rest room = cond (eqb (length rest) 0) empty (after_lines (screen (read_lines rest room)) rest)

-- the bytes of the longest entry: a reading needs no more of the rest
abbrev pub greatest_entry : ℕ
greatest_entry = record_size + record_size + route_size greatest_length

-- the paper's numbers of each case: none if the rest is empty, the refusal, or the route's length and how many bytes the entry took
abbrev pub numbers_of : Result (Option EntryRead) Refusal → Numbers
numbers_of (Ok None) = gives []
numbers_of (Ok (Some e)) = gives (e.length ∷ e.taken ∷ [])
numbers_of (Err r) = refused_as r

abbrev pub outcome_for : Reading → Numbers
outcome_for empty = gives []
outcome_for (refused n p) = Numbers.refused n p
outcome_for (entry e) = gives (length e.route ∷ length (entry_bytes e) ∷ [])

-- the records that are handed on; zeros, where there is no entry
abbrev pub no_record : List ℕ
no_record = replicate record_size 0

abbrev pub question_read : Result (Option EntryRead) Refusal → List ℕ
question_read (Ok None) = no_record
question_read (Ok (Some e)) = e.question
question_read (Err r) = no_record

abbrev pub answer_read : Result (Option EntryRead) Refusal → List ℕ
answer_read (Ok None) = no_record
answer_read (Ok (Some e)) = e.answer
answer_read (Err r) = no_record

abbrev pub question_for : Reading → List ℕ
question_for empty = no_record
question_for (refused n p) = no_record
question_for (entry e) = e.question

abbrev pub answer_for : Reading → List ℕ
answer_for empty = no_record
answer_for (refused n p) = no_record
answer_for (entry e) = e.answer

-- what the route room holds afterwards: it begins with the route, and its rest stays
abbrev pub route_left : Reading → List ℕ → List ℕ
route_left empty room = room
route_left (refused n p) room = room
route_left (entry e) room = e.route ++ drop (length e.route) room

-- the reader's promise, for a room of any length and content, by a reading x
pub record ReadAs (x : Reading) (room : List ℕ) (r : Result (Option EntryRead) Refusal) (room' : List ℕ) : Type 0 where
  pub outcome : numbers_of r ≡ outcome_for x
  pub question : question_read r ≡ question_for x
  pub answer : answer_read r ≡ answer_for x
  pub leaves : room' ≡ route_left x room

abbrev pub IsRead : List ℕ → List ℕ → Result (Option EntryRead) Refusal → List ℕ → Type 0
IsRead rest room r room' = ReadAs (reading_of rest (length room)) room r room'
