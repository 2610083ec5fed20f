-- A whole file of the route log: 02, R-1. It is read entry by entry.
use Rattle.std.specs.Prelude.{cond, List, [], ◌∷◌, ◌++◌, ℕ, zero, suc, ◌-◌, ◌≤◌, leb, eqb, length, drop}
use Rattle.floor.specs.Screen.{Screen, Passed, Refused}
use Rattle.logentries.specs.Entry.{Entry, entry_bytes, IsEntry}
use Rattle.routelog.specs.Reading.{Reading, empty, refused, entry, reading_of}

-- the bytes of a list of entries
abbrev pub file_bytes : List Entry → List ℕ
file_bytes [] = []
file_bytes (e ∷ es) = entry_bytes e ++ file_bytes es

-- the entries of a file, and the refusal that ends it, if one does
pub record Log : Type 0 where
  pub entries : List Entry
  pub ending : Screen

abbrev pub log_with : List Entry → Screen → Log
log_with es s = record { entries = es; ending = s }

-- what is left of a file after a reading of it
abbrev pub rest_after : Reading → List ℕ → List ℕ
rest_after empty file = []
rest_after (refused n p) file = []
rest_after (entry e) file = drop (length (entry_bytes e)) file

abbrev pub and_then : Reading → Log → Log
and_then empty later = log_with [] Passed
and_then (refused n p) later = log_with [] (Refused n p)
and_then (entry e) later = log_with (e ∷ later.entries) later.ending

-- at most n entries of a file, with a route room of that length
abbrev pub entries_of : ℕ → ℕ → List ℕ → Log
entries_of room zero file = log_with [] Passed
entries_of room (suc n) file = and_then (reading_of file room) (entries_of room n (rest_after (reading_of file room) file))

-- the reading of a whole file; an entry has bytes, so there are no more entries than bytes
unfoldable pub log_of : List ℕ → ℕ → Log
log_of file room = entries_of room (length file) file

-- entries that can stand in a log, with routes that a room of that length holds
abbrev pub AllEntries : ℕ → List Entry → Type 0
AllEntries room [] = Unit {0}
AllEntries room (e ∷ es) = IsEntry e × (length e.route ≤ room) × AllEntries room es

-- the entries whose bytes are whole among the first n of a file, and how the file ends if it is cut there
abbrev pub whole_before : ℕ → List Entry → List Entry
whole_before n [] = []
whole_before n (e ∷ es) = cond (leb (length (entry_bytes e)) n) (e ∷ whole_before (n - length (entry_bytes e)) es) []

abbrev pub cut_ending : ℕ → List Entry → Screen
cut_ending n es = cond (eqb n (length (file_bytes (whole_before n es)))) Passed (Refused 61 0)
