-- What the writer answers and leaves: 02, R-1.
use Rattle.std.specs.Prelude.{◌≡◌, Result, not, ◌&&◌, List, [], ◌∷◌, ◌++◌, ℕ, eqb, ltb, length, drop}
use Rattle.floor.specs.declared.refusals.Refusal.{Refusal}
use Rattle.floor.specs.Screen.{Screen, Passed, Refused}
use Rattle.floor.specs.Refusal.{Line, line, screen}
use Rattle.floor.specs.Numbers.{Numbers, gives, after_screen, written_as}
use Rattle.logentries.specs.Entry.{Entry, entry_bytes, can_be_logged, steps_in, all_directions}

-- 62: the answer can't be logged; 63: a wrong count of directions (any, if not found), or one above 7
abbrev pub part_lines : List ℕ → List ℕ → List Line
part_lines a ds = line 62 (not (can_be_logged a)) 0 ∷ line 63 (not (eqb (length ds) (steps_in a) && all_directions ds)) 0 ∷ []

-- the writer's refusals, for a room of that length: these, and then 64: the room is shorter than the entry
abbrev pub write_lines : Entry → ℕ → List Line
write_lines e room = part_lines e.answer e.route ++ (line 64 (ltb room (length (entry_bytes e))) 0 ∷ [])

abbrev pub written_for : Entry → Screen → Numbers
written_for e s = after_screen s (gives (length (entry_bytes e) ∷ []))

-- what the room holds afterwards: it begins with the entry, and its rest stays
abbrev pub entry_left : Entry → List ℕ → Screen → List ℕ
entry_left e room Passed = entry_bytes e ++ drop (length (entry_bytes e)) room
entry_left e room (Refused n p) = room

-- the writer's promise, for a room of any length and content
pub record IsWritten (e : Entry) (room : List ℕ) (r : Result ℕ Refusal) (room' : List ℕ) : Type 0 where
  pub answers : written_as r ≡ written_for e (screen (write_lines e (length room)))
  pub leaves : room' ≡ entry_left e room (screen (write_lines e (length room)))
