-- The writer's answers: a refusal of the answer or the directions, 64, and the entry.
use mathlib.Core.Path.{◌≡◌, ap, ◌∙◌}
use mathlib.Core.Logic.{◌≢◌}
use mathlib.Core.Bool.{true, false, ◌&&◌}
use mathlib.Core.List.{List, [], ◌∷◌}
use Prim.Native.Nat.{ℕ, ◌≤◌, ◌<◌}
use native.Mathlib.Omega.{arith}
use borrow.Author.Tests.{eq-eqb, ne_eqb, lt-ltb, le-ltb}
use lib.Dec.{T, ltb, eqb, eqb→eq}
use lib.ListN.{length}
use Rattle.std.specs.Prelude.{Ok, Err}
use Rattle.paths.proofs.Bools.{T_and, T_not-not}
use Rattle.floor.specs.declared.refusals.Refusal.{Refusal}
use Rattle.floor.specs.declared.refusals.Refusal.TheVariants.{ShortRoom}
use Rattle.floor.specs.Refusals.{number_of, place_of}
use Rattle.floor.specs.Screen.{Screen, Passed, Refused}
use Rattle.floor.specs.Refusal.{Line, line, screen}
use Rattle.floor.proofs.Screens.{none_given, and_then, screen_append}
use Rattle.putting.specs.Put.{IsPut}
use Rattle.putting.proofs.Puts.{sets_whole}
use Rattle.logentries.specs.Entry.{Entry, entry_bytes, greatest_length, can_be_logged, steps_in, all_directions}
use Rattle.routelog.specs.Writing.{part_lines, write_lines, IsWritten}
use Rattle.logentries.proofs.Answers.{steps_few}

module _ (a ds : List ℕ) where
  pub answer_wrong : can_be_logged a ≡ false → screen (part_lines a ds) ≡ Refused 62 0
  answer_wrong e = rw e

  module _ (logged : can_be_logged a ≡ true) where
    pub count_wrong : length ds ≢ steps_in a → screen (part_lines a ds) ≡ Refused 63 0
    count_wrong h = rw (logged, ne_eqb (length ds) (steps_in a) h)

    module _ (count : length ds ≡ steps_in a) where
      pub direction_wrong : all_directions ds ≡ false → screen (part_lines a ds) ≡ Refused 63 0
      direction_wrong e = rw (logged, eq-eqb (length ds) (steps_in a) count, e)

      pub parts_pass : all_directions ds ≡ true → screen (part_lines a ds) ≡ Passed
      parts_pass e = rw (logged, eq-eqb (length ds) (steps_in a) count, e)

-- what is known where nothing is refused of them
pub record PartsPass (a ds : List ℕ) : Type 0 where
  pub logged : T (can_be_logged a)
  pub count : length ds ≡ steps_in a
  pub directions : T (all_directions ds)

pub parts_known : (a ds : List ℕ) → screen (part_lines a ds) ≡ Passed → PartsPass a ds
parts_known a ds e =
    let none = none_given (part_lines a ds) e in
    let right = eqb (length ds) (steps_in a) in
    let both = T_and right (all_directions ds) (T_not-not (right && all_directions ds) none.1.0) in
    record { logged = T_not-not (can_be_logged a) none.0; count = eqb→eq (length ds) (steps_in a) both.0; directions = both.1 }

pub directions_few : {a ds : List ℕ} → PartsPass a ds → length ds ≤ greatest_length
directions_few {a} p = omega (arith, p.count, steps_few a p.logged)

-- the room's line comes after those of answer and directions
module _ (e : Entry) (size : ℕ) where
  abbrev room_line : Line
  room_line = line 64 (ltb size (length (entry_bytes e))) 0

  pub after_parts : {s : Screen} → screen (part_lines e.answer e.route) ≡ s → screen (write_lines e size) ≡ and_then s (screen (room_line ∷ []))
  after_parts x = screen_append (part_lines e.answer e.route) (room_line ∷ []) ∙ ap (λ (s : Screen). and_then s (screen (room_line ∷ []))) x

  module _ (passed : screen (part_lines e.answer e.route) ≡ Passed) where
    pub room_short : size < length (entry_bytes e) → screen (write_lines e size) ≡ Refused 64 0
    room_short h = after_parts passed ∙ rw (lt-ltb size (length (entry_bytes e)) h)

    pub room_enough : length (entry_bytes e) ≤ size → screen (write_lines e size) ≡ Passed
    room_enough h = after_parts passed ∙ rw (le-ltb size (length (entry_bytes e)) h)

module _ (e : Entry) (room : List ℕ) where
  pub written_refused : {x : Refusal} → screen (part_lines e.answer e.route) ≡ Refused (number_of x) (place_of x) → IsWritten e room (Err x) room
  written_refused x = let y = after_parts e (length room) x in record { answers = rw y; leaves = rw y }

  module _ (passed : screen (part_lines e.answer e.route) ≡ Passed) where
    pub written_short : length room < length (entry_bytes e) → IsWritten e room (Err ShortRoom) room
    written_short h = let x = room_short e (length room) passed h in record { answers = rw x; leaves = rw x }

    pub written_whole : {r : ℕ} {room' : List ℕ} → length (entry_bytes e) ≤ length room → IsPut (entry_bytes e) room 0 r room' → IsWritten e room (Ok r) room'
    written_whole {r} h p =
        let x = room_enough e (length room) passed h in
        let size : r ≡ length (entry_bytes e) = omega (arith, p.next) in
        record { answers = rw (x, size); leaves = rw x (p.leaves ∙ sets_whole (entry_bytes e) room h) }
