-- The writer's answers once the map has passed: 30, and the text.
use mathlib.Core.Path.{◌≡◌, refl, sym, ap, ◌∙◌}
use mathlib.Core.List.{List, [], ◌∷◌}
use Prim.Native.Nat.{ℕ, ◌*◌, ◌≤◌, ◌<◌}
use native.Mathlib.Nat.{mul_comm}
use native.Mathlib.Omega.{arith}
use borrow.Author.Tests.{lt-ltb, le-ltb}
use lib.Dec.{ltb}
use lib.ListN.{length, take, drop}
use lib.Seq.{take-append_seam}
use Rattle.floor.specs.declared.Floor.{Floor}
use Rattle.floor.specs.Screen.{Screen, Passed, Refused}
use Rattle.floor.specs.Refusal.{Line, line, screen, map_lines}
use Rattle.floor.proofs.Screens.{and_then, screen_append}
use Rattle.floor.proofs.Passing.{MapFacts}
use Rattle.floor.specs.Numbers.{gives, after_screen, written_as}
use Rattle.putting.specs.Put.{IsPut}
use Rattle.std.specs.Prelude.{Ok, Err}
use Rattle.floor.specs.declared.refusals.Refusal.TheVariants.{ShortText}
use Rattle.maptext.specs.Text.{text_of, write_lines, text_left, IsWritten}
use Rattle.putting.proofs.Puts.{sets_whole}

-- the map's rows are in its bytes
pub rows_in_map : {f : Floor} {m : List ℕ} → MapFacts f m → f.height * f.width ≤ length m
rows_in_map {f} k = omega (arith, k.covers, mul_comm f.width f.height)

module _ (f : Floor) (m room : List ℕ) where
  abbrev room_line : Line
  room_line = line 30 (ltb (length room) (length (text_of f.width f.height m))) 0

  after_map : {s : Screen} → screen (map_lines f m) ≡ s → screen (write_lines f m (length room)) ≡ and_then s (screen (room_line ∷ []))
  after_map e = screen_append (map_lines f m) (room_line ∷ []) ∙ ap (λ (x : Screen). and_then x (screen (room_line ∷ []))) e

  module _ (passed : screen (map_lines f m) ≡ Passed) where
    pub written_short : length room < length (text_of f.width f.height m) → IsWritten f m room (Err ShortText) room
    written_short h =
        let e : screen (write_lines f m (length room)) ≡ Refused 30 0 = after_map passed ∙ rw (lt-ltb (length room) (length (text_of f.width f.height m)) h) in
        record { answers = rw e; leaves = rw e }

    pub room_enough : length (text_of f.width f.height m) ≤ length room → screen (write_lines f m (length room)) ≡ Passed
    room_enough h = after_map passed ∙ rw (le-ltb (length room) (length (text_of f.width f.height m)) h)

    pub written_whole : {r : ℕ} {room' : List ℕ} → length (text_of f.width f.height m) ≤ length room → IsPut (text_of f.width f.height m) room 0 r room'
        → IsWritten f m room (Ok r) room'
    written_whole {r} {room'} h p =
        let text = text_of f.width f.height m in
        let e = room_enough h in
        let size : r ≡ length text = omega (arith, p.next) in
        record { answers = rw (e, size); leaves = rw e (p.leaves ∙ sets_whole text room h) }

-- after a length was answered: the map has passed, and the room begins with its text
pub record TextLeft (f : Floor) (m room' : List ℕ) (n : ℕ) : Type 0 where
  pub passed : screen (map_lines f m) ≡ Passed
  pub text : take n room' ≡ text_of f.width f.height m

pub text_left_lem : (f : Floor) (m room room' : List ℕ) (n : ℕ) → IsWritten f m room (Ok n) room' → TextLeft f m room' n
text_left_lem f m room room' n w = go (screen (map_lines f m)) refl (screen (write_lines f m (length room))) refl w.answers w.leaves
  where
    go : (s : Screen) → screen (map_lines f m) ≡ s → (t : Screen) → screen (write_lines f m (length room)) ≡ t
        → written_as (Ok n) ≡ after_screen t (gives (length (text_of f.width f.height m) ∷ [])) → room' ≡ text_left (text_of f.width f.height m) room t → TextLeft f m room' n
    go Passed e Passed d a l =
        let text = text_of f.width f.height m in
        let size : n ≡ length text = cc in
        record { passed = e; text = rw (l, size) (take-append_seam text (drop (length text) room)) }
    go Passed e (Refused k p) d a l = let z : ◌≡◌ {A = ℕ} 0 1 = cc in absurd (omega arith)
    go (Refused k p) e t d a l = let y = sym d ∙ after_map f m room e in let z : ◌≡◌ {A = ℕ} 0 1 = cc in absurd (omega arith)
