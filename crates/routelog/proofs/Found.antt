-- An entry that was read stands, byte for byte, at the beginning of what was read, and can stand in a log.
use mathlib.Core.Path.{◌≡◌, refl, sym, ◌∙◌}
use mathlib.Core.Bool.{Bool, true, false, cond}
use mathlib.Core.List.{List, [], ◌∷◌, ◌++◌}
use Prim.Native.Nat.{ℕ, ◌+◌, ◌-◌, ◌≤◌}
use native.Mathlib.Omega.{arith}
use lib.Dec.{eqb}
use lib.ListN.{length, take, drop, take-append-drop, length-drop}
use lib.Seq.{take-add, length-take-le}
use Rattle.floor.specs.Screen.{Screen, Passed, Refused}
use Rattle.floor.specs.Refusal.{screen}
use Rattle.recordlayout.specs.Record.{record_size}
use Rattle.logentries.specs.Entry.{Entry, route_size, filler, route_bytes, entry_bytes, steps_in, IsEntry}
use Rattle.routelog.specs.Reading.{answer_at, route_at, entry_at, read_lines, empty, entry, after_lines, reading_of}
use Rattle.logentries.proofs.Sizes.{size_holds}
use Rattle.routelog.proofs.Passing.{Passes, passes, question_length, answer_length, steps_there, bytes_taken}
use Rattle.routelog.proofs.Taking.{reading_judged}
use Rattle.routelog.proofs.Back.{all_filler_lem}

pub record IsFound (rest : List ℕ) (room : ℕ) (e : Entry) : Type 0 where
  pub passed : Passes rest room
  pub is : e ≡ entry_at rest

pub found : (rest : List ℕ) (room : ℕ) (e : Entry) → reading_of rest room ≡ entry e → IsFound rest room e
unfolding reading_of
found rest room e x = go (eqb (length rest) 0) (screen (read_lines rest room)) refl x
  where
    go : (b : Bool) (s : Screen) → screen (read_lines rest room) ≡ s → cond b empty (after_lines s rest) ≡ entry e → IsFound rest room e
    go true s h x = let z : ◌≡◌ {A = ℕ} 0 1 = cc in absurd (omega arith)
    go false Passed h x = record { passed = passes rest room h; is = cc }
    go false (Refused n p) h x = let z : ◌≡◌ {A = ℕ} 0 1 = cc in absurd (omega arith)

-- what reads as empty has no byte
pub empty_is : (rest : List ℕ) (room : ℕ) → reading_of rest room ≡ empty → rest ≡ []
empty_is [] room x = refl
empty_is (b ∷ bs) room x = go (screen (read_lines (b ∷ bs) room)) (sym (reading_judged (b ∷ bs) room (λ z. omega arith) refl) ∙ x)
  where
    go : (s : Screen) → after_lines s (b ∷ bs) ≡ empty → b ∷ bs ≡ []
    go Passed x = let z : ◌≡◌ {A = ℕ} 0 1 = cc in absurd (omega arith)
    go (Refused n p) x = let z : ◌≡◌ {A = ℕ} 0 1 = cc in absurd (omega arith)

module _ {rest : List ℕ} {room : ℕ} (p : Passes rest room) where
  -- the directions and the filler are the bytes after the two records
  route_stands : route_bytes (entry_at rest).route ≡ take (route_size (steps_in (answer_at rest))) (route_at rest)
  unfolding route_bytes
  route_stands =
      let n = steps_in (answer_at rest) in
      let bytes = route_at rest in
      let fill = take (route_size n - n) (drop n bytes) in
      let held = size_holds n in
      let full : length fill ≡ route_size n - n = length-take-le (route_size n - n) (drop n bytes) (omega (arith, length-drop n bytes, p.route_long)) in
      let whole : n + (route_size n - n) ≡ route_size n = omega arith in
      rw (steps_there p, ← full, ← all_filler_lem fill p.filled) (sym (take-add n (route_size n - n) bytes) ∙ rw whole)

  pub bytes_stand : entry_bytes (entry_at rest) ≡ take (record_size + record_size + route_size (steps_in (answer_at rest))) rest
  unfolding entry_bytes
  bytes_stand =
      let n = steps_in (answer_at rest) in
      rw (route_stands, ← take-add record_size record_size rest) (sym (take-add (record_size + record_size) (route_size n) rest))

  pub passed_entry : IsEntry (entry_at rest)
  passed_entry = record {
    question_whole = question_length p;
    answer_whole = answer_length p;
    answer_fits = p.logged;
    count = steps_there p;
    directions = p.directions;
  }

module _ {rest : List ℕ} {room : ℕ} {e : Entry} (f : IsFound rest room e) where
  pub found_entry : IsEntry e
  found_entry = rw f.is (passed_entry f.passed)

  pub found_fits : length e.route ≤ room
  found_fits = rw f.is (omega (arith, steps_there f.passed, f.passed.room_long))

  pub found_bytes : entry_bytes e ++ drop (length (entry_bytes e)) rest ≡ rest
  found_bytes =
      let size = record_size + record_size + route_size (steps_in (answer_at rest)) in
      rw (f.is, bytes_taken f.passed, bytes_stand f.passed) (take-append-drop size rest)

  -- it takes at least two records
  pub found_long : record_size + record_size ≤ length (entry_bytes e)
  found_long = rw f.is (omega (arith, bytes_taken f.passed))
