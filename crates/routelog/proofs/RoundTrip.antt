-- What one function wrote the other reads back the same, and what was read writes back byte for byte.
use mathlib.Core.Path.{◌≡◌, refl, sym, ◌∙◌}
use mathlib.Core.List.{List, [], ◌∷◌, ◌++◌}
use Prim.Native.Nat.{ℕ, ◌≤◌}
use native.Mathlib.Omega.{arith}
use lib.ListN.{length, take, drop}
use lib.Seq.{take-append_seam}
use Rattle.std.specs.Prelude.{Option, Some, Result, Ok}
use Rattle.paths.proofs.Bools.{T_true}
use Rattle.floor.specs.declared.refusals.Refusal.{Refusal}
use Rattle.floor.specs.Screen.{Screen, Passed, Refused}
use Rattle.floor.specs.Refusal.{screen}
use Rattle.floor.specs.Numbers.{gives, written_as}
use Rattle.recordlayout.specs.Record.{record_size}
use Rattle.routelog.specs.declared.EntryRead.{EntryRead}
use Rattle.logentries.specs.Entry.{Entry, entry_of, entry_bytes, can_be_logged, all_directions, IsEntry}
use Rattle.routelog.specs.Reading.{Reading, empty, refused, entry, reading_of, outcome_for, ReadAs, IsRead}
use Rattle.routelog.specs.Writing.{part_lines, write_lines, written_for, entry_left, IsWritten}
use Rattle.routelog.proofs.Writing.{parts_pass, parts_known, after_parts, room_enough}
use Rattle.routelog.proofs.Promises.{one_read, one_written}
use Rattle.routelog.proofs.Back.{read_bytes, same_entry}
use Rattle.routelog.proofs.Found.{found, found_entry, found_bytes}

-- after a length was answered: answer and directions have passed, and the room begins with the entry
pub record Wrote (e : Entry) (room' : List ℕ) (n : ℕ) : Type 0 where
  pub passed : screen (part_lines e.answer e.route) ≡ Passed
  pub size : n ≡ length (entry_bytes e)
  pub bytes : take n room' ≡ entry_bytes e

pub wrote : (e : Entry) (room room' : List ℕ) (n : ℕ) → IsWritten e room (Ok n) room' → Wrote e room' n
wrote e room room' n w = go (screen (part_lines e.answer e.route)) refl (screen (write_lines e (length room))) refl w.answers w.leaves
  where
    go : (s : Screen) → screen (part_lines e.answer e.route) ≡ s → (t : Screen) → screen (write_lines e (length room)) ≡ t
        → written_as (Ok n) ≡ written_for e t → room' ≡ entry_left e room t → Wrote e room' n
    go Passed x Passed y a l =
        let size : n ≡ length (entry_bytes e) = cc in
        record { passed = x; size = size; bytes = rw (l, size) (take-append_seam (entry_bytes e) (drop (length (entry_bytes e)) room)) }
    go Passed x (Refused k p) y a l = let z : ◌≡◌ {A = ℕ} 0 1 = cc in absurd (omega arith)
    go (Refused k p) x t y a l = let v = sym y ∙ after_parts e (length room) x in let z : ◌≡◌ {A = ℕ} 0 1 = cc in absurd (omega arith)

-- an entry that was written is one: its records are whole by their types
pub wrote_entry : {e : Entry} {room' : List ℕ} {n : ℕ} → length e.question ≡ record_size → length e.answer ≡ record_size → Wrote e room' n → IsEntry e
wrote_entry {e} q a w =
    let k = parts_known e.answer e.route w.passed in
    record { question_whole = q; answer_whole = a; answer_fits = k.logged; count = k.count; directions = k.directions }

-- what was written, whatever follows it in the file, reads as the same entry
pub written_reads : (e : Entry) (room room' more : List ℕ) (n least : ℕ) → length e.question ≡ record_size → length e.answer ≡ record_size
    → IsWritten e room (Ok n) room' → length e.route ≤ least → (n ≡ length (entry_bytes e)) × (reading_of (take n room' ++ more) least ≡ entry e)
written_reads e room room' more n least q a w fits =
    let left = wrote e room room' n w in
    (left.size, rw left.bytes (read_bytes e more (wrote_entry q a left) least fits))

-- so reading it gives the same entry
pub reads_back : (e : Entry) (room room' more route route' : List ℕ) (n : ℕ) (r : Result (Option EntryRead) Refusal) → length e.question ≡ record_size
    → length e.answer ≡ record_size → IsWritten e room (Ok n) room' → IsRead (take n room' ++ more) route r route' → length e.route ≤ length route
    → (r ≡ Ok (Some (record { length = length e.route; taken = n; question = e.question; answer = e.answer }))) × (route' ≡ e.route ++ drop (length e.route) route)
reads_back e room room' more route route' n r q a w x fits =
    let back = written_reads e room room' more n (length route) q a w fits in
    let y = rw back.1 at x in
    one_read y (record { outcome = rw back.0; question = refl; answer = refl; leaves = refl })

-- nothing is refused of an entry in a room that has its bytes
entry_passes : (e : Entry) (room : List ℕ) → IsEntry e → length (entry_bytes e) ≤ length room → screen (write_lines e (length room)) ≡ Passed
entry_passes e room k enough =
    let parts = parts_pass e.answer e.route (T_true (can_be_logged e.answer) k.answer_fits) k.count (T_true (all_directions e.route) k.directions) in
    room_enough e (length room) parts enough

-- an entry is written whole where it can be
pub entry_written : (e : Entry) (room room' : List ℕ) (s : Result ℕ Refusal) → IsEntry e → length (entry_bytes e) ≤ length room → IsWritten e room s room'
    → (s ≡ Ok (length (entry_bytes e))) × (room' ≡ entry_bytes e ++ drop (length (entry_bytes e)) room)
entry_written e room room' s k enough w =
    let passed = entry_passes e room k enough in
    one_written w (record { answers = rw passed; leaves = rw passed })

-- after a reading that found an entry: the route that it left is the entry's, its bytes are those that were read, and in a room for them nothing is refused of it
pub record ReadFound (rest route' room : List ℕ) (y : Entry) : Type 0 where
  pub is_entry : IsEntry y
  pub route : take (length y.route) route' ≡ y.route
  pub bytes : take (length (entry_bytes y)) rest ≡ entry_bytes y
  pub passed : screen (write_lines y (length room)) ≡ Passed

pub read_found : (rest route route' room : List ℕ) (y : Entry) → reading_of rest (length route) ≡ entry y → route' ≡ y.route ++ drop (length y.route) route
    → length (entry_bytes y) ≤ length room → ReadFound rest route' room y
read_found rest route route' room y e left enough =
    let f = found rest (length route) y e in
    record {
      is_entry = found_entry f;
      route = rw left (take-append_seam y.route (drop (length y.route) route));
      bytes = rw (← found_bytes f) (take-append_seam (entry_bytes y) (drop (length (entry_bytes y)) rest));
      passed = entry_passes y room (found_entry f) enough;
    }

-- writing what was read gives its bytes back
pub writes_back : (rest route route' room room' : List ℕ) (r : EntryRead) (s : Result ℕ Refusal) → IsRead rest route (Ok (Some r)) route'
    → IsWritten (entry_of r.question r.answer (take r.length route')) room s room' → r.taken ≤ length room
    → (s ≡ Ok r.taken) × (room' ≡ take r.taken rest ++ drop r.taken room)
writes_back rest route route' room room' r s x w enough = go (reading_of rest (length route)) refl x
  where
    go : (y : Reading) → reading_of rest (length route) ≡ y → ReadAs y route (Ok (Some r)) route' → (s ≡ Ok r.taken) × (room' ≡ take r.taken rest ++ drop r.taken room)
    go empty e x = let o = x.outcome in let z : ◌≡◌ {A = ℕ} 0 1 = cc in absurd (omega arith)
    go (refused m p) e x = let o = x.outcome in let z : ◌≡◌ {A = ℕ} 0 1 = cc in absurd (omega arith)
    go (entry y) e x =
        let o : gives (r.length ∷ r.taken ∷ []) ≡ outcome_for (entry y) = x.outcome in
        let count : r.length ≡ length y.route = cc in
        let size : r.taken ≡ length (entry_bytes y) = cc in
        let f = read_found rest route route' room y e x.leaves (omega (arith, size)) in
        let steps : take r.length route' ≡ y.route = rw count f.route in
        let same : entry_of r.question r.answer (take r.length route') ≡ y = same_entry x.question x.answer steps in
        let all = entry_written y room room' s f.is_entry (omega (arith, size)) (rw same at w) in
        rw (size, f.bytes) all
