-- The round trip of the calls from C: by the readings and the lines that their numbers tell.
use mathlib.Core.Path.{◌≡◌, refl, ap, ◌∙◌}
use mathlib.Core.List.{List, [], ◌∷◌, ◌++◌}
use Prim.Native.Nat.{ℕ, ◌≤◌, ◌<◌}
use native.Mathlib.Omega.{arith}
use lib.ListN.{length, take, drop}
use Rattle.std.specs.Prelude.{Ok}
use Rattle.floor.specs.Screen.{Screen, Passed, Refused}
use Rattle.floor.specs.Refusal.{screen}
use Rattle.floor.specs.declared.written.WrittenNumbers.{WrittenNumbers}
use Rattle.floor.specs.Numbers.{gives, written_numbers}
use Rattle.recordlayout.specs.Record.{record_size}
use Rattle.logentries.specs.Entry.{Entry, entry_of, entry_bytes}
use Rattle.routelog.specs.declared.EntryNumbers.{EntryNumbers}
use Rattle.routelog.specs.Reading.{Reading, empty, refused, entry, reading_of, route_left}
use Rattle.routelog.specs.Writing.{write_lines, written_for, entry_left, IsWritten}
use Rattle.routelog.specs.Calls.{entry_numbers, called_as, ReadCalled, WriteCalled}
use Rattle.routelog.proofs.RoundTrip.{written_reads, read_found}
use Rattle.routelog.proofs.Refusals.{reader_refuses, writer_refuses}
use Rattle.routelog.proofs.Calls.{reader_number, writer_number}

-- a refusal of 0 says that the entry was written, and then the length is its own
pub call_wrote : (e : Entry) (room room' : List ℕ) (n : WrittenNumbers) → WriteCalled e room n room' → n.refusal ≡ 0 → IsWritten e room (Ok n.length) room'
call_wrote e room room' n c zero = go (screen (write_lines e (length room))) refl c.numbers c.leaves
  where
    go : (s : Screen) → screen (write_lines e (length room)) ≡ s → n ≡ written_numbers (written_for e s)
        → room' ≡ entry_left e room (screen (write_lines e (length room))) → IsWritten e room (Ok n.length) room'
    go Passed x is left =
        let size : n.length ≡ length (entry_bytes e) = ap (λ (m : WrittenNumbers). m.length) is in
        record { answers = rw (x, size); leaves = left }
    go (Refused k p) x is left =
        let number : n.refusal ≡ k = ap (λ (m : WrittenNumbers). m.refusal) is in
        absurd (omega (arith, zero, number, writer_number ((writer_refuses e (length room) k p).0 x).0))

-- what one call has written the other reads back
pub reads_back_call : (e : Entry) → length e.question ≡ record_size → length e.answer ≡ record_size
    → (room room' : List ℕ) (n : WrittenNumbers) → WriteCalled e room n room' → n.refusal ≡ 0
    → (more route route' : List ℕ) (k : EntryNumbers) → ReadCalled (take n.length room' ++ more) route k route' → length e.route ≤ length route
    → (k ≡ entry_numbers (gives (length e.route ∷ n.length ∷ [])) e.question e.answer) × (route' ≡ e.route ++ drop (length e.route) route)
reads_back_call e q a room room' n c zero more route route' k d fits =
    let back = written_reads e room room' more n.length (length route) q a (call_wrote e room room' n c zero) fits in
    let x = rw back.1 at d.numbers in
    (x ∙ rw back.0, rw back.1 at d.leaves)

-- and what one has read the other writes back byte for byte
pub writes_back_call : (rest route route' : List ℕ) (k : EntryNumbers) → ReadCalled rest route k route' → k.refusal ≡ 0 → 0 < k.taken
    → (room room' : List ℕ) (n : WrittenNumbers) → WriteCalled (entry_of k.question k.answer (take k.length route')) room n room'
    → k.taken ≤ length room
    → (n ≡ written_numbers (gives (k.taken ∷ []))) × (room' ≡ take k.taken rest ++ drop k.taken room)
writes_back_call rest route route' k d zero some room room' n c enough = go (reading_of rest (length route)) refl d.numbers d.leaves
  where
    go : (y : Reading) → reading_of rest (length route) ≡ y → k ≡ called_as y → route' ≡ route_left (reading_of rest (length route)) route
        → (n ≡ written_numbers (gives (k.taken ∷ []))) × (room' ≡ take k.taken rest ++ drop k.taken room)
    go empty e is left = absurd (omega (arith, some, ap (λ (m : EntryNumbers). m.taken) is))
    go (refused j p) e is left =
        let number : k.refusal ≡ j = ap (λ (m : EntryNumbers). m.refusal) is in
        absurd (omega (arith, zero, number, reader_number ((reader_refuses rest (length route) j p).0 e).0))
    go (entry z) e is left =
        let f = read_found rest route route' room z e (rw e at left) (rw is at enough) in
        let d : WriteCalled (entry_of z.question z.answer (take (length z.route) route')) room n room' = rw is at c in
        let w : WriteCalled z room n room' = rw f.route at d in
        (rw is (rw f.passed at w.numbers), rw (is, f.bytes) (rw f.passed at w.leaves))
