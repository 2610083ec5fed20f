-- The calls from C: their numbers are the functions' own, and no refusal with no byte taken is the end of the file.
use mathlib.Core.Path.{◌≡◌, refl, sym, ap, ◌∙◌}
use mathlib.Core.Logic.{◌↔◌}
use mathlib.Core.List.{List, []}
use Prim.Native.Nat.{ℕ, ◌<◌}
use native.Mathlib.Omega.{arith}
use lib.ListN.{length}
use Rattle.std.specs.Prelude.{Option, Result}
use Rattle.floor.specs.declared.refusals.Refusal.{Refusal}
use Rattle.floor.specs.declared.written.WrittenNumbers.{WrittenNumbers}
use Rattle.floor.specs.Numbers.{written_as, written_numbers}
use Rattle.floor.specs.Screen.{Screen, Passed, Refused}
use Rattle.routelog.specs.declared.EntryRead.{EntryRead}
use Rattle.routelog.specs.declared.EntryNumbers.{EntryNumbers}
use Rattle.logentries.specs.Entry.{Entry}
use Rattle.routelog.specs.Reading.{Reading, empty, refused, entry, reading_of, numbers_of, question_read, answer_read, IsRead}
use Rattle.routelog.specs.Writing.{written_for, IsWritten}
use Rattle.routelog.specs.Refusals.{ReaderRefuses, WriterRefuses}
use Rattle.routelog.specs.Calls.{entry_numbers, called_as, ReadCalled, WriteCalled}
use Rattle.routelog.proofs.Taking.{reading_empty}
use Rattle.routelog.proofs.Found.{empty_is, found, found_long}
use Rattle.routelog.proofs.Refusals.{reader_refuses}

pub read_called : {rest room : List ℕ} {r : Result (Option EntryRead) Refusal} {n : EntryNumbers} {room' : List ℕ} → IsRead rest room r room'
    → n ≡ entry_numbers (numbers_of r) (question_read r) (answer_read r) → ReadCalled rest room n room'
read_called x e = record { numbers = e ∙ rw (x.outcome, x.question, x.answer); leaves = x.leaves }

pub write_called : {e : Entry} {room : List ℕ} {w : Result ℕ Refusal} {n : WrittenNumbers} {room' : List ℕ} → IsWritten e room w room'
    → n ≡ written_numbers (written_as w) → WriteCalled e room n room'
write_called x e = record { numbers = e ∙ rw x.answers; leaves = x.leaves }

-- a second result that keeps the promise of a call is equal
pub one_read_call : {rest room : List ℕ} {n k : EntryNumbers} {room₁ room₂ : List ℕ} → ReadCalled rest room n room₁ → ReadCalled rest room k room₂
    → (n ≡ k) × (room₁ ≡ room₂)
one_read_call x y = (x.numbers ∙ sym y.numbers, x.leaves ∙ sym y.leaves)

pub one_write_call : {e : Entry} {room : List ℕ} {n k : WrittenNumbers} {room₁ room₂ : List ℕ} → WriteCalled e room n room₁ → WriteCalled e room k room₂
    → (n ≡ k) × (room₁ ≡ room₂)
one_write_call x y = (x.numbers ∙ sym y.numbers, x.leaves ∙ sym y.leaves)

-- a refusal's number is not 0
pub reader_number : {rest : List ℕ} {room k : ℕ} → ReaderRefuses rest room k → 0 < k
reader_number (ReaderRefuses.ends_in_records s h) = omega arith
reader_number (ReaderRefuses.answer_wrong h l) = omega arith
reader_number (ReaderRefuses.ends_in_route r h) = omega arith
reader_number (ReaderRefuses.route_wrong r w) = omega arith
reader_number (ReaderRefuses.room_short r w h) = omega arith

pub writer_number : {e : Entry} {room k : ℕ} → WriterRefuses e room k → 0 < k
writer_number (WriterRefuses.answer_wrong a) = omega arith
writer_number (WriterRefuses.count_wrong a c) = omega arith
writer_number (WriterRefuses.direction_wrong a i h d) = omega arith
writer_number (WriterRefuses.room_short a c d h) = omega arith

-- numbers that are not 0 say a refusal exactly when the reading is one
pub read_call_refused : (y : Reading) (n : EntryNumbers) (k p : ℕ) → n ≡ called_as y → 0 < k → ((n.refusal ≡ k) × (n.place ≡ p)) ↔ (y ≡ refused k p)
read_call_refused y n k p is some = (λ e. go y is e.0 e.1, λ e. back (is ∙ ap called_as e))
  where
    go : (y : Reading) → n ≡ called_as y → n.refusal ≡ k → n.place ≡ p → y ≡ refused k p
    go empty c e f = absurd (omega (arith, ap (λ (m : EntryNumbers). m.refusal) c))
    go (refused j q) c e f =
        let number : j ≡ k = sym (ap (λ (m : EntryNumbers). m.refusal) c) ∙ e in
        let place : q ≡ p = sym (ap (λ (m : EntryNumbers). m.place) c) ∙ f in
        rw (number, place)
    go (entry y) c e f = absurd (omega (arith, ap (λ (m : EntryNumbers). m.refusal) c))

    back : n ≡ called_as (refused k p) → (n.refusal ≡ k) × (n.place ≡ p)
    back c = (ap (λ (m : EntryNumbers). m.refusal) c, ap (λ (m : EntryNumbers). m.place) c)

-- and exactly when the writer's lines give one
pub write_call_refused : (e : Entry) (s : Screen) (n : WrittenNumbers) (k p : ℕ) → n ≡ written_numbers (written_for e s) → 0 < k
    → ((n.refusal ≡ k) × (n.place ≡ p)) ↔ (s ≡ Refused k p)
write_call_refused e s n k p is some = (λ h. go s is h.0 h.1, λ h. back (is ∙ ap (λ (t : Screen). written_numbers (written_for e t)) h))
  where
    go : (s : Screen) → n ≡ written_numbers (written_for e s) → n.refusal ≡ k → n.place ≡ p → s ≡ Refused k p
    go Passed c h f = absurd (omega (arith, ap (λ (m : WrittenNumbers). m.refusal) c))
    go (Refused j q) c h f =
        let number : j ≡ k = sym (ap (λ (m : WrittenNumbers). m.refusal) c) ∙ h in
        let place : q ≡ p = sym (ap (λ (m : WrittenNumbers). m.place) c) ∙ f in
        rw (number, place)

    back : n ≡ written_numbers (written_for e (Refused k p)) → (n.refusal ≡ k) × (n.place ≡ p)
    back c = (ap (λ (m : WrittenNumbers). m.refusal) c, ap (λ (m : WrittenNumbers). m.place) c)

-- no refusal and no byte taken: exactly where the rest of the file is empty
pub called_empty : {rest room : List ℕ} {n : EntryNumbers} {room' : List ℕ} → ReadCalled rest room n room' → ((n.refusal ≡ 0) × (n.taken ≡ 0)) ↔ (rest ≡ [])
called_empty {rest} {room} {n} x = (λ z. go (reading_of rest (length room)) refl x.numbers z, λ z. back (rw z (reading_empty [] (length room) refl)))
  where
    go : (y : Reading) → reading_of rest (length room) ≡ y → n ≡ called_as y → (n.refusal ≡ 0) × (n.taken ≡ 0) → rest ≡ []
    go empty e c z = empty_is rest (length room) e
    go (refused k p) e c z =
        let number : n.refusal ≡ k = ap (λ (m : EntryNumbers). m.refusal) c in
        absurd (omega (arith, reader_number ((reader_refuses rest (length room) k p).0 e).0, z.0))
    go (entry y) e c z =
        let bytes = ap (λ (m : EntryNumbers). m.taken) c in
        absurd (omega (arith, bytes, z.1, found_long (found rest (length room) y e)))

    back : reading_of rest (length room) ≡ empty → (n.refusal ≡ 0) × (n.taken ≡ 0)
    back e = let c = rw e at x.numbers in (ap (λ (m : EntryNumbers). m.refusal) c, ap (λ (m : EntryNumbers). m.taken) c)
