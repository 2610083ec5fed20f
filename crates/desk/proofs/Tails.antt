-- Bytes that are moved to the front of a buffer one after the other, each to a place before it; and what is taken of a buffer that is shorter than asked.
use mathlib.Core.Path.{◌≡◌, refl, sym, ap, ◌∙◌}
use mathlib.Core.List.{List, ◌++◌, append-nil}
use Prim.Native.Nat.{ℕ, ◌+◌, ◌-◌, ◌<◌, min}
use native.Mathlib.Decide.{dec_le}
use native.Mathlib.Numerals.{add-one}
use native.Mathlib.Omega.{arith}
use lib.ListN.{length, get_or, set, take, drop, length-set, length-take, length-drop, drop_of_length-le, take-append-drop}
use lib.Seq.{take-suc, take-suc-set, drop-set-lt, drop-drop, get_or-drop, take_all, take_at, drop_at, take-add, slice}
use Rattle.floor.specs.declared.Floor.{Floor}
use Rattle.answering.specs.Rooms.{Rooms}
use Rattle.desk.specs.Desk.{IsAnswered}
use Rattle.desk.specs.Turn.{ArrivedAnswered, IsKept}

-- the first i bytes from `from` on have been moved; what stands from place i on is as it was
pub record Moving (from : ℕ) (bytes : List ℕ) (i : ℕ) (bytes' : List ℕ) : Type 0 where
  pub same : length bytes' ≡ length bytes
  pub moved : take i bytes' ≡ take i (drop from bytes)
  pub rest : drop i bytes' ≡ drop i bytes

pub moving_none : (from : ℕ) (bytes : List ℕ) → Moving from bytes 0 bytes
moving_none from bytes = record { same = refl; moved = refl; rest = refl }

pub moving_next : {from : ℕ} {bytes : List ℕ} {i : ℕ} {bytes' : List ℕ} → Moving from bytes i bytes' → from + i < length bytes
    → Moving from bytes (i + 1) (set bytes' i (get_or bytes' (from + i) 0))
moving_next {from} {bytes} {i} {bytes'} p h =
    let byte = get_or bytes' (from + i) 0 in
    let turned : from + i ≡ i + from = omega arith in
    let as_it_was : byte ≡ get_or (drop from bytes) i 0 =
    ap (λ (k : ℕ). get_or bytes' k 0) turned
    ∙ sym (get_or-drop i bytes' from 0)
    ∙ ap (λ (b : List ℕ). get_or b from 0) p.rest
    ∙ get_or-drop i bytes from 0
    ∙ ap (λ (k : ℕ). get_or bytes k 0) (sym turned)
    ∙ sym (get_or-drop from bytes i 0) in
    record {
      same = length-set bytes' i byte ∙ p.same;
      moved =
          rw add-one
          (take-suc-set bytes' i byte (omega (arith, p.same))
          ∙ rw (p.moved, as_it_was) (sym (take-suc (drop from bytes) i 0 (omega (arith, length-drop from bytes)))));
      rest =
          drop-set-lt (i + 1) bytes' i byte (omega arith)
          ∙ sym (drop-drop 1 i bytes')
          ∙ ap (drop 1) p.rest
          ∙ drop-drop 1 i bytes;
    }

-- a buffer has no more than its bytes to take
module _ (end : ℕ) (bytes : List ℕ) {n : ℕ} (e : n ≡ min end (length bytes)) where
  pub take_least : take end bytes ≡ take n bytes
  take_least = elim (dec_le end (length bytes)) [
    | yes h ↦ let s : n ≡ end = omega (arith, e) in rw s
    | no h ↦ take_all end bytes (omega arith) ∙ sym (take_all n bytes (omega (arith, e)))
  ]

  -- bytes in place of the first n, followed by the others
  module _ (front : List ℕ) (same : length front ≡ length (take n bytes)) where
    size : length front ≡ n
    size = omega (arith, same, length-take n bytes, e)

    pub take_front : take end (front ++ drop n bytes) ≡ front
    take_front = elim (dec_le end (length bytes)) [
      | yes h ↦ take_at front (drop n bytes) end (omega (arith, size, e))
      | no h ↦ rw (drop_of_length-le bytes {i = n} (omega (arith, e)), append-nil front) (take_all end front (omega (arith, size, e)))
    ]

    pub drop_front : drop end (front ++ drop n bytes) ≡ drop end bytes
    drop_front = elim (dec_le end (length bytes)) [
      | yes h ↦ let s : n ≡ end = omega (arith, e) in drop_at front (drop n bytes) end (omega (arith, size, e)) ∙ ap (λ (k : ℕ). drop k bytes) s
      | no h ↦
          rw (drop_of_length-le bytes {i = n} (omega (arith, e)), append-nil front)
          (drop_of_length-le front {i = end} (omega (arith, size, e)) ∙ sym (drop_of_length-le bytes {i = end} (omega arith)))
    ]

-- the records of the part that has arrived are answered
pub arrived_answered : {f : Floor} {m buffer : List ℕ} {end : ℕ} {r : Rooms} {n : ℕ} {out : List ℕ} {r' : Rooms} {arrived : ℕ} → arrived ≡ min end (length buffer)
    → length out ≡ length (take (arrived - 0) buffer) → IsAnswered f m (take (arrived - 0) buffer) r n out r'
    → ArrivedAnswered f m buffer end r n (out ++ drop (arrived - 0) buffer) r'
arrived_answered {f} {m} {buffer} {end} {r} {n} {out} {r'} {arrived} e same x =
    let k : arrived - 0 ≡ min end (length buffer) = omega (arith, e) in
    record {
      arrived = rw (take_least end buffer k, take_front end buffer k out same) x;
      beyond = drop_front end buffer k out same;
    }

-- the bytes from `first` on have been moved, all that there are from `from` up to `end`
module _ (buffer : List ℕ) (from end : ℕ) {arrived first : ℕ} (a : arrived ≡ min end (length buffer)) (b : first ≡ min from arrived) where
  tail_is : slice from end buffer ≡ take (arrived - first) (drop first buffer)
  tail_is =
      let whole : length (take arrived buffer) ≡ arrived = omega (arith, length-take arrived buffer, a) in
      let front : length (take first buffer) ≡ first = omega (arith, length-take first buffer, a, b) in
      let parts : arrived ≡ first + (arrived - first) = omega (arith, b) in
      let cut : drop from (take arrived buffer) ≡ drop first (take arrived buffer) = elim (dec_le from arrived) [
        | yes h ↦ let s : first ≡ from = omega (arith, b) in rw s
        | no h ↦
            drop_of_length-le (take arrived buffer) {i = from} (omega (arith, whole))
            ∙ sym (drop_of_length-le (take arrived buffer) {i = first} (omega (arith, whole, b)))
      ] in
      ap (drop from) (take_least end buffer a)
      ∙ cut
      ∙ ap (λ (k : ℕ). drop first (take k buffer)) parts
      ∙ ap (drop first) (take-add first (arrived - first) buffer)
      ∙ drop_at (take first buffer) (take (arrived - first) (drop first buffer)) first front

  pub tail_kept : {buffer' : List ℕ} → Moving first buffer (arrived - first) buffer' → IsKept buffer from end (arrived - first) buffer'
  tail_kept {buffer'} p =
      let n = arrived - first in
      record {
        count = rw tail_is (omega (arith, length-take n (drop first buffer), length-drop first buffer, a, b));
        leaves = sym (take-append-drop n buffer') ∙ rw (tail_is, p.moved, p.rest);
      }
