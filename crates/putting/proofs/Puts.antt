-- A room that is written from a place on: a part written over, and one list after the other.
use mathlib.Core.Path.{◌≡◌, refl, sym, ap, ◌∙◌}
use mathlib.Core.List.{List, [], ◌∷◌, ◌++◌, append_assoc, map}
use Prim.Native.Nat.{ℕ, zero, suc, ◌+◌, ◌≤◌, ◌<◌}
use native.Mathlib.Omega.{arith}
use borrow.Rule.Slice.PartMut.{put_mid}
use lib.ListN.{length, get_or, set, take, drop, length-append}
use lib.Seq.{sets, sets-eq, paste, drop-drop, take-length, take-append_seam}
use Rattle.putting.specs.Put.{IsPut}

pub sets_append : (xs ys room : List ℕ) (at : ℕ) → sets room at (xs ++ ys) ≡ sets (sets room at xs) (at + length xs) ys
sets_append [] ys room at = let e : at + 0 ≡ at = omega arith in rw e
sets_append (x ∷ xs) ys room at =
    let e : at + suc (length xs) ≡ suc at + length xs = omega arith in
    rw e (sets_append xs ys (set room at x) (suc at))

-- one list was put, and then the next
pub put_both : {xs ys room room₁ room₂ : List ℕ} {at r₁ r₂ : ℕ}
    → IsPut xs room at r₁ room₁ → IsPut ys room₁ r₁ r₂ room₂ → IsPut (xs ++ ys) room at r₂ room₂
put_both {xs} {ys} {room} {at = at} p q = record {
  next = omega (arith, length-append xs ys, p.next, q.next);
  leaves = q.leaves ∙ rw (p.next, p.leaves) (sym (sets_append xs ys room at));
}

-- a part of the room was written over by xs
pub put_part : (xs room : List ℕ) (at k : ℕ) → k ≡ length xs → at + k ≤ length room → put_mid at k room xs ≡ sets room at xs
put_part xs room at k e h =
    ap (λ (l : List ℕ). take at room ++ (xs ++ l)) (drop-drop k at room) ∙ sym (append_assoc (take at room) xs (drop (at + k) room))
    ∙ rw e (sym (sets-eq xs room at (omega arith)))

-- what is put at the beginning of a room stands there, and the rest stays
pub sets_whole : (xs room : List ℕ) → length xs ≤ length room → sets room 0 xs ≡ xs ++ drop (length xs) room
sets_whole xs room h = let e : 0 + length xs ≡ length xs = omega arith in sets-eq xs room 0 (omega arith) ∙ rw e

pub put_first : {xs room room' : List ℕ} {r : ℕ} → IsPut xs room 0 r room' → length xs ≤ length room → take r room' ≡ xs
put_first {xs} {room} {r = r} p h =
    let e : r ≡ length xs = omega (arith, p.next) in
    rw (p.leaves, e, sets_whole xs room h) (take-append_seam xs (drop (length xs) room))

-- and over its own bytes anywhere
pub put_pasted : {xs room room' : List ℕ} {at r n : ℕ} → IsPut xs room at r room' → length xs ≡ n → at + n ≤ length room → room' ≡ paste room at xs n
put_pasted {xs} {room} {at = at} p size fits = p.leaves ∙ sets-eq xs room at (omega arith) ∙ rw (← size, take-length xs)

-- a function of an entry is the entry of the function's list
pub map_at_lem : (f : ℕ → ℕ) (xs : List ℕ) (i : ℕ) → i < length xs → f (get_or xs i 0) ≡ get_or (map f xs) i 0
map_at_lem f [] i h = absurd (omega arith)
map_at_lem f (x ∷ xs) zero h = refl
map_at_lem f (x ∷ xs) (suc i) h = map_at_lem f xs i (omega arith)
