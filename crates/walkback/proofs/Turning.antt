-- The first bytes of a room that stand in each other's place are those bytes turned round: both lists have the same byte at each place.
use mathlib.Core.Path.{◌≡◌, sym, ap, ◌∙◌}
use mathlib.Core.Logic.{◌⊎◌, inl, inr, ⊎_elim}
use mathlib.Core.List.{List, ◌++◌, reverse}
use Prim.Native.Nat.{ℕ, ◌+◌, ◌-◌, ◌≤◌, ◌<◌}
use native.Mathlib.Omega.{arith}
use lib.ListN.{length, get_or, take, drop, length-append, length-drop, length-reverse, length-take}
use lib.Seq.{ext_get_or, get_or-take, get_or-drop}
use Rattle.std.proofs.lemmas.Bool.{cases_lt}
use Rattle.std.proofs.lemmas.List.{get_or-reverse, get_or-append_right, get_or_append_left}

place : (l : List ℕ) (m n : ℕ) → m ≡ n → get_or l m 0 ≡ get_or l n 0
place l m n e = ap (λ (k : ℕ). get_or l k 0) e

pub turned : (room route : List ℕ) (n : ℕ) → length route ≡ length room → n ≤ length room
    → ((k : ℕ) → k < n → get_or route k 0 ≡ get_or room (n - 1 - k) 0)
    → ((k : ℕ) → n ≤ k → get_or route k 0 ≡ get_or room k 0)
    → route ≡ reverse (take n room) ++ drop n room
turned room route n same fits inside after =
    let front = take n room in
    let back = reverse front in
    let short : length front ≡ n = omega (arith, length-take n room) in
    let long : length back ≡ n = length-reverse front ∙ short in
    let whole : length route ≡ length (back ++ drop n room) = omega (arith, same, length-append back (drop n room), length-drop n room) in
    ext_get_or 0 route (back ++ drop n room) whole (λ k a. ⊎_elim
    (λ l. inside k l ∙ sym (get_or_append_left back (drop n room) 0 k (omega arith) ∙ get_or-reverse front k 0 (omega arith)
    ∙ get_or-take n room (length front - 1 - k) 0 (omega arith) ∙ place room (length front - 1 - k) (n - 1 - k) (omega arith)))
    (λ l. after k l ∙ sym (get_or-append_right back (drop n room) n k 0 long l ∙ get_or-drop n room (k - n) 0 ∙ place room (n + (k - n)) k (omega arith)))
    (cases_lt k n))

-- where those before low and from n - low on have changed places, and at most one is left between them
pub all_turned : (room route : List ℕ) (n low : ℕ) → n < low + low + 2
    → ((k : ℕ) → k < n → (k < low) ⊎ (n - low ≤ k) → get_or route k 0 ≡ get_or room (n - 1 - k) 0)
    → ((k : ℕ) → low ≤ k → k < n - low → get_or route k 0 ≡ get_or room k 0)
    → (k : ℕ) → k < n → get_or route k 0 ≡ get_or room (n - 1 - k) 0
all_turned room route n low near outside between k a =
    ⊎_elim
    (λ l. outside k a (inl l))
    (λ l. ⊎_elim
    (λ h. between k l h ∙ place room k (n - 1 - k) (omega arith))
    (λ h. outside k a (inr h))
    (cases_lt k (n - low)))
    (cases_lt k low)
