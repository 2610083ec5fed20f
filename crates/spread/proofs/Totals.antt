-- What one write does to the sum of all entries: by induction on the place.
use mathlib.Core.Path.{◌≡◌}
use mathlib.Core.List.{List, [], ◌∷◌}
use Prim.Native.Nat.{ℕ, zero, suc, ◌+◌, ◌≤◌, ◌<◌}
use native.Mathlib.Omega.{arith}
use lib.ListN.{length, get_or, set}
use Rattle.spread.specs.Listing.{total, Offered, no_less, falls, joins}

pub total_set : (l : List ℕ) (i c : ℕ) → i < length l → total (set l i c) + get_or l i 0 ≡ total l + c
unfolding total
total_set [] i c h = absurd (omega arith)
total_set (x ∷ l) zero c h = omega arith
total_set (x ∷ l) (suc i) c h = omega (arith, total_set l i c (omega arith))

-- a cost that falls takes at least as much from the sum as the list grows by
pub offered_falls : {costs work : List ℕ} {len to sum : ℕ} {costs' work' : List ℕ} {len' : ℕ} → to < length costs
    → Offered costs work len to sum costs' work' len' → total costs' + len' ≤ total costs + len
offered_falls h (no_less l) = omega arith
offered_falls {costs = costs} {to = to} {sum = sum} h (falls l e) = omega (arith, total_set costs to sum h)
offered_falls {costs = costs} {to = to} {sum = sum} h (joins l e) = omega (arith, total_set costs to sum h)
