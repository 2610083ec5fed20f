-- What the collector reads off its number: the halves are the verdict's number and value, and each verdict has one of three forms.
use mathlib.Core.Path.{◌≡◌, refl, sym, ◌∙◌, ap}
use mathlib.Core.Logic.Iff
use mathlib.Core.Logic.{◌↔◌, ◌⊎◌, inl, inr, ⊎_elim}
use mathlib.Core.List.{List}
use Prim.Native.Nat.{ℕ, ◌/◌, ◌%◌, ◌≤◌, ◌<◌}
use native.Mathlib.Omega.{arith}
use Rattle.paths.specs.Graph.{MARK}
use Rattle.floor.specs.declared.Floor.{Floor}
use Rattle.floor.specs.Numbers.{Numbers, refused, fault, gives}
use Rattle.claims.specs.Route.{Claim, IsTrue, route_verdict, number_of, value_of, packed}
use Rattle.claims.proofs.Claims.{holds_exactly, halves, zero_exactly}

-- a verdict with a number above 0 is a refusal or a fault with that number and place
numbered : (v : Numbers) (n p : ℕ) → 0 < n → ((number_of v ≡ n) × (value_of v ≡ p)) ↔ ((v ≡ refused n p) ⊎ (v ≡ fault n p))
numbered v n p h = (λ x. from v x.0 x.1, ⊎_elim (λ e. (ap number_of e, ap value_of e)) (λ e. (ap number_of e, ap value_of e)))
  where
    from : (v : Numbers) → number_of v ≡ n → value_of v ≡ p → (v ≡ refused n p) ⊎ (v ≡ fault n p)
    from (refused a b) e k = inl (cc)
    from (fault a b) e k = inr (cc)
    from (gives vs) e l = absurd (omega arith)

-- a number that meets the promise of the call from C, of a claimed cost of 32 bits
module _ (f : Floor) (m : List ℕ) (c : Claim) (fits : c.cost ≤ MARK) (r : ℕ) (promised : r ≡ packed (route_verdict f m c)) where
  high : r / 4294967296 ≡ number_of (route_verdict f m c)
  high = rw promised (halves f m c fits).0

  low : r % 4294967296 ≡ value_of (route_verdict f m c)
  low = rw promised (halves f m c fits).1

  -- The high half is 0 exactly when the claim is true, and the low half is then its cost
  pub accepted_exactly : (r / 4294967296 ≡ 0) ↔ IsTrue f m c
  accepted_exactly = Iff.trans (λ e. sym high ∙ e, λ e. high ∙ e) (zero_exactly f m c)

  pub accepted_cost : r / 4294967296 ≡ 0 → r % 4294967296 ≡ c.cost
  accepted_cost e = low ∙ ap value_of ((holds_exactly f m c c.cost).1 (accepted_exactly.0 e, refl))

  -- Otherwise the halves are the number and the place of the refusal or the fault
  pub told_exactly : (n p : ℕ) → 0 < n
      → ((r / 4294967296 ≡ n) × (r % 4294967296 ≡ p)) ↔ ((route_verdict f m c ≡ refused n p) ⊎ (route_verdict f m c ≡ fault n p))
  told_exactly n p h =
      Iff.trans (λ x. (sym high ∙ x.0, sym low ∙ x.1), λ x. (high ∙ x.0, low ∙ x.1)) (numbered (route_verdict f m c) n p h)
