-- The steps of a claimed route, one at a time, as the loop takes them.
use Rattle.std.specs.Prelude.{Ok, Err}
use mathlib.Core.Path.{◌≡◌, refl, ◌∙◌, ap}
use mathlib.Core.List.{List}
use Prim.Native.Nat.{ℕ, suc, ◌+◌, ◌*◌, ◌≤◌, ◌<◌}
use native.Mathlib.Numerals.{add-one}
use native.Mathlib.Omega.{arith}
use lib.ListN.{length, get_or, drop}
use lib.Seq.{drop-cons, drop-length}
use Rattle.paths.specs.Graph.{MARK}
use Rattle.floor.specs.declared.Floor.{Floor}
use Rattle.floor.specs.declared.Reason.{Reason}
use Rattle.floor.specs.Screen.{Passed}
use Rattle.floor.specs.Refusal.{screen, HasPassed}
use Rattle.floor.specs.Step.{step, greatest_step, step_of}
use Rattle.floor.proofs.Passing.{facts, few_cells}
use Rattle.floor.proofs.Laws.{step_between}
use Rattle.floor.specs.Numbers.{fault}
use Rattle.claims.specs.Route.{Claim, claim_lines, fault_of, arrived, on_step, tried}
use Rattle.claims.proofs.Passing.{claim_passed, claim_short}

-- after i steps, on cell v with the cost k behind: the rest of the route decides
pub record Behind (f : Floor) (m : List ℕ) (c : Claim) (v k i : ℕ) : Type 0 where
  pub rest : tried f m c c.start 0 0 c.route ≡ tried f m c v i k (drop i c.route)
  pub steps : i ≤ length c.route
  pub cost : k ≤ greatest_step * i

pub nothing_behind : (f : Floor) (m : List ℕ) (c : Claim) → Behind f m c c.start 0 0
nothing_behind f m c = record { rest = refl; steps = omega arith; cost = omega arith }

module _ {f : Floor} {m : List ℕ} {c : Claim} {v k i : ℕ} (b : Behind f m c v k i) where
  next : i < length c.route
      → tried f m c c.start 0 0 c.route ≡ on_step (step_of f m v (get_or c.route i 0)) i (λ w s. tried f m c w (suc i) (k + s) (drop (suc i) c.route))
  next h = b.rest ∙ rw (drop-cons c.route i 0 h)

  pub one_more : {w s : ℕ} → HasPassed f m → i < length c.route → step_of f m v (get_or c.route i 0) ≡ Ok (step w s) → Behind f m c w (k + s) (i + 1)
  one_more p h e = record {
    rest = next h ∙ rw (e, add-one);
    steps = omega arith;
    cost = omega (arith, b.cost, (step_between f m p v (get_or c.route i 0) e).1);
  }

  pub barred : {r : Reason} → i < length c.route → step_of f m v (get_or c.route i 0) ≡ Err r
      → tried f m c c.start 0 0 c.route ≡ fault (fault_of r) i
  barred h e = next h ∙ rw e

  pub all_behind : length c.route ≤ i → tried f m c c.start 0 0 c.route ≡ arrived c v (length c.route) k
  all_behind h =
      let e : i ≡ length c.route = omega (arith, b.steps) in
      b.rest ∙ ap (tried f m c v i k) (ap (λ (n : ℕ). drop n c.route) e ∙ drop-length c.route) ∙ ap (λ (n : ℕ). arrived c v n k) e

  -- a route has fewer steps than there are cells, so that no sum of their costs reaches MARK
  pub no_wrap : screen (claim_lines f m c) ≡ Passed → k < MARK
  no_wrap e = omega (arith, b.steps, b.cost, claim_short f m c e, few_cells (facts f m (claim_passed f m c e)).map)
