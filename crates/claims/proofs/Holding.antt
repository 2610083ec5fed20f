-- The steps of a claimed route, tried in order, decide whether it holds and which fault comes first: by induction on the steps.
use Rattle.std.specs.Prelude.{Result, Ok, Err}
use mathlib.Core.Path.{◌≡◌, refl, ◌∙◌}
use mathlib.Core.Bool.{not}
use mathlib.Core.List.{List, [], ◌∷◌, ◌++◌}
use Prim.Native.Nat.{ℕ, suc, ◌+◌, ◌<◌}
use native.Mathlib.Nat.{add-zero, zero-add}
use native.Mathlib.Omega.{arith}
use lib.Dec.{T, eqb, eqb→eq}
use lib.ListN.{length, get_or}
use Rattle.paths.specs.Route.{walks, ends, cost_of, Route}
use Rattle.paths.proofs.Bools.{T_and, and_T, T_not-not, by_cond}
use Rattle.floor.specs.declared.Floor.{Floor}
use Rattle.floor.specs.declared.Reason.{Reason}
use Rattle.floor.specs.declared.Step.{Step}
use Rattle.floor.specs.Screen.{Screen, Passed}
use Rattle.floor.specs.Step.{target, step_cost, step_of, allowed, graph}
use Rattle.floor.specs.Place.{cells}
use Rattle.floor.proofs.Laws.{reaches_map, reaches_open}
use Rattle.floor.proofs.Allowed.{allowed_is, step_is, leads}
use Rattle.floor.specs.Numbers.{Numbers, after_screen}
use Rattle.claims.specs.Route.{Claim, holds, arrived, on_step, tried}

pub passed_holds : (x : Screen) (v : Numbers) (k : ℕ) → after_screen x v ≡ holds k → (x ≡ Passed) × (v ≡ holds k)
passed_holds Passed v k e = (refl, e)
passed_holds (Screen.Refused n p) v k e = let z : ◌≡◌ {A = ℕ} 0 1 = cc in absurd (omega arith)

-- from cell v, with the cost k behind, the steps ds lead to the goal at the claimed cost
pub record Ends (f : Floor) (m : List ℕ) (c : Claim) (v k : ℕ) (ds : List ℕ) : Type 0 where
  pub route : Route (graph f m) v c.goal ds
  pub costs : k + cost_of (graph f m) v ds ≡ c.cost

module _ (f : Floor) (m : List ℕ) (c : Claim) where
  pub holds_ends : (ds : List ℕ) (v i k n : ℕ) → tried f m c v i k ds ≡ holds n → Ends f m c v k ds × (n ≡ c.cost)
  unfolding arrived
  holds_ends [] v i k n =
      by_cond (λ (x : Numbers). x ≡ holds n → Ends f m c v k [] × (n ≡ c.cost)) (not (eqb v c.goal)) _ _
      (λ h e. let z : ◌≡◌ {A = ℕ} 0 1 = cc in absurd (omega arith))
      (λ h. by_cond (λ (x : Numbers). x ≡ holds n → Ends f m c v k [] × (n ≡ c.cost)) (not (eqb k c.cost)) _ _
      (λ l e. let z : ◌≡◌ {A = ℕ} 0 1 = cc in absurd (omega arith))
      (λ l e.
      let q = eqb→eq k c.cost (T_not-not (eqb k c.cost) l) in
      let r = eqb→eq v c.goal (T_not-not (eqb v c.goal) h) in
      (record { route = record { allowed = tt; arrives = r }; costs = omega arith }, cc)))
  holds_ends (d ∷ ds) v i k n = go (step_of f m v d) refl (λ w s. holds_ends ds w (suc i) (k + s) n)
    where
      go : (x : Result Step Reason) → step_of f m v d ≡ x → ((w s : ℕ) → tried f m c w (suc i) (k + s) ds ≡ holds n → Ends f m c w (k + s) ds × (n ≡ c.cost))
          → on_step x i (λ w s. tried f m c w (suc i) (k + s) ds) ≡ holds n → Ends f m c v k (d ∷ ds) × (n ≡ c.cost)
      go (Err r) q ih e = let z : ◌≡◌ {A = ℕ} 0 1 = cc in absurd (omega arith)
      go (Ok s) q ih e =
          let l = leads f m v d q in
          let x = rw (l.to, l.costs) at (ih s.cell s.cost e) in (
            record {
              route = record { allowed = and_T (allowed f m v d) _ l.steps x.0.route.allowed; arrives = x.0.route.arrives };
              costs = omega (arith, x.0.costs);
            },
            x.1,
          )

  -- allowed steps lead on
  walked_on : (ds es : List ℕ) (v i k : ℕ) → T (walks (graph f m) v ds)
      → tried f m c v i k (ds ++ es) ≡ tried f m c (ends (graph f m) v ds) (i + length ds) (k + cost_of (graph f m) v ds) es
  walked_on [] es v i k t = rw (add-zero, add-zero)
  walked_on (d ∷ ds) es v i k t =
      let a = T_and (allowed f m v d) (walks (graph f m) (target f v d) ds) t in
      rw (step_is f m v d (allowed_is f m v d a.0))
      (walked_on ds es (target f v d) (suc i) (k + step_cost m d v (target f v d)) a.1 ∙ same (ends (graph f m) (target f v d) ds) (omega arith) (omega arith))
    where
      same : (w : ℕ) {i i' k k' : ℕ} → i ≡ i' → k ≡ k' → tried f m c w i k es ≡ tried f m c w i' k' es
      same w p q = rw (p, q)

  pub walked : (ds es : List ℕ) (v : ℕ) → T (walks (graph f m) v ds)
      → tried f m c v 0 0 (ds ++ es) ≡ tried f m c (ends (graph f m) v ds) (length ds) (cost_of (graph f m) v ds) es
  walked ds es v t = walked_on ds es v 0 0 t ∙ rw (zero-add, zero-add)

  -- and stand on an open cell
  pub stands : (ds : List ℕ) (v : ℕ) → v < cells f → 0 < get_or m v 0 → T (walks (graph f m) v ds)
      → (ends (graph f m) v ds < cells f) × (0 < get_or m (ends (graph f m) v ds) 0)
  stands [] v h o t = (h, o)
  stands (d ∷ ds) v h o t =
      let a = T_and (allowed f m v d) (walks (graph f m) (target f v d) ds) t in
      stands ds (target f v d) (reaches_map f m v d a.0) (reaches_open f m v d a.0) a.1
