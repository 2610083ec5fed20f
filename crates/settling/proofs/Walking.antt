-- The walk back from a goal, on costs that are right where cost and estimate together are at most a sum: the step that gives a cell its cost leaves a cheaper
-- cell of no greater sum, so the walk never leaves those cells, and it ends.
use mathlib.Core.Path.{◌≡◌, refl, sym, ◌∙◌, ap, subst}
use mathlib.Core.Logic.{◌≢◌}
use mathlib.Core.Bool.{cond}
use mathlib.Core.List.{List, [], ◌∷◌, ◌++◌, append_assoc, append-nil, reverse}
use Rattle.std.specs.Prelude.{Some}
use Prim.Native.Nat.{ℕ, zero, suc, ◌+◌, ◌-◌, ◌≤◌, ◌<◌}
use native.Mathlib.Omega.{arith}
use borrow.Author.Tests.{eq-eqb, ne_eqb}
use lib.Dec.{T, eqb, eqb→eq}
use lib.ListN.{length, get_or, length-append}
use Rattle.paths.specs.Graph.{Graph, Lawful, MARK}
use Rattle.paths.specs.Table.{Right, offer}
use Rattle.paths.specs.First.{meets, last_step, backward, first_route}
use Rattle.paths.proofs.Bools.{by_cond, not_eqb_ne}
use Rattle.paths.proofs.Below.{lowest_same}
use Rattle.paths.proofs.Ground.{cheaper, cheaper_step, cheaper_lt}
use Rattle.paths.proofs.Rule.{offer_is, is_offer}
use Rattle.paths.proofs.Firsts.{chosen, meets_some, some_meets}
use Rattle.settling.specs.Cut.{Agree}
use Rattle.settling.specs.Estimate.{Consistent, AgreeBy, Near}

module _ {g : Graph} {least most : ℕ} (law : Lawful g least most) (s : ℕ) (h : ℕ → ℕ) (con : Consistent g h) (top : ℕ) where
  -- the step into a cell that gives it its value leaves a cell of no greater sum
  sum_falls : (u d v a b : ℕ) → T (g.allowed u d) → g.to u d ≡ v → a + g.cost u d ≡ b → b + h v ≤ top → a + h u ≤ top
  sum_falls u d v a b k e q l = omega (arith, subst (λ (z : ℕ). h u ≤ g.cost u d + h z) e (con.falls u d k))

  -- a step that gives v its value in one table gives it in the other
  meets_too : (a b : List ℕ) → ((u : ℕ) → u < g.cells → get_or a u 0 ≢ MARK → get_or a u 0 + h u ≤ top → get_or b u 0 ≡ get_or a u 0)
      → (v d : ℕ) → v < g.cells → get_or a v 0 ≢ MARK → get_or a v 0 + h v ≤ top → T (meets (offer g a v d) (get_or a v 0)) → T (meets (offer g b v d) (get_or b v 0))
  meets_too a b same v d i n l m =
      let y = offer_is law s a v d (get_or a v 0) (meets_some (offer g a v d) (get_or a v 0) m) in
      let x = y.0 in
      let e = same x.u (law.leaves x.u x.d x.steps) x.known (sum_falls x.u x.d v (get_or a x.u 0) (get_or a v 0) x.steps x.lands x.sum l) in
      let o = is_offer law s b v (get_or b v 0)
      (record { u = x.u; d = x.d; steps = x.steps; lands = x.lands; known = λ z. x.known (sym e ∙ z); sum = omega (arith, x.sum, e, same v i n l) }) in
      some_meets (offer g b v d) (get_or b v 0) (subst (λ (k : ℕ). offer g b v k ≡ Some (get_or b v 0)) y.1 o)

  module _ (start : s < g.cells) (t : List ℕ) (right : Right g s t) (costs : List ℕ) (a : AgreeBy g h top t costs) where
    last_same : (v : ℕ) → v < g.cells → Near h top t v → last_step g costs v ≡ last_step g t v
    unfolding last_step
    last_same v i n =
        let e = a.back v i n.known n.within in
        lowest_same (λ d. meets (offer g costs v d) (get_or costs v 0)) (λ d. meets (offer g t v d) (get_or t v 0)) g.directions
        (λ d k. meets_too costs t a.there v d i (λ z. n.known (sym e ∙ z)) (omega (arith, e, n.within)))
        (λ d k. meets_too t costs a.back v d i n.known n.within)

    -- the cell that the last step of the first route to v leaves: the same in both tables, near, and cheaper by what the step costs
    record Leaves (v : ℕ) : Type 0 where
      step : last_step g costs v ≡ last_step g t v
      numbered : last_step g t v < g.directions
      inside : g.from v (last_step g t v) < g.cells
      near : Near h top t (g.from v (last_step g t v))
      lands : g.to (g.from v (last_step g t v)) (last_step g t v) ≡ v
      sum : get_or t (g.from v (last_step g t v)) 0 + g.cost (g.from v (last_step g t v)) (last_step g t v) ≡ get_or t v 0
      less : get_or t (g.from v (last_step g t v)) 0 < get_or t v 0

    leaves : (v : ℕ) → v < g.cells → v ≢ s → Near h top t v → Leaves v
    leaves v i o n =
        let x = chosen law s t start right v i o n.known in
        let d = last_step g t v in
        let e : g.from v d ≡ x.u = rw x.lands at (law.back x.u d x.steps) in
        record {
          step = last_same v i n;
          numbered = law.numbered x.u d x.steps;
          inside = rw e (law.leaves x.u d x.steps);
          near = rw e (record { known = x.known; within = sum_falls x.u d v (get_or t x.u 0) (get_or t v 0) x.steps x.lands x.sum n.within });
          lands = rw e x.lands;
          sum = rw e x.sum;
          less = rw e (omega (arith, x.sum, law.at_least x.u d x.steps, law.positive));
        }

    backward_same : (k v : ℕ) → v < g.cells → Near h top t v → backward g s costs k v ≡ backward g s t k v
    backward_same zero v i n = refl
    backward_same (suc k) v i n =
        let ih = backward_same k in
        by_cond (λ q. cond (eqb v s) [] (last_step g costs v ∷ backward g s costs k (g.from v (last_step g costs v))) ≡ q) (eqb v s) []
        (last_step g t v ∷ backward g s t k (g.from v (last_step g t v)))
        (λ c. rw (eq-eqb v s (eqb→eq v s c)))
        (λ c. let x = leaves v i (not_eqb_ne v s c) n in
        rw (ne_eqb v s (not_eqb_ne v s c), x.step) (ap {B = List ℕ} (λ r. last_step g t v ∷ r) (ih (g.from v (last_step g t v)) x.inside x.near)))

    pub first_same : (v : ℕ) → v < g.cells → Near h top t v → first_route g s costs v ≡ first_route g s t v
    unfolding first_route
    first_same v i n = ap reverse (backward_same g.cells v i n)

-- tables that agree below a bound agree by the estimate 0
pub plain : (g : Graph) → Consistent g (λ v. 0)
plain g = record { falls = λ u d k. omega arith }

pub agree_plain : {g : Graph} {t costs : List ℕ} {bound : ℕ} → length t ≡ g.cells → bound ≤ MARK → 0 < bound → Agree t costs bound → AgreeBy g (λ v. 0) (bound - 1) t costs
agree_plain c m p a = record {
  there = λ v i n l. a.there v (omega arith) (omega arith);
  back = λ v i n l. a.back v (omega arith) (omega arith);
}

pub near_plain : {l : List ℕ} {bound v : ℕ} → bound ≤ MARK → get_or l v 0 < bound → Near (λ v. 0) (bound - 1) l v
near_plain m b = record { known = omega arith; within = omega arith }

-- The steps ds, the last of the route first, lead from the goal back to v; `fuel` bounds the steps from there
pub record Walking (g : Graph) (s goal : ℕ) (costs : List ℕ) (v : ℕ) (ds : List ℕ) : Type 0 where
  pub t : List ℕ
  pub right : Right g s t
  pub h : ℕ → ℕ
  pub consistent : Consistent g h
  pub top : ℕ
  pub agrees : AgreeBy g h top t costs
  pub inside : v < g.cells
  pub near : Near h top costs v
  pub fuel : ℕ
  pub enough : cheaper g t (get_or t v 0) < fuel
  pub fits : length ds + fuel ≡ g.cells
  pub whole : backward g s costs g.cells goal ≡ ds ++ backward g s costs fuel v

-- One step more, to a cell that is cheaper by what the step costs
pub record Goes (g : Graph) (s goal : ℕ) (costs : List ℕ) (v : ℕ) (ds : List ℕ) : Type 0 where
  pub next : Walking g s goal costs (g.from v (last_step g costs v)) (ds ++ (last_step g costs v ∷ []))
  pub lands : g.to (g.from v (last_step g costs v)) (last_step g costs v) ≡ v
  pub sum : get_or costs (g.from v (last_step g costs v)) 0 + g.cost (g.from v (last_step g costs v)) (last_step g costs v) ≡ get_or costs v 0
  pub less : get_or costs (g.from v (last_step g costs v)) 0 < get_or costs v 0
  pub numbered : last_step g costs v < g.directions

module _ (g : Graph) (s : ℕ) (costs : List ℕ) where
  backward_stays : (k v : ℕ) → v ≡ s → backward g s costs k v ≡ []
  backward_stays zero v e = refl
  backward_stays (suc k) v e = rw (eq-eqb v s e)

  backward_goes : (k v : ℕ) → v ≢ s → 0 < k
      → (j : ℕ) × (suc j ≡ k) × (backward g s costs k v ≡ last_step g costs v ∷ backward g s costs j (g.from v (last_step g costs v)))
  backward_goes zero v n h = absurd (omega arith)
  backward_goes (suc k) v n h = (k, refl, rw (ne_eqb v s n))

-- what one table has of a near cell the other has too
near_too : (h : ℕ → ℕ) (top : ℕ) (a b : List ℕ) (v : ℕ) → get_or b v 0 ≡ get_or a v 0 → Near h top a v → Near h top b v
near_too h top a b v e n = record { known = λ z. n.known (sym e ∙ z); within = omega (arith, e, n.within) }

module _ {g : Graph} {s goal : ℕ} {costs : List ℕ} where
  pub walking_begins : {t : List ℕ} {h : ℕ → ℕ} {top : ℕ} → Right g s t → Consistent g h → AgreeBy g h top t costs → goal < g.cells → Near h top costs goal
      → Walking g s goal costs goal []
  walking_begins {t} {h} {top} r c a i n =
      record {
        t = t;
        right = r;
        h = h;
        consistent = c;
        top = top;
        agrees = a;
        inside = i;
        near = n;
        fuel = g.cells;
        enough = cheaper_lt g t goal i;
        fits = omega arith;
        whole = refl;
      }

  module _ {v : ℕ} {ds : List ℕ} (w : Walking g s goal costs v ds) where
    pub walking_goes : {least most : ℕ} → Lawful g least most → s < g.cells → v ≢ s → Goes g s goal costs v ds
    walking_goes law i n =
        let t = w.t in
        let d = last_step g costs v in
        let u = g.from v d in
        let e : get_or t v 0 ≡ get_or costs v 0 = w.agrees.there v w.inside w.near.known w.near.within in
        let x = leaves law s w.h w.consistent w.top i t w.right costs w.agrees v w.inside n (near_too w.h w.top costs t v e w.near) in
        let j : u < g.cells = rw x.step x.inside in
        let p : get_or t u 0 < get_or t v 0 = rw x.step x.less in
        let paid : get_or t u 0 + g.cost u d ≡ get_or t v 0 = rw x.step x.sum in
        let m : Near w.h w.top t u = rw x.step x.near in
        let q : get_or costs u 0 ≡ get_or t u 0 = w.agrees.back u j m.known m.within in
        let k = backward_goes g s costs w.fuel v n (omega (arith, w.enough)) in
        record {
          next = record {
            t = t;
            right = w.right;
            h = w.h;
            consistent = w.consistent;
            top = w.top;
            agrees = w.agrees;
            inside = j;
            near = near_too w.h w.top t costs u q m;
            fuel = k.0;
            enough = omega (arith, w.enough, k.1, cheaper_step g t u (get_or t v 0) j p);
            fits = omega (arith, w.fits, k.1, length-append ds (d ∷ []));
            whole = w.whole ∙ ap (λ (l : List ℕ). ds ++ l) k.2 ∙ sym (append_assoc ds (d ∷ []) (backward g s costs k.0 u));
          };
          lands = rw x.step x.lands;
          sum = omega (arith, paid, q, e);
          less = omega (arith, p, q, e);
          numbered = rw x.step x.numbered;
        }

    pub walking_ends : v ≡ s → first_route g s costs goal ≡ reverse ds
    unfolding first_route
    walking_ends e = ap reverse (w.whole ∙ ap (λ (l : List ℕ). ds ++ l) (backward_stays g s costs w.fuel v e) ∙ append-nil ds)
