-- The walk back by the lowest direction is the first route: any least-cost route ends in a step that gives the cell its value; induction along the walk
use mathlib.Core.Path.{◌≡◌, refl, sym, ◌∙◌, ap, subst}
use mathlib.Core.Logic.{◌≢◌, ◌⊎◌, inl, inr}
use mathlib.Core.List.{List, [], ◌∷◌, ◌++◌, reverse, reverse-cons, reverse-append, reverse-reverse}
use Rattle.std.specs.Prelude.{Option, None, Some}
use Prim.Native.Nat.{ℕ, zero, suc, ◌+◌, ◌≤◌, ◌<◌}
use native.Mathlib.Omega.{arith}
use native.Mathlib.Decide.{ℕ_discrete}
use lib.Dec.{T, eqb, eqb→eq, eqb_refl}
use lib.ListN.{length, get_or, length-append}
use Rattle.paths.specs.Below.{lowest}
use Rattle.paths.specs.Graph.{Graph, Lawful, MARK}
use Rattle.paths.specs.Route.{walks, cost_of, Route}
use Rattle.paths.specs.Table.{Right, offer}
use Rattle.paths.specs.First.{Ahead, First, meets, last_step, backward, first_route}
use Rattle.paths.proofs.Bools.{T_and, by_cond, not_eqb_ne}
use Rattle.paths.proofs.Below.{lowest_is}
use Rattle.paths.proofs.Walks.{Ending, snoc, stay, ending}
use Rattle.paths.proofs.Ground.{Grounded, Tight, cheaper, cheaper_step, cheaper_lt, route_lower, right_grounded, right_tight}
use Rattle.paths.proofs.Rule.{offer_is, is_offer}

pub not_both_ahead : (a b : List ℕ) → Ahead a b → Ahead b a → ⊥
not_both_ahead [] b p q = p
not_both_ahead (d ∷ a) [] p q = p
not_both_ahead (d ∷ a) (e ∷ b) (inl p) (inl q) = omega arith
not_both_ahead (d ∷ a) (e ∷ b) (inl p) (inr q) = omega (arith, q.0)
not_both_ahead (d ∷ a) (e ∷ b) (inr p) (inl q) = omega (arith, p.0)
not_both_ahead (d ∷ a) (e ∷ b) (inr p) (inr q) = not_both_ahead a b p.1 q.1

pub first_unique : (g : Graph) (s v : ℕ) (ds es : List ℕ) → First g s v ds → First g s v es → ds ≡ es
first_unique g s v ds es f h =
    let e : cost_of g s es ≡ cost_of g s ds = omega (arith, f.least es h.route, h.least ds f.route) in
    go (f.ahead es h.route e) (h.ahead ds f.route (sym e))
  where
    go : (es ≡ ds) ⊎ Ahead (reverse ds) (reverse es) → (ds ≡ es) ⊎ Ahead (reverse es) (reverse ds) → ds ≡ es
    go (inl e) b = sym e
    go (inr a) (inl e) = e
    go (inr a) (inr b) = absurd (not_both_ahead (reverse ds) (reverse es) a b)

pub meets_some : (o : Option ℕ) (c : ℕ) → T (meets o c) → o ≡ Some c
meets_some None c h = absurd h
meets_some (Some a) c h = ap {B = Option ℕ} Some (eqb→eq a c h)

pub some_meets : (o : Option ℕ) (c : ℕ) → o ≡ Some c → T (meets o c)
some_meets o c e = rw e (eqb_refl c)

pub reverse_snoc : (es : List ℕ) (e : ℕ) → reverse (es ++ (e ∷ [])) ≡ e ∷ reverse es
reverse_snoc es e = reverse-append es (e ∷ [])

module _ {g : Graph} {least most : ℕ} (law : Lawful g least most) (s : ℕ) (t : List ℕ) (i : s < g.cells) (r : Right g s t) where
  grounded : Grounded g s t
  grounded = right_grounded law s t i r

  tight : Tight g t
  tight = right_tight law s t i r

  -- the last step of a least-cost route gives the cell its value, and the route before it has least cost
  record LeastEnding (v : ℕ) (es : List ℕ) : Type 0 where
    end : Ending g s v es
    known : get_or t end.u 0 ≢ MARK
    least_front : cost_of g s end.front ≡ get_or t end.u 0
    sum : get_or t end.u 0 + g.cost end.u end.d ≡ get_or t v 0

  least_ending : (v : ℕ) → v ≢ s → (es : List ℕ) → Route g s v es → cost_of g s es ≡ get_or t v 0 → LeastEnding v es
  least_ending v n es w c =
      let x = ending g s v n es w in
      let b = route_lower law s t grounded tight x.u x.front x.route in
      let y = rw x.lands at (tight x.u x.d x.steps b.0) in
      record {
        end = x;
        known = b.0;
        least_front = omega (arith, b.1, y, x.costs);
        sum = omega (arith, b.1, y, x.costs);
      }

  gives : (v : ℕ) (es : List ℕ) (x : LeastEnding v es) → offer g t v x.end.d ≡ Some (get_or t v 0)
  gives v es x =
      is_offer law s t v (get_or t v 0)
      (record { u = x.end.u; d = x.end.d; steps = x.end.steps; lands = x.end.lands; known = x.known; sum = x.sum })

  empty_cost : (es : List ℕ) → T (walks g s es) → cost_of g s es ≡ 0 → es ≡ []
  empty_cost [] w c = refl
  empty_cost (d ∷ ds) w c = absurd (omega (arith, law.at_least s d (T_and (g.allowed s d) _ w).0, law.positive))

  -- a least-cost route has at most as many steps as there are cells cheaper than its end
  few_steps : (k v : ℕ) → v < g.cells → get_or t v 0 < k → (es : List ℕ) → Route g s v es → cost_of g s es ≡ get_or t v 0
      → length es ≤ cheaper g t (get_or t v 0)
  few_steps zero v h l es w c = absurd (omega arith)
  few_steps (suc k) v h l es w c = go (ℕ_discrete v s) (few_steps k)
    where
      go : Dec (v ≡ s)
          → ((u : ℕ) → u < g.cells → get_or t u 0 < k → (fs : List ℕ) → Route g s u fs → cost_of g s fs ≡ get_or t u 0 → length fs ≤ cheaper g t (get_or t u 0))
          → length es ≤ cheaper g t (get_or t v 0)
      go (yes e) ih =
          let z = empty_cost es w.allowed (c ∙ ap (λ (x : ℕ). get_or t x 0) e ∙ grounded.origin) in
          omega (arith, ap length z)
      go (no n) ih =
          let x = least_ending v n es w c in
          let e = x.end in
          let j = law.leaves e.u e.d e.steps in
          let q : get_or t e.u 0 < get_or t v 0 = omega (arith, x.sum, law.at_least e.u e.d e.steps, law.positive) in
          let a = ih e.u j (omega arith) e.front e.route x.least_front in
          omega (arith, a, cheaper_step g t e.u (get_or t v 0) j q, ap length e.whole, length-append e.front (e.d ∷ []))

  pub least_short : (v : ℕ) → v < g.cells → (es : List ℕ) → Route g s v es → cost_of g s es ≡ get_or t v 0 → length es < g.cells
  least_short v h es w c = omega (arith, few_steps (suc (get_or t v 0)) v h (omega arith) es w c, cheaper_lt g t v h)

  -- the chosen last step of a cell that is not the start gives the cell its value, and no lower one does
  pub record Chosen (v d : ℕ) : Type 0 where
    pub u : ℕ
    pub steps : T (g.allowed u d)
    pub lands : g.to u d ≡ v
    pub known : get_or t u 0 ≢ MARK
    pub sum : get_or t u 0 + g.cost u d ≡ get_or t v 0
    pub none_lower : (e : ℕ) → e < g.directions → offer g t v e ≡ Some (get_or t v 0) → d ≤ e

  pub chosen : (v : ℕ) → v < g.cells → v ≢ s → get_or t v 0 ≢ MARK → Chosen v (last_step g t v)
  unfolding last_step
  chosen v h n m =
      let l = lowest_is (λ d. meets (offer g t v d) (get_or t v 0)) g.directions in
      let p = grounded.parent v h n m in
      let w = l.minimal p.d (law.numbered p.u p.d p.steps) (some_meets (offer g t v p.d) (get_or t v 0) (is_offer law s t v (get_or t v 0) p)) in
      let d = lowest (λ d. meets (offer g t v d) (get_or t v 0)) g.directions in
      let f = offer_is law s t v d (get_or t v 0) (meets_some _ _ (l.passes (omega (arith, law.numbered p.u p.d p.steps)))) in
      let x = f.0 in
      record {
        u = x.u;
        steps = subst (λ (e : ℕ). T (g.allowed x.u e)) f.1 x.steps;
        lands = subst (λ (e : ℕ). g.to x.u e ≡ v) f.1 x.lands;
        known = x.known;
        sum = subst (λ (e : ℕ). get_or t x.u 0 + g.cost x.u e ≡ get_or t v 0) f.1 x.sum;
        none_lower = λ e k q. l.minimal e k (some_meets (offer g t v e) (get_or t v 0) q);
      }

  -- b read backwards is the first least-cost route to v
  record Traced (v : ℕ) (b : List ℕ) : Type 0 where
    route : Route g s v (reverse b)
    costs : cost_of g s (reverse b) ≡ get_or t v 0
    ahead : (es : List ℕ) → Route g s v es → cost_of g s es ≡ get_or t v 0 → (es ≡ reverse b) ⊎ Ahead b (reverse es)

  traced_start : (v : ℕ) → v ≡ s → Traced v []
  traced_start v e =
      record {
        route = rw e (stay g s);
        costs = rw e (sym grounded.origin);
        ahead = λ es w c. inl (empty_cost es w.allowed (c ∙ rw e grounded.origin));
      }

  traced_step : (v d : ℕ) (b : List ℕ) → v ≢ s → (x : Chosen v d) → Traced x.u b → Traced v (d ∷ b)
  traced_step v d b n x ih =
      let q = snoc g s x.u d (reverse b) ih.route x.steps in
      record {
        route = rw (reverse-cons d b) (rw x.lands at q.0);
        costs = ap (λ (l : List ℕ). cost_of g s l) (reverse-cons d b) ∙ omega (arith, q.1, ih.costs, x.sum);
        ahead = λ es w c. let y = least_ending v n es w c in compare es y (ℕ_discrete d y.end.d);
      }
    where
      compare : (es : List ℕ) (y : LeastEnding v es) → Dec (d ≡ y.end.d) → (es ≡ reverse (d ∷ b)) ⊎ Ahead (d ∷ b) (reverse es)
      compare es y (no e) =
          let z = y.end in
          let h = x.none_lower z.d (law.numbered z.u z.d z.steps) (gives v es y) in
          inr (rw (z.whole, reverse_snoc z.front z.d) (inl (omega arith)))
      compare es y (yes e) =
          let a : g.from v d ≡ x.u = rw x.lands at (law.back x.u d x.steps) in
          let c : g.from v y.end.d ≡ y.end.u = rw y.end.lands at (law.back y.end.u y.end.d y.end.steps) in
          let q : y.end.u ≡ x.u = cc in
          fronts (ih.ahead y.end.front (subst (λ (k : ℕ). Route g s k y.end.front) q y.end.route) (y.least_front ∙ ap (λ (k : ℕ). get_or t k 0) q))
        where
          fronts : (y.end.front ≡ reverse b) ⊎ Ahead b (reverse y.end.front) → (es ≡ reverse (d ∷ b)) ⊎ Ahead (d ∷ b) (reverse es)
          fronts (inl h) =
              inl (y.end.whole ∙ ap (λ (l : List ℕ). l ++ (y.end.d ∷ [])) h ∙ ap (λ (k : ℕ). reverse b ++ (k ∷ [])) (sym e) ∙ sym (reverse-cons d b))
          fronts (inr h) = inr (rw (y.end.whole, reverse_snoc y.end.front y.end.d) (inr (e, h)))

  traced : (k v : ℕ) → v < g.cells → get_or t v 0 ≢ MARK → cheaper g t (get_or t v 0) < k → Traced v (backward g s t k v)
  traced zero v h m b = absurd (omega arith)
  traced (suc k) v h m b =
      let d = last_step g t v in
      let ih = traced k in
      by_cond (λ l. Traced v l) (eqb v s) [] (d ∷ backward g s t k (g.from v d)) (λ c. traced_start v (eqb→eq v s c))
      (λ c.
      let n = not_eqb_ne v s c in
      let x = chosen v h n m in
      let q : g.from v d ≡ x.u = rw x.lands at (law.back x.u d x.steps) in
      let j = law.leaves x.u d x.steps in
      let p : get_or t x.u 0 < get_or t v 0 = omega (arith, x.sum, law.at_least x.u d x.steps, law.positive) in
      let w = cheaper_step g t x.u (get_or t v 0) j p in
      traced_step v d (backward g s t k (g.from v d)) n x
      (subst (λ (y : ℕ). Traced x.u (backward g s t k y)) (sym q) (ih x.u j x.known (omega arith))))

  pub first_cost : (v : ℕ) → v < g.cells → get_or t v 0 ≢ MARK → cost_of g s (first_route g s t v) ≡ get_or t v 0
  unfolding first_route
  first_cost v h m = (traced g.cells v h m (cheaper_lt g t v h)).costs

  pub first_route_lem : (v : ℕ) → v < g.cells → get_or t v 0 ≢ MARK → First g s v (first_route g s t v)
  unfolding first_route
  first_route_lem v h m =
      let b = backward g s t g.cells v in
      let x = traced g.cells v h m (cheaper_lt g t v h) in
      record {
        route = x.route;
        least = λ es w. omega (arith, x.costs, (route_lower law s t grounded tight v es w).1);
        ahead = λ es w c. subst (λ (y : List ℕ). (es ≡ reverse b) ⊎ Ahead y (reverse es)) (sym (reverse-reverse b)) (x.ahead es w (c ∙ x.costs));
      }
