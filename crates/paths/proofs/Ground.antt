-- The hub: right is grounded (the start has 0, other values come from parents) and tight (no step offers less); values fall to parents, so each belongs to a route
use mathlib.Core.Path.{◌≡◌, sym}
use mathlib.Core.Logic.{◌≢◌}
use mathlib.Core.List.{List, [], ◌∷◌, ◌++◌}
use Prim.Native.Nat.{ℕ, zero, suc, ◌+◌, ◌*◌, ◌≤◌, ◌<◌}
use native.Mathlib.Omega.{arith}
use native.Mathlib.Nat.{mul-le-mul_left, lt_of_lt_of_le}
use native.Mathlib.Decide.{ℕ_discrete}
use lib.Dec.{T, ltb, ltb→lt, lt→ltb}
use lib.ListN.{length, get_or}
use Rattle.paths.specs.Below.{count}
use Rattle.paths.specs.Graph.{Graph, Lawful, MARK}
use Rattle.paths.specs.Route.{walks, ends, cost_of, Route}
use Rattle.paths.specs.Table.{Right}
use Rattle.paths.specs.Sum.{Offers}
use Rattle.paths.proofs.Bools.{T_and}
use Rattle.paths.proofs.Below.{count_le, count_strict}
use Rattle.paths.proofs.Walks.{snoc, stay, ending}

-- a parent of v: the step from it offers v's own value
abbrev pub Parent : Graph → List ℕ → ℕ → Type 0
Parent g t v = Offers g t v (get_or t v 0)

pub record Grounded (g : Graph) (s : ℕ) (t : List ℕ) : Type 0 where
  pub covers : length t ≡ g.cells
  pub origin : get_or t s 0 ≡ 0
  pub parent : (v : ℕ) → v < g.cells → v ≢ s → get_or t v 0 ≢ MARK → Parent g t v

abbrev pub Tight : Graph → List ℕ → Type 0
Tight g t = (u d : ℕ) → T (g.allowed u d) → get_or t u 0 ≢ MARK → get_or t (g.to u d) 0 ≤ get_or t u 0 + g.cost u d

-- how many cells have a value below k
pub cheaper : Graph → List ℕ → ℕ → ℕ
cheaper g t k = count (λ u. ltb (get_or t u 0) k) g.cells

pub cheaper_step : (g : Graph) (t : List ℕ) (u k : ℕ) → u < g.cells → get_or t u 0 < k → cheaper g t (get_or t u 0) < cheaper g t k
unfolding cheaper
cheaper_step g t u k h l =
    count_strict (λ w. ltb (get_or t w 0) (get_or t u 0)) (λ w. ltb (get_or t w 0) k) g.cells
    (λ w i p. let q = ltb→lt (get_or t w 0) (get_or t u 0) p in lt→ltb (get_or t w 0) k (omega arith))
    u h (λ p. let q = ltb→lt (get_or t u 0) (get_or t u 0) p in omega arith) (lt→ltb (get_or t u 0) k l)

pub cheaper_lt : (g : Graph) (t : List ℕ) (v : ℕ) → v < g.cells → cheaper g t (get_or t v 0) < g.cells
unfolding cheaper
cheaper_lt g t v h =
    lt_of_lt_of_le (cheaper_step g t v (suc (get_or t v 0)) h (omega arith)) (count_le (λ u. ltb (get_or t u 0) (suc (get_or t v 0))) g.cells)

module _ {g : Graph} {least most : ℕ} (law : Lawful g least most) (s : ℕ) (t : List ℕ) where
  -- a parent's value is smaller
  pub parent_less : (v : ℕ) (x : Parent g t v) → get_or t x.u 0 < get_or t v 0
  parent_less v x = omega (arith, x.sum, law.at_least x.u x.d x.steps, law.positive)

  -- what holds of the start, and of a cell if of its parent, holds of every cell with a value
  pub by_parents : Grounded g s t → (P : ℕ → Type 0) → P s
      → ((v : ℕ) → v < g.cells → v ≢ s → get_or t v 0 ≢ MARK → (x : Parent g t v) → P x.u → P v)
      → (v : ℕ) → v < g.cells → get_or t v 0 ≢ MARK → P v
  by_parents gr P base step v h m = down (suc (get_or t v 0)) v h m (omega arith)
    where
      down : (k v : ℕ) → v < g.cells → get_or t v 0 ≢ MARK → get_or t v 0 < k → P v
      down zero v h m l = absurd (omega arith)
      down (suc k) v h m l = go (ℕ_discrete v s) (down k)
        where
          go : Dec (v ≡ s) → ((u : ℕ) → u < g.cells → get_or t u 0 ≢ MARK → get_or t u 0 < k → P u) → P v
          go (yes e) ih = rw e base
          go (no e) ih =
              let x = gr.parent v h e m in
              step v h e m x (ih x.u (law.leaves x.u x.d x.steps) x.known (omega (arith, parent_less v x)))

  module _ (gr : Grounded g s t) where
    -- a value is at most `most` for each cell cheaper than it
    pub value_most : (v : ℕ) → v < g.cells → get_or t v 0 ≢ MARK → get_or t v 0 ≤ most * cheaper g t (get_or t v 0)
    value_most = by_parents gr (λ v. get_or t v 0 ≤ most * cheaper g t (get_or t v 0)) (omega (arith, gr.origin))
        (λ v h n m x ih.
        let a = cheaper_step g t x.u (get_or t v 0) (law.leaves x.u x.d x.steps) (parent_less v x) in
        omega (arith, ih, x.sum, law.at_most x.u x.d x.steps, mul-le-mul_left most a))

    -- so a further step stays below MARK
    pub room : (v : ℕ) → v < g.cells → get_or t v 0 ≢ MARK → get_or t v 0 + most < MARK
    room v h m = omega (arith, value_most v h m, mul-le-mul_left most (cheaper_lt g t v h), law.costs_fit)

    abbrev Made : ℕ → Type 0
    Made v = (ds : List ℕ) × Route g s v ds × (cost_of g s ds ≡ get_or t v 0)

    made : (v : ℕ) → v < g.cells → get_or t v 0 ≢ MARK → Made v
    made = by_parents gr Made ([], stay g s, sym gr.origin)
        (λ v h n m x ih.
        let l = snoc g s x.u x.d ih.0 ih.1 x.steps in
        (ih.0 ++ (x.d ∷ []), rw x.lands at l.0, omega (arith, l.1, ih.2, x.sum)))

    module _ (ti : Tight g t) where
      lower : (ds : List ℕ) (u : ℕ) → T (walks g u ds) → get_or t u 0 ≢ MARK
          → (get_or t (ends g u ds) 0 ≢ MARK) × (get_or t (ends g u ds) 0 ≤ get_or t u 0 + cost_of g u ds)
      lower [] u w m = (m, omega arith)
      lower (d ∷ ds) u w m =
          let h = T_and (g.allowed u d) (walks g (g.to u d) ds) w in
          let a = ti u d h.0 m in
          let r = room u (law.leaves u d h.0) m in
          let b = lower ds (g.to u d) h.1 (omega (arith, law.at_most u d h.0)) in
          (b.0, omega (arith, b.1))

      -- no route to v costs less than v's value
      pub route_lower : (v : ℕ) (ds : List ℕ) → Route g s v ds → (get_or t v 0 ≢ MARK) × (get_or t v 0 ≤ cost_of g s ds)
      route_lower v ds r =
          let b = rw r.arrives at (lower ds s r.allowed (omega (arith, gr.origin))) in
          (b.0, omega (arith, b.1, gr.origin))

      pub grounded_right : Right g s t
      grounded_right = record {
        covers = gr.covers;
        reached = λ v h m.
            let q = made v h m in
            record { way = q.0; route = q.1; costs = q.2; none_less = λ ds r. (route_lower v ds r).1 };
        closed = λ v h m ds r. (route_lower v ds r).0 m;
      }

  module _ (i : s < g.cells) (r : Right g s t) where
    pub right_tight : Tight g t
    right_tight u d k m =
        let j = law.enters u d k in
        let l = r.reached u (law.leaves u d k) m in
        let w = snoc g s u d l.way l.route k in
        let n = r.reached (g.to u d) j (λ e. r.closed (g.to u d) j e (l.way ++ (d ∷ [])) w.0) in
        omega (arith, n.none_less (l.way ++ (d ∷ [])) w.0, w.1, l.costs)

    pub right_grounded : Grounded g s t
    right_grounded = record {
      covers = r.covers;
      origin = omega (arith, (r.reached s i (λ m. r.closed s i m [] (stay g s))).none_less [] (stay g s));
      parent = λ v h n m.
          let l = r.reached v h m in
          let x = ending g s v n l.way l.route in
          let j = law.leaves x.u x.d x.steps in
          let k : get_or t x.u 0 ≢ MARK = λ e. r.closed x.u j e x.front x.route in
          let a = (r.reached x.u j k).none_less x.front x.route in
          let b = rw x.lands at (right_tight x.u x.d x.steps k) in
          record { u = x.u; d = x.d; steps = x.steps; lands = x.lands; known = k; sum = omega (arith, x.costs, l.costs) };
    }
