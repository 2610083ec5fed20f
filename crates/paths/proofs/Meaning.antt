-- What the definitions of specs/ mean: the theorems, each from the laws in the files beside this one.
use mathlib.Core.Path.{◌≡◌, sym, ◌∙◌}
use mathlib.Core.Logic.{◌↔◌, ◌≢◌}
use mathlib.Core.List.{List, [], ◌∷◌}
use Prim.Native.Nat.{ℕ, ◌-◌, ◌*◌, ◌≤◌, ◌<◌}
use native.Mathlib.Omega.{arith}
use native.Mathlib.Nat.{mul-le-mul_left}
use lib.ListN.{length, get_or}
use Rattle.paths.specs.Graph.{Graph, Lawful, MARK}
use Rattle.paths.specs.Route.{cost_of, Route, Reachable, Least}
use Rattle.paths.specs.Table.{Right, Obeys}
use Rattle.paths.specs.First.{First, first_route}
use Rattle.paths.proofs.Walks.{ending_cons}
use Rattle.paths.proofs.Ground.{value_most, cheaper, cheaper_lt, right_grounded}
use Rattle.paths.proofs.Rule.{obeys_right, right_obeys}
use Rattle.paths.proofs.Exists.{least_unique, right_unique, right_exists}
use Rattle.paths.proofs.Firsts.{first_unique, first_cost, first_route_lem, least_short}

module _ {g : Graph} {least most : ℕ} (law : Lawful g least most) (s : ℕ) (start : s < g.cells) where
  -- the right table exists and is unique
  pub one_right_table : (t : List ℕ) × Right g s t × ((t' : List ℕ) → Right g s t' → t' ≡ t)
  one_right_table =
      let x = right_exists law s start in
      (x.0, x.1, λ t' r. right_unique g s t' x.0 r x.1)

  -- the rule holds at every cell exactly when the table is right
  pub rule_is_right : (t : List ℕ) → Obeys g s t ↔ Right g s t
  rule_is_right t = (obeys_right law s t start, right_obeys law s t start)

  -- a route ends at a cell
  pub ends_inside : (v : ℕ) → Reachable g s v → v < g.cells
  ends_inside v ([], w) = rw w.arrives at start
  ends_inside v (d ∷ ds, w) =
      let x = ending_cons g s v d ds w in
      rw x.lands at (law.enters x.u x.d x.steps)

  module _ (t : List ℕ) (right : Right g s t) where
    -- a cell is reachable exactly when its value is not MARK
    pub reachable_known : (v : ℕ) → v < g.cells → Reachable g s v ↔ (get_or t v 0 ≢ MARK)
    reachable_known v h = (λ x m. right.closed v h m x.0 x.1, λ m. let l = right.reached v h m in (l.way, l.route))

    -- the first route exists for every reachable cell, is what walking back by the lowest direction gives, and is unique
    pub one_first_route : (v : ℕ) → Reachable g s v → First g s v (first_route g s t v) × ((ds : List ℕ) → First g s v ds → ds ≡ first_route g s t v)
    one_first_route v x =
        let h = ends_inside v x in
        let f = first_route_lem law s t start right v h ((reachable_known v h).0 x) in
        (f, λ ds e. first_unique g s v ds (first_route g s t v) e f)

    -- and it costs what the table says
    pub first_route_cost : (v : ℕ) → Reachable g s v → cost_of g s (first_route g s t v) ≡ get_or t v 0
    first_route_cost v x = let h = ends_inside v x in first_cost law s t start right v h ((reachable_known v h).0 x)

  module _ (v c : ℕ) (l : Least g s v c) where
    -- the right table's value of a reachable cell is its least cost
    pub value_is_least : (t : List ℕ) → (right : Right g s t) → get_or t v 0 ≡ c
    value_is_least t right =
        let x : Reachable g s v = (l.way, l.route) in
        let h = ends_inside v x in
        least_unique g s v (get_or t v 0) c (right.reached v h ((reachable_known t right v h).0 x)) l

    -- a least-cost route has fewer steps than there are cells
    pub least_cost_route_short : (ds : List ℕ) → Route g s v ds → cost_of g s ds ≡ c → length ds < g.cells
    least_cost_route_short ds w e =
        let x = right_exists law s start in
        least_short law s x.0 start x.1 v (ends_inside v (ds, w)) ds w (e ∙ sym (value_is_least x.0 x.1))

    -- and costs at most the greatest step for each cell but one
    pub least_cost_most : c ≤ most * (g.cells - 1)
    least_cost_most =
        let x = right_exists law s start in
        let t = x.0 in
        let e = value_is_least t x.1 in
        let y : Reachable g s v = (l.way, l.route) in
        let h = ends_inside v y in
        let a = value_most law s t (right_grounded law s t start x.1) v h ((reachable_known t x.1 v h).0 y) in
        let b : cheaper g t (get_or t v 0) ≤ g.cells - 1 = omega (arith, cheaper_lt g t v h) in
        omega (arith, a, mul-le-mul_left most b)
