-- What the verdicts mean: the theorems, each from the laws in the files beside this one.
use Rattle.std.specs.Prelude.{Option, Result}
use mathlib.Core.Path.{◌≡◌, refl, sym, ◌∙◌, ap}
use mathlib.Core.Logic.{◌↔◌, ◌≢◌}
use mathlib.Core.List.{List, [], append-nil}
use Prim.Native.Nat.{ℕ, ◌/◌, ◌%◌, ◌≤◌, ◌<◌}
use native.Mathlib.Omega.{arith}
use borrow.Author.Tests.{eq-eqb}
use lib.Arith.{digits_div, digits_mod}
use lib.Dec.{T}
use lib.ListN.{length, get_or, take}
use lib.Seq.{get_or-take}
use Rattle.paths.specs.Graph.{Graph, MARK}
use Rattle.paths.specs.Route.{walks, ends, cost_of, Route, Least}
use Rattle.paths.specs.Table.{Right, due, Obeys}
use Rattle.paths.proofs.Meaning.{rule_is_right}
use Rattle.floor.specs.declared.Floor.{Floor}
use Rattle.floor.specs.declared.refusals.Refusal.{Refusal}
use Rattle.floor.specs.Screen.{Screen, Passed}
use Rattle.floor.specs.Place.{cells}
use Rattle.floor.specs.Refusal.{screen}
use Rattle.floor.specs.Step.{graph}
use Rattle.floor.proofs.Laws.{lawful}
use Rattle.floor.specs.Numbers.{refused}
use Rattle.claims.specs.declared.FaultAt.{FaultAt}
use Rattle.claims.specs.Route as route
use Rattle.claims.specs.Table as table
use Rattle.claims.specs.Route.{Claim, holds, IsTrue, claim_lines, arrived, tried, route_verdict, number_of, value_of, packed}
use Rattle.claims.specs.Table.{IsLowest, table_lines, owed, right, breaks_at, table_verdict}
use Rattle.floor.proofs.Questions.{start_inside, start_open}
use Rattle.claims.proofs.Verdicts.{same_route, same_table}
use Rattle.claims.proofs.Passing.{claim_question, table_question, table_passed, table_covers}
use Rattle.claims.proofs.Holding.{passed_holds, holds_ends, walked, stands}
use Rattle.claims.proofs.Packing.{value_small, route_refused_lines, zero_holds}
use Rattle.claims.proofs.Keeping.{owed_is_due, unbroken_obeys, obeys_unbroken}
use Rattle.claims.proofs.Judging.{right_unbroken, unbroken_right, breaks_lowest, lowest_breaks, table_refused_lines}

-- A claimed route
module _ (f : Floor) (m : List ℕ) (c : Claim) where
  abbrev g : Graph
  g = graph f m

  module _ (passed : screen (claim_lines f m c) ≡ Passed) where
    -- a claim that is not refused is answered by its steps
    pub by_steps : route_verdict f m c ≡ tried f m c c.start 0 0 c.route
    unfolding route_verdict
    by_steps = rw passed

    pub after_all : T (walks g c.start c.route)
        → route_verdict f m c ≡ arrived c (ends g c.start c.route) (length c.route) (cost_of g c.start c.route)
    after_all t = by_steps ∙ ap (tried f m c c.start 0 0) (sym (append-nil c.route)) ∙ walked f m c c.route [] c.start t

    -- The cell that a step leaves is on the map and open
    pub leaves_open : (ds : List ℕ) → T (walks g c.start ds) → (ends g c.start ds < cells f) × (0 < get_or m (ends g c.start ds) 0)
    leaves_open ds t =
        let q = claim_question f m c passed in
        stands f m c ds c.start (start_inside f m c.start c.goal q) (omega (arith, start_open f m c.start c.goal q)) t

  -- "Holds" is answered exactly for a true claim, with its cost
  pub holds_exactly : (k : ℕ) → (route_verdict f m c ≡ holds k) ↔ (IsTrue f m c × (k ≡ c.cost))
  unfolding route_verdict arrived
  holds_exactly k = (
    λ e.
        let p = passed_holds (screen (claim_lines f m c)) _ k e in
        let x = holds_ends f m c c.route c.start 0 0 k p.1 in
        (record { passed = p.0; route = x.0.route; costs = omega (arith, x.0.costs) }, x.1),
    λ x.
        let w = x.0.route in
        after_all x.0.passed w.allowed
        ∙ rw (eq-eqb (ends g c.start c.route) c.goal w.arrives, eq-eqb (cost_of g c.start c.route) c.cost x.0.costs) (ap holds (x.0.costs ∙ sym x.1)),
  )

  -- A claim is refused exactly as the lines say
  pub route_refused_exactly : (n p : ℕ) → (route_verdict f m c ≡ refused n p) ↔ (screen (claim_lines f m c) ≡ Screen.Refused n p)
  unfolding route_verdict
  route_refused_exactly n p = (route_refused_lines f m c n p, λ e. rw e)

  -- The halves of the collector's number are 01's number and its place or cost
  pub halves : c.cost ≤ MARK
      → (packed (route_verdict f m c) / 4294967296 ≡ number_of (route_verdict f m c)) × (packed (route_verdict f m c) % 4294967296 ≡ value_of (route_verdict f m c))
  halves h =
      let v = route_verdict f m c in
      let l = value_small f m c h in
      (digits_div (number_of v) {m = 4294967296} {r = value_of v} (omega arith), digits_mod (number_of v) {m = 4294967296} {r = value_of v} (omega arith))

  -- and the number is 0 exactly for a true claim
  pub zero_exactly : (number_of (route_verdict f m c) ≡ 0) ↔ IsTrue f m c
  zero_exactly = (
    λ e. let h = zero_holds f m c e in ((holds_exactly h.0).0 h.1).0,
    λ x. ap number_of ((holds_exactly c.cost).1 (x, refl)),
  )

  -- A second verdict that meets the promise is equal
  pub one_route_verdict : (v w : Result (Result ℕ FaultAt) Refusal) → route.numbers_of v ≡ route_verdict f m c → route.numbers_of w ≡ route_verdict f m c → v ≡ w
  one_route_verdict v w p q = same_route v w (p ∙ sym q)

-- A claimed cost table
module _ (f : Floor) (m : List ℕ) (s : ℕ) (t : List ℕ) where
  module _ (passed : screen (table_lines f m s t) ≡ Passed) where
    abbrev opens : get_or m s 0 ≢ 0
    opens = start_open f m s s (table_question f m s t passed)

    rule : Obeys (graph f m) s (take (cells f) t) ↔ Right (graph f m) s (take (cells f) t)
    rule = rule_is_right (lawful f m (table_passed f m s t passed)) s (start_inside f m s s (table_question f m s t passed)) (take (cells f) t)

    -- The rule asks of every cell what it is due, of a blocked one too
    pub owed_due : (v : ℕ) → owed f m s t v ≡ due (graph f m) s t v
    owed_due v = owed_is_due f m s t opens v

  -- "Right" is answered exactly for the right table; entries past the first width × height are not looked at
  pub right_exactly : (table_verdict f m s t ≡ right) ↔ ((screen (table_lines f m s t) ≡ Passed) × Right (graph f m) s (take (cells f) t))
  right_exactly = (
    λ e.
        let p = right_unbroken f m s t e in
        (p.0, (rule p.0).0 (unbroken_obeys f m s t (opens p.0) (table_passed f m s t p.0) (table_covers f m s t p.0) p.1)),
    λ x.
        let p = x.0 in
        unbroken_right f m s t p (obeys_unbroken f m s t (opens p) (table_passed f m s t p) (table_covers f m s t p) ((rule p).1 x.1)),
  )

  -- Otherwise, if it is not refused, the lowest cell that breaks the rule is answered
  pub breaks_exactly : (b : ℕ) → (table_verdict f m s t ≡ breaks_at b) ↔ ((screen (table_lines f m s t) ≡ Passed) × IsLowest f m s t b)
  breaks_exactly b = (
    λ e. let p = breaks_lowest f m s t b e in (p.0, p.1),
    λ x. lowest_breaks f m s t b x.0 x.1,
  )

  -- A table is refused exactly as the lines say
  pub table_refused_exactly : (n p : ℕ) → (table_verdict f m s t ≡ refused n p) ↔ (screen (table_lines f m s t) ≡ Screen.Refused n p)
  unfolding table_verdict
  table_refused_exactly n p = (table_refused_lines f m s t n p, λ e. rw e)

  module _ (right : table_verdict f m s t ≡ right) (goal : ℕ) (inside : goal < cells f) where
    -- A right table settles a claimed "none": MARK at the goal means that there is no route
    pub settles_none : get_or t goal 0 ≡ MARK → (ds : List ℕ) → Route (graph f m) s goal ds → ⊥
    settles_none e = (right_exactly.0 right).1.closed goal inside (get_or-take (cells f) t goal 0 inside ∙ e)

    -- and any other number there is the goal's least cost
    pub settles_cost : get_or t goal 0 ≢ MARK → Least (graph f m) s goal (get_or t goal 0)
    settles_cost n =
        let e = get_or-take (cells f) t goal 0 inside in
        rw e at ((right_exactly.0 right).1.reached goal inside (rw e n))

  -- A second verdict that meets the promise is equal
  pub one_table_verdict : (v w : Result (Option ℕ) Refusal) → table.numbers_of v ≡ table_verdict f m s t → table.numbers_of w ≡ table_verdict f m s t → v ≡ w
  one_table_verdict v w p q = same_table v w (p ∙ sym q)
