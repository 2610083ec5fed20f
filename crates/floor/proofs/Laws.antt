-- The laws that callers cite: the floor is a lawful graph, a step can be taken back at its own cost, and the bounds 140, 1,782 and 1,868,560,650; from coordinates and the table.
use Rattle.std.specs.Prelude.{Ok}
use mathlib.Core.Path.{◌≡◌, sym, ◌∙◌, ap, subst}
use mathlib.Core.Logic.{◌≢◌, ⊎_elim}
use mathlib.Core.Bool.{◌&&◌, ◌||◌, not}
use mathlib.Core.List.{List}
use Prim.Native.Nat.{ℕ, ◌+◌, ◌-◌, ◌*◌, ◌/◌, ◌%◌, ◌≤◌, ◌<◌}
use native.Mathlib.Nat.{add_comm, le_trans, mul-le-mul, mul-le-mul_left}
use native.Mathlib.Omega.{arith}
use lib.Arith.{digits_div, digits_mod}
use lib.Dec.{T, eqb, leb, ltb, eqb→eq, leb→le, ltb→lt, lt→ltb, T_not}
use lib.ListN.{get_or}
use Rattle.paths.specs.Graph.{Lawful}
use Rattle.paths.specs.Mirror.{Mirrored}
use Rattle.paths.specs.Route.{Least}
use Rattle.paths.proofs.Bools.{T_and, T-or, and_T, eq_T}
use Rattle.paths.proofs.Below.{every_at}
use Rattle.paths.proofs.Meaning.{least_cost_most}
use Rattle.floor.specs.declared.Floor.{Floor}
use Rattle.floor.specs.declared.Place.{Place}
use Rattle.floor.specs.Direction.{row_of, east_of, south_of, opposite}
use Rattle.floor.specs.Place.{cells, at, place_of, cell_at, moved, corner, is_open}
use Rattle.floor.specs.Step.{step, is_direction, target, step_weight, least_step_weight, greatest_step_weight, step_cost, least_step, greatest_step, greatest_cost, step_of, allowed, graph}
use Rattle.floor.specs.Allowed.{Allowed}
use Rattle.floor.specs.Refusal.{HasPassed}
use Rattle.floor.proofs.Passing.{MapFacts, facts, few_cells}
use Rattle.floor.proofs.Rows.{direction_lt, bounds}
use Rattle.floor.proofs.Places.{OnMap, on_map_lem, cell_of_place, cell_lt}
use Rattle.floor.proofs.Allowed.{allowed_is, allowed_words, step_is, leads, open_on_map, open_weight, open_inside}

-- what the table says of direction d and of the opposite one
record Turns (d : ℕ) : Type 0 where
  east : east_of d + east_of (opposite d) ≡ 2
  south : south_of d + south_of (opposite d) ≡ 2
  below : opposite d < 8
  kind : opposite d % 2 ≡ d % 2
  moves : T (not (eqb (east_of d) 1 && eqb (south_of d) 1))
  unit : (row_of (opposite d)).unit ≡ (row_of d).unit
  least : least_step ≤ (row_of d).unit * least_step_weight

turns : (d : ℕ) → d < 8 → Turns d
turns d h = record {
  east = eqb→eq (east_of d + east_of (opposite d)) 2 (every_at (λ e. eqb (east_of e + east_of (opposite e)) 2) 8 tt d h);
  south = eqb→eq (south_of d + south_of (opposite d)) 2 (every_at (λ e. eqb (south_of e + south_of (opposite e)) 2) 8 tt d h);
  below = ltb→lt (opposite d) 8 (every_at (λ e. ltb (opposite e) 8) 8 tt d h);
  kind = eqb→eq (opposite d % 2) (d % 2) (every_at (λ e. eqb (opposite e % 2) (e % 2)) 8 tt d h);
  moves = every_at (λ e. not (eqb (east_of e) 1 && eqb (south_of e) 1)) 8 tt d h;
  unit = eqb→eq (row_of (opposite d)).unit (row_of d).unit (every_at (λ e. eqb (row_of (opposite e)).unit (row_of e).unit) 8 tt d h);
  least = leb→le least_step ((row_of d).unit * least_step_weight) (every_at (λ e. leb least_step ((row_of e).unit * least_step_weight)) 8 tt d h);
}

same_place : {x y x' y' : ℕ} → x ≡ x' → y ≡ y' → at x y ≡ at x' y'
same_place e h = rw (e, h)

-- a place of the map is the place of its cell
place_of_cell : (f : Floor) (p : Place) → OnMap f p → place_of f (cell_at f p) ≡ p
place_of_cell f p o =
    let x = digits_mod (p.row - 1) {m = f.width} {r = p.column - 1} (omega (arith, o.west, o.east)) in
    let y = digits_div (p.row - 1) {m = f.width} {r = p.column - 1} (omega (arith, o.west, o.east)) in
    same_place (omega (arith, x, o.west)) (omega (arith, y, o.north))

-- half the step lies on each of its cells: turned round it has the same weight, and so the same cost
turned_cost : (m : List ℕ) (d v w : ℕ) → d < 8 → step_cost m (opposite d) w v ≡ step_cost m d v w
unfolding step_cost step_weight
turned_cost m d v w h = rw ((turns d h).unit, add_comm (get_or m w 0) (get_or m v 0))

moved_back : (p : Place) (d : ℕ) → d < 8 → 0 < p.column → 0 < p.row → moved (moved p d) (opposite d) ≡ p
moved_back p d h x y = let t = turns d h in same_place (omega (arith, t.east)) (omega (arith, t.south))

-- where the step leads, as a place
module _ (f : Floor) (m : List ℕ) (v d : ℕ) (a : Allowed f m v d) where
  abbrev below : d < 8
  below = direction_lt f d a.direction

  there : OnMap f (moved (place_of f v) d)
  there = on_map_lem f (moved (place_of f v) d) (open_on_map f m (moved (place_of f v) d) a.there)

  pub place_of_target : place_of f (target f v d) ≡ moved (place_of f v) d
  unfolding target
  place_of_target = place_of_cell f (moved (place_of f v) d) there

  place_back : moved (place_of f (target f v d)) (opposite d) ≡ place_of f v
  place_back =
      ap (λ (p : Place). moved p (opposite d)) place_of_target
      ∙ moved_back (place_of f v) d below (omega arith) (omega arith)

  target_back : target f (target f v d) (opposite d) ≡ v
  unfolding target
  target_back = ap (cell_at f) place_back ∙ cell_of_place f v

  target_inside : target f v d < cells f
  unfolding target
  target_inside = cell_lt f (moved (place_of f v) d) (open_on_map f m (moved (place_of f v) d) a.there)

  left_weight : 0 < get_or m v 0
  left_weight = rw (cell_of_place f v) at (open_weight f m (place_of f v) a.here)

  target_weight : 0 < get_or m (target f v d) 0
  unfolding target
  target_weight = open_weight f m (moved (place_of f v) d) a.there

  -- another cell: the column or the row differs
  target_other : target f v d ≢ v
  target_other e =
      let p = sym place_of_target ∙ ap (place_of f) e in
      let x : v % f.width + 1 + east_of d - 1 ≡ v % f.width + 1 = ap (λ (q : Place). q.column) p in
      let y : v / f.width + 1 + south_of d - 1 ≡ v / f.width + 1 = ap (λ (q : Place). q.row) p in
      T_not (eqb (east_of d) 1 && eqb (south_of d) 1) (turns d below).moves (and_T (eqb (east_of d) 1) (eqb (south_of d) 1) (eq_T (east_of d) 1 (omega arith)) (eq_T (south_of d) 1 (omega arith)))

  back_direction : T (is_direction f (opposite d))
  unfolding is_direction
  back_direction =
      let w = T_and (ltb d 8) (eqb f.ways 8 || eqb (d % 2) 0) a.direction in
      and_T (ltb (opposite d) 8) _ (lt→ltb (opposite d) 8 (turns d below).below) (rw (turns d below).kind w.1)

  back_allowed : Allowed f m (target f v d) (opposite d)
  back_allowed =
      record {
        direction = back_direction;
        here = subst (λ (p : Place). T (is_open f m p)) (sym place_of_target) a.there;
        there = subst (λ (p : Place). T (is_open f m p)) (sym place_back) a.here;
        beside = λ q.
            let s = a.beside (rw (turns d below).kind at q) in (
              subst (λ (p : Place). T (is_open f m p)) (sym (corner_is place_back place_of_target)) s.1,
              subst (λ (p : Place). T (is_open f m p)) (sym (corner_is place_of_target place_back)) s.0,
            );
      }
    where
      corner_is : {p q p' q' : Place} → p ≡ p' → q ≡ q' → corner p q ≡ corner p' q'
      corner_is e h = cc

  weight_least : least_step_weight ≤ step_weight m v (target f v d)
  unfolding step_weight
  weight_least = omega (arith, left_weight, target_weight)

  weight_most : MapFacts f m → step_weight m v (target f v d) ≤ greatest_step_weight
  unfolding step_weight
  weight_most k = omega (arith, k.weights v, k.weights (target f v d))

  -- at least what it would cost between two cells of weight 1
  pub cost_unit : (row_of d).unit * least_step_weight ≤ step_cost m d v (target f v d)
  unfolding step_cost
  cost_unit = mul-le-mul_left (row_of d).unit weight_least

  cost_least : least_step ≤ step_cost m d v (target f v d)
  cost_least = le_trans (turns d below).least cost_unit

  cost_most : MapFacts f m → step_cost m d v (target f v d) ≤ greatest_step
  unfolding step_cost
  cost_most k = mul-le-mul (bounds d below).unit (weight_most k)

module _ (f : Floor) (m : List ℕ) where
  module _ (v d : ℕ) (t : T (allowed f m v d)) where
    -- the cell reached is on the map, open, and another cell
    pub reaches_map : target f v d < cells f
    reaches_map = target_inside f m v d (allowed_is f m v d t)

    pub reaches_open : 0 < get_or m (target f v d) 0
    reaches_open = target_weight f m v d (allowed_is f m v d t)

    pub reaches_other : target f v d ≢ v
    reaches_other = target_other f m v d (allowed_is f m v d t)

    -- the step back is allowed, leads back, and costs the same
    pub step_back_allowed : T (allowed f m (target f v d) (opposite d))
    step_back_allowed = (allowed_words f m (target f v d) (opposite d)).1 (back_allowed f m v d (allowed_is f m v d t))

    pub step_back : target f (target f v d) (opposite d) ≡ v
    step_back = target_back f m v d (allowed_is f m v d t)

    pub step_back_cost : step_cost m (opposite d) (target f v d) (target f (target f v d) (opposite d)) ≡ step_cost m d v (target f v d)
    step_back_cost = rw step_back (turned_cost m d v (target f v d) (below f m v d (allowed_is f m v d t)))

    -- with four ways only even directions
    pub four_ways_even : f.ways ≡ 4 → d % 2 ≡ 0
    unfolding is_direction
    four_ways_even e =
        ⊎_elim (λ w. absurd (omega (arith, eqb→eq f.ways 8 w))) (λ w. eqb→eq (d % 2) 0 w)
        (T-or (eqb f.ways 8) (eqb (d % 2) 0) (T_and (ltb d 8) _ (allowed_is f m v d t).direction).1)

  -- every step of the floor can be taken back at its own cost
  pub mirrored : Mirrored (graph f m) opposite
  mirrored = record { back = step_back_allowed; home = step_back; same = step_back_cost }

  -- and as the step test says it
  pub there_and_back : (v d : ℕ) {w c : ℕ} → step_of f m v d ≡ Ok (step w c) → step_of f m w (opposite d) ≡ Ok (step v c)
  there_and_back v d {w} {c} e =
      let l = leads f m v d e in
      let s = step_is f m (target f v d) (opposite d) (back_allowed f m v d (allowed_is f m v d l.steps)) in
      rw (l.to, l.costs) (rw (step_back_cost v d l.steps, step_back v d l.steps) at s)

  -- what a step costs, in 02's words
  pub step_costs : (v d : ℕ) {w c : ℕ} → step_of f m v d ≡ Ok (step w c) → c ≡ (row_of d).unit * (get_or m v 0 + get_or m w 0)
  unfolding step_cost step_weight
  step_costs v d e = let l = leads f m v d e in l.costs ∙ rw l.to

  module _ (passed : HasPassed f m) where
    abbrev good : MapFacts f m
    good = (facts f m passed).map

    pub lawful : Lawful (graph f m) least_step greatest_step
    lawful = record {
      leaves = λ u d t. open_inside f m u (allowed_is f m u d t).here;
      enters = λ u d t. reaches_map u d t;
      numbered = λ u d t. below f m u d (allowed_is f m u d t);
      back = λ u d t. step_back u d t;
      at_least = λ u d t. cost_least f m u d (allowed_is f m u d t);
      at_most = λ u d t. cost_most f m u d (allowed_is f m u d t) good;
      positive = omega arith;
      ordered = omega arith;
      costs_fit = omega (arith, few_cells good);
      cells_fit = omega (arith, few_cells good);
    }

    -- no step costs less than the least or more than the greatest
    pub step_between : (v d : ℕ) {w c : ℕ} → step_of f m v d ≡ Ok (step w c) → (least_step ≤ c) × (c ≤ greatest_step)
    step_between v d e = let l = leads f m v d e in rw l.costs (lawful.at_least v d l.steps, lawful.at_most v d l.steps)

    -- no least cost is above the greatest cost
    pub least_cost_bound : (s v c : ℕ) → s < cells f → Least (graph f m) s v c → c ≤ greatest_cost
    least_cost_bound s v c h l = omega (arith, least_cost_most lawful s h v c l, few_cells good)
