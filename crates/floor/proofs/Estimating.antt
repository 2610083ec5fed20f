-- The estimate falls by at most what a step costs: a step changes each distance by at most its own, so both formulas fall by at most what they give of the step's own distances, and the table says that the step costs that. Only the goal has 0.
use mathlib.Core.Path.{◌≡◌, refl, sym, ◌∙◌}
use mathlib.Core.Logic.{◌≢◌, ◌⊎◌, ⊎_elim}
use mathlib.Core.Bool.{cond, ◌||◌}
use mathlib.Core.List.{List}
use Prim.Native.Nat.{ℕ, ◌+◌, ◌-◌, ◌*◌, ◌/◌, ◌%◌, ◌≤◌, ◌<◌, min, max}
use native.Mathlib.Nat.{sub_self}
use native.Mathlib.Omega.{arith}
use lib.Dec.{T, eqb, leb, eqb→eq, leb→le}
use Rattle.paths.proofs.Bools.{T-or, by_cond}
use Rattle.paths.proofs.Below.{every_at}
use Rattle.floor.specs.declared.Floor.{Floor}
use Rattle.floor.specs.declared.Place.{Place}
use Rattle.floor.specs.Direction.{row_of, east_of, south_of, is_diagonal}
use Rattle.floor.specs.Place.{place_of, moved}
use Rattle.floor.specs.Step.{least_step_weight, target, step_cost, allowed}
use Rattle.floor.specs.Refusal.{HasPassed}
use Rattle.floor.specs.Estimate.{distance, four_ways, eight_ways, estimate_to, estimate}
use Rattle.floor.proofs.Passing.{facts}
use Rattle.floor.proofs.Places.{cell_of_place}
use Rattle.floor.proofs.Rows.{direction_lt}
use Rattle.floor.proofs.Allowed.{allowed_is}
use Rattle.floor.proofs.Laws.{place_of_target, cost_unit, four_ways_even}

-- x' is below x by at most a
record Falls (x x' a : ℕ) : Type 0 where
  most : x ≤ a + x'

-- a column or a row that moves by e - 1 comes nearer by at most that
nearer : (n n' goal e : ℕ) → n' + 1 ≡ n + e → Falls (distance n goal) (distance n' goal) (distance e 1)
nearer n n' goal e h = record { most = omega arith }

-- the smaller and the larger number by sums, which spares `omega` the cases of `min`, `max` and `-`
sorted : (x y : ℕ) → (min x y + (max x y - min x y) ≡ max x y) × (min x y + max x y ≡ x + y)
sorted x y = omega arith

module _ {x y x' y' a b : ℕ} (h : Falls x x' a) (k : Falls y y' b) where
  four_falls : Falls (four_ways x y) (four_ways x' y') (four_ways a b)
  four_falls = record { most = omega arith }

  larger_falls : max x y ≤ max a b + max x' y'
  larger_falls = omega arith

  eight_falls : Falls (eight_ways x y) (eight_ways x' y') (eight_ways a b)
  eight_falls = record { most = omega (arith, sorted x y, sorted a b, sorted x' y', larger_falls) }

-- a step's own two distances, and what it costs between two cells of weight 1
abbrev across : ℕ → ℕ
across d = distance (east_of d) 1

abbrev down : ℕ → ℕ
down d = distance (south_of d) 1

abbrev cheapest : ℕ → ℕ
cheapest d = (row_of d).unit * least_step_weight

-- the table says: that is no less than the formulas give of its own distances; with four ways only even directions exist
eight_step : (d : ℕ) → d < 8 → eight_ways (across d) (down d) ≤ cheapest d
eight_step d h =
    leb→le (eight_ways (across d) (down d)) (cheapest d)
    (every_at (λ e. leb (eight_ways (across e) (down e)) (cheapest e)) 8 tt d h)

four_step : (d : ℕ) → d < 8 → d % 2 ≡ 0 → four_ways (across d) (down d) ≤ cheapest d
four_step d h even =
    ⊎_elim (λ odd. absurd (omega (arith, eqb→eq (d % 2) 1 odd))) (λ l. leb→le (four_ways (across d) (down d)) (cheapest d) l)
    (T-or (is_diagonal d) (leb (four_ways (across d) (down d)) (cheapest d))
    (every_at (λ e. is_diagonal e || leb (four_ways (across e) (down e)) (cheapest e)) 8 tt d h))

-- from place to place
moved_falls : (f : Floor) (p q : Place) (d : ℕ) → 0 < p.column → 0 < p.row → d < 8 → (f.ways ≡ 4) ⊎ (f.ways ≡ 8) → (f.ways ≡ 4 → d % 2 ≡ 0)
    → Falls (estimate_to f p q) (estimate_to f (moved p d) q) (cheapest d)
unfolding estimate_to
moved_falls f p q d x y h ways even =
    let column = nearer p.column (moved p d).column q.column (east_of d) (omega arith) in
    let row = nearer p.row (moved p d).row q.row (south_of d) (omega arith) in
    ⊎_elim
    (λ e. record { most = rw e (omega (arith, (four_falls column row).most, four_step d h (even e))) })
    (λ e. record { most = rw e (omega (arith, (eight_falls column row).most, eight_step d h)) })
    ways

pub estimate_consistent : (f : Floor) (m : List ℕ) (goal : ℕ) → HasPassed f m → (u d : ℕ) → T (allowed f m u d)
    → estimate f goal u ≤ step_cost m d u (target f u d) + estimate f goal (target f u d)
estimate_consistent f m goal passed u d t =
    let a = allowed_is f m u d t in
    let below = direction_lt f d a.direction in
    let falls = moved_falls f (place_of f u) (place_of f goal) d (omega arith) (omega arith) below (facts f m passed).ways (four_ways_even f m u d t) in
    rw (place_of_target f m u d a) (omega (arith, falls.most, cost_unit f m u d a))

pub estimate_home : (f : Floor) (goal : ℕ) → estimate f goal goal ≡ 0
unfolding estimate_to
estimate_home f goal =
    rw (sub_self (goal % f.width + 1), sub_self (goal / f.width + 1)) (by_cond (λ n. n ≡ 0) (eqb f.ways 8) _ _ (λ e. refl) (λ e. refl))

-- both formulas are 0 only where both distances are
no_distance : (f : Floor) (p q : Place) → estimate_to f p q ≡ 0 → (distance p.column q.column ≡ 0) × (distance p.row q.row ≡ 0)
unfolding estimate_to
no_distance f p q = both (distance p.column q.column) (distance p.row q.row)
  where
    both : (x y : ℕ) → cond (eqb f.ways 8) (eight_ways x y) (four_ways x y) ≡ 0 → (x ≡ 0) × (y ≡ 0)
    both x y = by_cond (λ n. n ≡ 0 → (x ≡ 0) × (y ≡ 0)) (eqb f.ways 8) _ _ (λ e z. omega (arith, sorted x y)) (λ e z. omega arith)

-- only the goal has the goal's place
pub estimate_away : (f : Floor) (goal v : ℕ) → v ≢ goal → 0 < estimate f goal v
estimate_away f goal v other = omega (arith, away)
  where
    away : estimate f goal v ≢ 0
    away z =
        let d = no_distance f (place_of f v) (place_of f goal) z in
        let column : (place_of f v).column ≡ (place_of f goal).column = omega (arith, d.0) in
        let row : (place_of f v).row ≡ (place_of f goal).row = omega (arith, d.1) in
        other (sym (cell_of_place f v) ∙ rw (column, row) (cell_of_place f goal))
