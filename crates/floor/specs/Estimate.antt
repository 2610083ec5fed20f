-- The octile estimate of what is left to a goal: with small and large the two coordinate distances, 198 × small + 140 × (large − small); with four ways
-- 140 × (small + large): 02, R-4. It is what a route would cost on an empty floor of weight 1.
use Rattle.std.specs.Prelude.{cond, ℕ, ◌+◌, ◌-◌, ◌*◌, min, max, eqb}
use Rattle.floor.specs.declared.Floor.{Floor}
use Rattle.floor.specs.declared.Place.{Place}
use Rattle.floor.specs.Place.{place_of}
use Rattle.floor.specs.Step.{least_step, least_diagonal}

-- how far two numbers are from each other
abbrev pub distance : ℕ → ℕ → ℕ
distance a b = (a - b) + (b - a)

-- by the two coordinate distances: with eight ways
abbrev pub eight_ways : ℕ → ℕ → ℕ
eight_ways x y =
    let small = min x y in
    let large = max x y in
    least_diagonal * small + least_step * (large - small)

-- and with four, where it does not matter which of the two is the smaller
abbrev pub four_ways : ℕ → ℕ → ℕ
four_ways x y = least_step * (x + y)

-- from one place to another
unfoldable pub estimate_to : Floor → Place → Place → ℕ
estimate_to f p q =
    let x = distance p.column q.column in
    let y = distance p.row q.row in
    cond (eqb f.ways 8) (eight_ways x y) (four_ways x y)

-- The estimate of cell v for a goal
abbrev pub estimate : Floor → ℕ → ℕ → ℕ
estimate f goal v = estimate_to f (place_of f v) (place_of f goal)
