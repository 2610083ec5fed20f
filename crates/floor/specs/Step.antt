-- Steps: which are allowed, where they lead and what they cost; the floor as a graph.
use Rattle.std.specs.Prelude.{Bool, true, false, cond, not, ◌&&◌, ◌||◌, List, ℕ, ◌+◌, ◌-◌, ◌*◌, ◌%◌, eqb, ltb, get_or, Option, Some, None, Result, Ok, Err}
use Rattle.paths.specs.Graph.{Graph}
use Rattle.floor.specs.declared.Floor.{Floor}
use Rattle.floor.specs.declared.Place.{Place}
use Rattle.floor.specs.declared.Reason.{Reason}
use Rattle.floor.specs.declared.Reason.TheVariants.{NoSuchDirection, LeftOffMap, LeftBlocked, LeavesMap, EntersBlocked, CutsCorner}
use Rattle.floor.specs.declared.Step.{Step}
use Rattle.floor.specs.Direction.{row_of, is_diagonal, opposite}
use Rattle.floor.specs.Place.{greatest_side, greatest_weight, cells, place_of, cell_at, moved, corner, on_map, is_open}

-- with four ways only even directions exist
unfoldable pub is_direction : Floor → ℕ → Bool
is_direction f d = ltb d 8 && (eqb f.ways 8 || eqb (d % 2) 0)

-- the weight of a step between cells v and w: the sum of the weights of both, since half the step lies on each
unfoldable pub step_weight : List ℕ → ℕ → ℕ → ℕ
step_weight m v w = get_or m v 0 + get_or m w 0

-- the bounds of a step's weight: two cells of weight 1, two of the greatest
abbrev pub least_step_weight : ℕ
least_step_weight = 2

abbrev pub greatest_step_weight : ℕ
greatest_step_weight = 2 * greatest_weight

-- a step in direction d costs its unit times its weight
unfoldable pub step_cost : List ℕ → ℕ → ℕ → ℕ → ℕ
step_cost m d v w = (row_of d).unit * step_weight m v w

-- the bounds of a step's cost: a straight step of the least weight, a diagonal one of the greatest
abbrev pub least_step : ℕ
least_step = 70 * least_step_weight

abbrev pub greatest_step : ℕ
greatest_step = 99 * greatest_step_weight

-- what a diagonal step of the least weight costs
abbrev pub least_diagonal : ℕ
least_diagonal = 99 * least_step_weight

-- the bound of a least cost: the greatest step for each cell but one
abbrev pub greatest_cost : ℕ
greatest_cost = (greatest_side * greatest_side - 1) * greatest_step

-- a diagonal step needs both cells beside it open
unfoldable pub cuts_corner : Floor → List ℕ → ℕ → Place → Place → Bool
cuts_corner f m d here there = is_diagonal d && not (is_open f m (corner there here) && is_open f m (corner here there))

-- the cell at its other end, and what it costs
abbrev pub step : ℕ → ℕ → Step
step v c = record { cell = v; cost = c }

-- the step from cell v, whose place is here, onto the place there
unfoldable pub entering : Floor → List ℕ → ℕ → ℕ → Place → Place → Result Step Reason
entering f m v d here there =
    cond (not (on_map f there)) (Err LeavesMap)
    (cond (not (is_open f m there)) (Err EntersBlocked)
    (cond (cuts_corner f m d here there) (Err CutsCorner)
    (Ok (step (cell_at f there) (step_cost m d v (cell_at f there))))))

-- The step from cell v in direction d: where it leads and what it costs, or the first reason why it is not allowed
unfoldable pub step_of : Floor → List ℕ → ℕ → ℕ → Result Step Reason
step_of f m v d =
    cond (not (is_direction f d)) (Err NoSuchDirection)
    (cond (not (ltb v (cells f))) (Err LeftOffMap)
    (cond (not (is_open f m (place_of f v))) (Err LeftBlocked)
    (entering f m v d (place_of f v) (moved (place_of f v) d))))

-- the same without the reason
abbrev pub onward : Result Step Reason → Option Step
onward (Ok s) = Some s
onward (Err r) = None

abbrev pub is_to : Result Step Reason → Bool
is_to (Ok s) = true
is_to (Err r) = false

unfoldable pub allowed : Floor → List ℕ → ℕ → ℕ → Bool
allowed f m v d = is_to (step_of f m v d)

unfoldable pub target : Floor → ℕ → ℕ → ℕ
target f v d = cell_at f (moved (place_of f v) d)

-- The step in direction d that enters cell v: the cell that it leaves and what it costs, or that there is none
unfoldable pub into_of : Floor → List ℕ → ℕ → ℕ → Option Step
into_of f m v d =
    let u = target f v (opposite d) in
    cond (allowed f m u d && eqb (target f u d) v) (Some (step u (step_cost m d u v))) None

-- the floor as a graph
abbrev pub graph : Floor → List ℕ → Graph
graph f m = record {
  cells = cells f;
  directions = 8;
  allowed = allowed f m;
  to = target f;
  from = λ v d. target f v (opposite d);
  cost = λ v d. step_cost m d v (target f v d);
}
