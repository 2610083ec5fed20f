-- The faults of a claimed route, each by a condition of its own: 01, "Claims".
use Rattle.std.specs.Prelude.{not, ◌&&◌, ◌||◌, List, [], ◌∷◌, ℕ, ◌%◌, ◌<◌, T, eqb, ltb, length, get_or, take}
use Rattle.paths.specs.Route.{walks, ends, cost_of}
use Rattle.floor.specs.declared.Floor.{Floor}
use Rattle.floor.specs.Direction.{is_diagonal}
use Rattle.floor.specs.Place.{place_of, cell_at, moved, corner, on_map, is_open}
use Rattle.floor.specs.Step.{graph}
use Rattle.floor.specs.Refusal.{Line, line}
use Rattle.floor.specs.LowestLine.{IsLowestLine}
use Rattle.claims.specs.Route.{Claim}

-- the faults that a step from cell v in direction d can have, at place i. 41: the direction is above 7, or odd with four ways;
-- 42: the step leaves the map; 43: it enters a cell that is blocked; 44: it cuts a corner, as one of the two cells beside it is not open
abbrev pub step_faults : Floor → List ℕ → ℕ → ℕ → ℕ → List Line
step_faults f m v d i =
    let here = place_of f v in
    let there = moved here d in
    line 41 (ltb 7 d || (eqb f.ways 4 && eqb (d % 2) 1)) i
    ∷ line 42 (not (on_map f there)) i
    ∷ line 43 (on_map f there && eqb (get_or m (cell_at f there) 0) 0) i
    ∷ line 44 (is_diagonal d && (not (is_open f m (corner there here)) || not (is_open f m (corner here there)))) i
    ∷ []

-- after the last step. 45: not at the goal; 46: the cost differs; both with the route's length as place
abbrev pub end_faults : Floor → List ℕ → Claim → List Line
end_faults f m c =
    line 45 (not (eqb (ends (graph f m) c.start c.route) c.goal)) (length c.route)
    ∷ line 46 (not (eqb (cost_of (graph f m) c.start c.route) c.cost)) (length c.route)
    ∷ []

-- the cell that the step at place p leaves
abbrev pub stands_at : Floor → List ℕ → Claim → ℕ → ℕ
stands_at f m c p = ends (graph f m) c.start (take p c.route)

-- Fault n at place p: of the first step that is not allowed the lowest that it has, and after steps that are all allowed the lowest of the end
pub data IsFault (f : Floor) (m : List ℕ) (c : Claim) (n p : ℕ) : Type 0 where
  of_step : p < length c.route → T (walks (graph f m) c.start (take p c.route))
      → IsLowestLine (step_faults f m (stands_at f m c p) (get_or c.route p 0) p) n p → IsFault f m c n p
  of_end : T (walks (graph f m) c.start c.route) → IsLowestLine (end_faults f m c) n p → IsFault f m c n p
