-- What the walk back from a goal needs and answers.
use Rattle.std.specs.Prelude.{◌≡◌, Option, Some, None, List, ℕ, ◌+◌, ◌<◌, T, length, get_or}
use Rattle.paths.specs.Table.{Right, offer}
use Rattle.paths.specs.First.{meets, last_step}
use Rattle.settling.specs.Estimate.{Consistent, AgreeBy, Near}
use Rattle.floor.specs.declared.Floor.{Floor}
use Rattle.floor.specs.declared.Step.{Step}
use Rattle.floor.specs.declared.RouteLength.{RouteLength}
use Rattle.floor.specs.Place.{cells}
use Rattle.floor.specs.Step.{graph}
use Rattle.floor.specs.Length.{Surd}
use Rattle.floor.specs.Refusal.{HasPassed}
use Rattle.walkback.specs.declared.Back.{Back}

-- the costs of a floor's cells, and one of the cells
pub record HasCosts (f : Floor) (m costs : List ℕ) (v : ℕ) : Type 0 where
  pub passed : HasPassed f m
  pub covers : length costs ≡ cells f
  pub inside : v < cells f

-- the step in direction d into v gives v its cost
unfoldable pub Giving : Floor → List ℕ → List ℕ → ℕ → ℕ → Type 0
Giving f m costs v d = T (meets (offer (graph f m) costs v d) (get_or costs v 0))

abbrev pub Gives : Floor → List ℕ → List ℕ → ℕ → ℕ → Option Step → Type 0
Gives f m costs v d (Some s) = Giving f m costs v d × (s.cell ≡ (graph f m).from v d)
Gives f m costs v d None = Giving f m costs v d → ⊥

-- the last step of the first route to v, and the cell that it leaves; there is none if no direction below 8 gives v its cost
pub record IsLastStep (f : Floor) (m costs : List ℕ) (v : ℕ) (r : Back) : Type 0 where
  pub direction : r.direction ≡ last_step (graph f m) costs v
  pub below : r.direction < 8
  pub from : r.from ≡ (graph f m).from v r.direction

abbrev pub IsLast : Floor → List ℕ → List ℕ → ℕ → Option Back → Type 0
IsLast f m costs v (Some r) = IsLastStep f m costs v r
IsLast f m costs v None = last_step (graph f m) costs v ≡ 8

-- how long a route is with a step before it, of that true length
abbrev pub longer_by : Surd → RouteLength → RouteLength
longer_by step l = record { steps = l.steps + 1; p = l.p + step.whole; q = l.q + step.root }

-- The costs are those of a right table where cost and estimate together are at most `top`, and the goal is such a cell
pub record CanWalk (f : Floor) (m : List ℕ) (s goal : ℕ) (costs : List ℕ) : Type 0 where
  pub passed : HasPassed f m
  pub starts : s < cells f
  pub inside : goal < cells f
  pub covers : length costs ≡ cells f
  pub t : List ℕ
  pub right : Right (graph f m) s t
  pub h : ℕ → ℕ
  pub consistent : Consistent (graph f m) h
  pub top : ℕ
  pub agrees : AgreeBy (graph f m) h top t costs
  pub near : Near h top costs goal
