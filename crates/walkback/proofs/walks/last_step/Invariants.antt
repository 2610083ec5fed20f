-- The invariant: no direction below `direction` gives the cell its cost.
use Rattle.std.proofs.Common.{◌≡◌}
use Rattle.std.specs.Prelude.{get_or}
use Rattle.paths.specs.Below.{lowest}
use Rattle.paths.specs.Table.{offer}
use Rattle.paths.specs.First.{meets}
use Rattle.floor.specs.Step.{graph}
use Rattle.walkback.proofs.walks.last_step.Given as goal

abbrev pub invariant-loop-direction : goal.invariant-loop-direction
invariant-loop-direction l = lowest (λ d. meets (offer (graph l.f l.map) l.costs l.cell d) (get_or l.costs l.cell 0)) l.direction ≡ l.direction
