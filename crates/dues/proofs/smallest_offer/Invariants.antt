-- The invariant: `least` is the smallest offer of the directions passed.
use Rattle.std.proofs.Common.{◌≡◌}
use Rattle.paths.specs.Table.{smallest}
use Rattle.floor.specs.Step.{graph}
use Rattle.dues.proofs.smallest_offer.Given as goal

abbrev pub invariant-loop-direction : goal.invariant-loop-direction
invariant-loop-direction l = l.least ≡ smallest (graph l.f l.map) l.costs l.cell l.direction
