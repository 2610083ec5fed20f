-- The search between two cells. The measure is the sum of the costs and the length of the list, which each pass lessens.
use Rattle.std.proofs.Common.{◌+◌}
use Rattle.spread.specs.Listing.{total, Listing}
use Rattle.spread.proofs.passes.settle.Given as goal

abbrev pub invariant-loop-len : goal.invariant-loop-len
invariant-loop-len l = Listing l.aim.floor l.map l.start l.costs l.work l.len

abbrev pub decreases-loop-len : goal.decreases-loop-len
decreases-loop-len l = total l.costs + l.len
