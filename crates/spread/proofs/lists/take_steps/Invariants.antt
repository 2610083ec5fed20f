-- The steps in the directions before this one are taken, for any search at hand.
use Rattle.std.proofs.Common.{◌+◌, ◌≤◌}
use Rattle.spread.specs.Listing.{total, Steps}
use Rattle.spread.proofs.lists.take_steps.Given as goal

abbrev pub invariant-loop-direction : goal.invariant-loop-direction
invariant-loop-direction l = record {
  steps : Steps l.f l.map l.fn.costs l.fn.work l.len l.cell 0 l.direction l.costs l.work l.last;
  falls : total l.costs + l.last ≤ total l.fn.costs + l.len;
}
