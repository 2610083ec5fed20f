-- The list is kept for any search at hand, and the pass has made progress. The measure is what is left of the costs, the list and the pass.
use Rattle.std.proofs.Common.{ℕ, ◌+◌, ◌-◌}
use Rattle.spread.specs.Listing.{total, Listing}
use Rattle.spread.proofs.Passing.{Progress}
use Rattle.spread.proofs.passes.pass.Given as goal

abbrev pub invariant-loop-at : goal.invariant-loop-at
invariant-loop-at l = record {
  keeps : (s : ℕ) → Listing l.aim.floor l.map s l.fn.costs l.fn.work l.len → Listing l.aim.floor l.map s l.costs l.work l.end;
  progress : Progress l.aim l.fn.costs l.fn.work l.len l.top l.costs l.work l.end l.at;
}

abbrev pub decreases-loop-at : goal.decreases-loop-at
decreases-loop-at l = total l.costs + l.end - l.at
