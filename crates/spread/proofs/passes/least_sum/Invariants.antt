-- The least sum of the first cell of the list and of those that the loop has come to.
use Rattle.std.proofs.Common.{◌+◌, ◌≤◌, get_or}
use Rattle.paths.specs.Below.{LeastOf}
use Rattle.spread.specs.Listing.{sum_at, greatest_sum}
use Rattle.spread.proofs.passes.least_sum.Given as goal

abbrev pub invariant-loop-cell : goal.invariant-loop-cell
invariant-loop-cell l = record {
  least : LeastOf (λ k. sum_at l.aim l.costs (get_or l.listed k 0)) (l.cell-index + 1) l.least;
  small : l.least ≤ greatest_sum;
}
