-- One cell more of the list is looked at.
use Rattle.std.proofs.Common.{arith}
use Rattle.spread.proofs.Passing.{least_next}
use Rattle.spread.proofs.passes.least_sum.Goals as goal

pub loop-cell-preserved : goal.loop-cell-preserved
loop-cell-preserved c = record {
  least = least_next c.args.aim c.args.costs.now c.args.listed.now _ _ _ _ c.loop-cell.invariant.least c.sum_of.ensures.sum (omega (arith, c.loop-cell-test.true)) c.min-least.ensures;
  small = omega (arith, c.min-least.ensures, c.sum_of.ensures.small);
}
