-- The invariant: the walk back from the goal to `cell` has written its steps, and `length` is how long the route from there is. What is summed never exceeds
-- the goal's cost less the cell's. The measure is the cell's cost.
use Rattle.std.specs.Prelude.{get_or}
use Rattle.walkback.proofs.WalksBack.{Writing}
use Rattle.walkback.proofs.walks.write_back.Given as goal

abbrev pub invariant-loop-cell : goal.invariant-loop-cell
invariant-loop-cell l = Writing l.f l.map l.start l.goal l.costs l.initial.route l.route l.cell l.length

abbrev pub decreases-loop-cell : goal.decreases-loop-cell
decreases-loop-cell l = get_or l.costs l.cell 0
