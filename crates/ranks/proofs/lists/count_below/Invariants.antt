-- n is the count of the listed cells so far.
use Rattle.std.proofs.Common.{◌≡◌, ◌≤◌, take}
use Rattle.ranks.specs.Listed.{below_in}
use Rattle.ranks.proofs.lists.count_below.Given as goal

abbrev pub invariant-loop-cell : goal.invariant-loop-cell
invariant-loop-cell l = (l.n ≤ l.cell-index) × (l.n ≡ below_in l.costs (take l.cell-index l.listed) l.bound)
