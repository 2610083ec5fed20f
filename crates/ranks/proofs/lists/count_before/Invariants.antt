-- n is the count of the listed cells so far.
use Rattle.std.proofs.Common.{◌≡◌, ◌≤◌, take}
use Rattle.ranks.specs.Listed.{key_below}
use Rattle.ranks.proofs.lists.count_before.Given as goal

abbrev pub invariant-loop-cell : goal.invariant-loop-cell
invariant-loop-cell l = (l.n ≤ l.cell-index) × (l.n ≡ key_below l.costs (take l.cell-index l.listed) l.key)
