-- What is asked of the two keys holds of a and b, which lie between them; ever less lies between a and b.
use Rattle.std.proofs.Common.{◌-◌, ◌≤◌}
use Rattle.ranks.specs.Listed.{CanFind}
use Rattle.ranks.proofs.lists.find_key.Given as goal

abbrev pub invariant-loop-b : goal.invariant-loop-b
invariant-loop-b l = (l.low ≤ l.a) × (l.b ≤ l.high) × CanFind l.costs l.listed l.a l.b l.place

abbrev pub decreases-loop-b : goal.decreases-loop-b
decreases-loop-b l = l.b - l.a
