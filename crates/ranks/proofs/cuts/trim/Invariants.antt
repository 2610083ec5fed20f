-- The costs are cut up to `cell`.
use Rattle.std.proofs.Common.{◌≡◌}
use Rattle.settling.proofs.Keeping.{kept_to}
use Rattle.ranks.proofs.Keeps.{left}
use Rattle.ranks.proofs.cuts.trim.Given as goal

abbrev pub invariant-loop-cell : goal.invariant-loop-cell
invariant-loop-cell l = l.costs ≡ kept_to (left l.fn.costs l.key) l.fn.costs l.cell
