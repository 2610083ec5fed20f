-- The cells before `cell` have what they keep, and the settled ones of them are counted.
use Rattle.std.proofs.Common.{◌≡◌}
use Rattle.paths.specs.Below.{count}
use Rattle.settling.specs.Aimed.{is_settled}
use Rattle.settling.proofs.Keeping.{kept_to}
use Rattle.floor.specs.Estimate.{estimate}
use Rattle.astar.proofs.Keeps.{keeps}
use Rattle.astar.proofs.ends.keep_settled.Given as goal

abbrev pub invariant-loop-cell : goal.invariant-loop-cell
invariant-loop-cell l = record {
  counted : l.settled ≡ count (is_settled (estimate l.aim.floor l.aim.goal) l.fn.costs l.aim.goal) l.cell;
  kept : l.costs ≡ kept_to (keeps (estimate l.aim.floor l.aim.goal) l.fn.costs l.aim.goal) l.fn.costs l.cell;
}
