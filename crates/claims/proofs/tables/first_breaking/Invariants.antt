-- No cell so far breaks the rule.
use Rattle.std.proofs.Common.{◌≡◌}
use Rattle.paths.specs.Below.{lowest}
use Rattle.claims.specs.Table.{breaks}
use Rattle.claims.proofs.tables.first_breaking.Given as goal

abbrev pub invariant-loop-cell : goal.invariant-loop-cell
invariant-loop-cell l = lowest (breaks l.f l.map l.start l.costs) l.cell ≡ l.cell
