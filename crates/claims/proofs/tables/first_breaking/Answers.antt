-- The cell is on the map, and what it is owed is what the call says.
use mathlib.Core.Path.{sym, ◌∙◌}
use native.Mathlib.Omega.{arith}
use Rattle.floor.proofs.Passing.{facts}
use Rattle.claims.proofs.Judging.{first_judged}
use Rattle.claims.proofs.tables.first_breaking.Goals as goal

pub returns-then-costs-cell : goal.returns-then-costs-cell
returns-then-costs-cell c =
    let covers = (facts c.args.f c.args.map.now c.requires.0).map.covers in
    first_judged _ _ _ _ c.loop-cell.cell c.loop-cell.invariant (omega arith) (λ e. c.if-costs-cell.true (e ∙ sym c.owed_at.ensures))
