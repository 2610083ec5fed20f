-- The cell is taken off, in any search at hand, and its steps are taken.
use Rattle.spread.proofs.Listings.{can_take_off, takes_off, taking_done}
use Rattle.spread.proofs.lists.expand.Goals as goal

pub take_off-cell-requires : goal.take_off-cell-requires
take_off-cell-requires c = can_take_off c.requires.here _ c.requires.before

pub take_steps-requires : goal.take_steps-requires
take_steps-requires c =
    let o = c.take_off-cell.ensures in
    record { s = _; here = takes_off c.requires.here _ c.requires.before o.cell o.left }

pub returns-clause-keeps : goal.returns-clause-keeps
returns-clause-keeps c s x =
    let o = c.take_off-cell.ensures in
    taking_done (c.take_steps.ensures.steps s (takes_off x _ c.requires.before o.cell o.left))
