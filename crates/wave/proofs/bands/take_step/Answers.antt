-- A step that is barred takes nothing; one that leads to a cell is what `see` did to it. What is needed on the way holds of any wave at hand.
use Rattle.std.proofs.Common.{sym, arith}
use Rattle.wave.proofs.Offers.{cell_inside, barred, sees, seen}
use Rattle.wave.proofs.bands.take_step.Goals as goal

pub returns-in_default : goal.returns-in_default
returns-in_default c = λ s bound at stop other x. barred x (sym c.in_default.ensures)

pub bounds-costs-cell : goal.bounds-costs-cell
bounds-costs-cell c = omega (arith, cell_inside c.requires.0.here, c.requires.0.here.band.wave.covers)

pub overflow_add-cost : goal.overflow_add-cost
overflow_add-cost c = omega (arith, (sees c.requires.0.here _ _ (sym c.in-Some.ensures)).fits)

pub see-requires : goal.see-requires
see-requires c = sees c.requires.0.here _ _ (sym c.in-Some.ensures)

pub returns : goal.returns
returns c = λ s bound at stop other x. seen x _ _ (sym c.in-Some.ensures) c.see.ensures
