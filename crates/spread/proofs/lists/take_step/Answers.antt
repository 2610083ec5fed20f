-- A step that is barred takes nothing; one that leads to a cell is what `offer` did to it. What is needed on the way holds of any search at hand.
use Rattle.std.proofs.Common.{arith, sym, ◌∙◌}
use Rattle.spread.proofs.Totals.{offered_falls}
use Rattle.spread.proofs.Listings.{taking_inside, taking_barred, can_offer, taking_offered}
use Rattle.spread.proofs.lists.take_step.Goals as goal

pub returns-in_default-clause-steps : goal.returns-in_default-clause-steps
returns-in_default-clause-steps c = λ s x. taking_barred x (sym c.step_onward.ensures ∙ c.in_default.is)

pub offset_bounds-costs-cell : goal.offset_bounds-costs-cell
offset_bounds-costs-cell c = omega (arith, taking_inside c.requires.0.here)

pub bounds-costs-cell : goal.bounds-costs-cell
bounds-costs-cell c = taking_inside c.requires.0.here

pub offer-requires : goal.offer-requires
offer-requires c = can_offer c.requires.0.here _ _ (sym c.in-Some.ensures)

pub returns-clause-steps : goal.returns-clause-steps
returns-clause-steps c = λ s x. taking_offered x _ _ (sym c.in-Some.ensures) c.offer.ensures

pub returns-clause-falls : goal.returns-clause-falls
returns-clause-falls c = offered_falls (can_offer c.requires.0.here _ _ (sym c.in-Some.ensures)).inside c.offer.ensures
