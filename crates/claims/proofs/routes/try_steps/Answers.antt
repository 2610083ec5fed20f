-- The step that the loop takes is the next of the route; after the last one the two tests decide, in their order.
use mathlib.Core.Path.{sym, ◌∙◌}
use native.Mathlib.Omega.{arith}
use Rattle.std.proofs.lemmas.Grind.{common_steps}
use Rattle.claims.specs.Route.{claim, arrived}
use Rattle.claims.proofs.Passing.{claim_passed}
use Rattle.claims.proofs.Following.{one_more, all_behind, no_wrap}
use Rattle.claims.proofs.routes.try_steps.Goals as goal

pub loop-place-preserved : goal.loop-place-preserved
loop-place-preserved c =
    let a = c.args in
    let passed = claim_passed a.f a.map.now (claim a.start a.goal a.cost a.route.now) c.requires in
    one_more c.loop-place.invariant {w = c.in-Ok.step.cell} {s = c.in-Ok.step.cost} passed c.loop-place-test.true (sym c.step_test.ensures ∙ c.in-Ok.is)

pub overflow_add-spent : goal.overflow_add-spent
overflow_add-spent c = let b = loop-place-preserved c in omega (arith, no_wrap b c.requires)

pub returns-then-cell-goal : goal.returns-then-cell-goal
unfolding arrived
returns-then-cell-goal c = rw (all_behind c.loop-place.invariant (omega arith)) (grind (arith, common_steps))

pub returns-then-spent-cost : goal.returns-then-spent-cost
unfolding arrived
returns-then-spent-cost c = rw (all_behind c.loop-place.invariant (omega arith)) (grind (arith, common_steps))

pub returns : goal.returns
unfolding arrived
returns c = rw (all_behind c.loop-place.invariant (omega arith)) (grind (arith, common_steps))
