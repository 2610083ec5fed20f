-- The cell that is looked at is one of the list, in the search at hand.
use Rattle.spread.proofs.Passing.{costs_fit, looked_at}
use Rattle.spread.proofs.passes.pass.Goals as goal

pub sum_of-requires : goal.sum_of-requires
sum_of-requires c =
    let p = c.requires in
    let x = c.loop-at.invariant.keeps p.s p.here in
    (p.aims, looked_at c.args.aim x _ c.loop-at-test.true, costs_fit c.args.aim x)
