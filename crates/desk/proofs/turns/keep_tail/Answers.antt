-- Each turn moves the next byte; after the last all are moved that there are.
use Rattle.std.proofs.Common.{◌≡◌, ◌-◌, subst, arith}
use Rattle.desk.proofs.Tails.{Moving, moving_next, tail_kept}
use Rattle.desk.proofs.turns.keep_tail.Goals as goal

pub loop-i-preserved : goal.loop-i-preserved
loop-i-preserved c = moving_next c.loop-i.invariant (omega (arith, c.min-first.ensures, c.min-arrived.ensures))

pub returns : goal.returns
returns c =
    let all : c.loop-i.i ≡ c.min-arrived.result - c.min-first.result = omega arith in
    let moved = subst (λ k. Moving c.min-first.result c.args.buffer.now k c.loop-i.buffer) all c.loop-i.invariant in
    tail_kept c.args.buffer.now c.args.from c.args.end c.min-arrived.ensures c.min-first.ensures moved
