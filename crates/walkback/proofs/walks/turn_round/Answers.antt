-- When at most one step stands between those that have changed places, all are turned round.
use native.Mathlib.Omega.{arith}
use Rattle.walkback.proofs.Turning.{turned, all_turned}
use Rattle.walkback.proofs.walks.turn_round.Goals as goal

pub returns : goal.returns
returns c =
    let l = c.loop-low in
    let i = l.invariant in
    turned c.args.route.now l.route c.args.steps i.same_length c.requires (all_turned c.args.route.now l.route c.args.steps l.low (omega arith) i.outside i.between) i.after
