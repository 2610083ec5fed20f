-- The wave at hand is the caller's, as the steps before this one have left it.
use Rattle.std.proofs.Common.{◌≡◌, arith}
use Rattle.wave.proofs.bands.take_steps.Goals as goal

pub take_step-last-requires : goal.take_step-last-requires
take_step-last-requires c =
    let p = c.requires.can in (
      record {
        s = p.s;
        bound = p.bound;
        at = p.at;
        stop = p.stop;
        other = p.other;
        here = c.loop-direction.invariant p.s p.bound p.at p.stop p.other p.here;
      },
      c.around_of-around.ensures,
    )

pub loop-direction-preserved : goal.loop-direction-preserved
loop-direction-preserved c = λ s bound at stop other x. c.take_step-last.ensures s bound at stop other (c.loop-direction.invariant s bound at stop other x)

pub returns : goal.returns
returns c = let e : c.loop-direction.direction ≡ 8 = omega arith in rw e at c.loop-direction.invariant
