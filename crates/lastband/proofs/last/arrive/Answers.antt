-- The key after the goal's fits 64 bits, since a floor's cells do 32; and the three calls in a row are the three parts of the promise.
use Rattle.std.proofs.Common.{◌∙◌, add-one, arith}
use Rattle.settling.specs.Order.{key}
use Rattle.floor.proofs.Laws.{lawful}
use Rattle.lastband.proofs.last.arrive.Goals as goal

pub key_of-requires : goal.key_of-requires
key_of-requires c = omega (arith, c.requires.walk.inside, (lawful c.args.f c.args.map.now c.requires.walk.passed).cells_fit)

pub overflow_add-key_of : goal.overflow_add-key_of
overflow_add-key_of c = omega (arith, c.key_of.ensures, c.requires.walk.inside, (lawful c.args.f c.args.map.now c.requires.walk.passed).cells_fit)

pub trim-requires : goal.trim-requires
trim-requires c = omega (arith, c.requires.walk.covers, (lawful c.args.f c.args.map.now c.requires.walk.passed).cells_fit)

pub returns : goal.returns
unfolding key
returns c =
    let w = c.write_route-length.ensures in
    record {
      answer = rw (add-one, w.measured);
      left = c.trim.ensures ∙ rw (c.key_of.ensures, add-one);
      written = w.written ∙ rw w.measured;
    }
