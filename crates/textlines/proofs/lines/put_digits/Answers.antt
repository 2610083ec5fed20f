-- The four units are tried one after the other; a number below a unit puts nothing there.
use Rattle.std.proofs.Common.{arith}
use Rattle.putting.proofs.Puts.{put_both}
use Rattle.textlines.proofs.Decimals.{four_digits, four_lengths}
use Rattle.textlines.proofs.lines.put_digits.Goals as goal

pub put_digit-hundreds-requires : goal.put_digit-hundreds-requires
put_digit-hundreds-requires c = (omega arith, omega (arith, four_lengths c.args.n c.requires.0 (omega arith)))

pub put_digit-tens-requires : goal.put_digit-tens-requires
put_digit-tens-requires c = (omega arith, omega (arith, four_lengths c.args.n c.requires.0 (omega arith)))

pub put_digit-ones-requires : goal.put_digit-ones-requires
put_digit-ones-requires c = (omega arith, omega (arith, four_lengths c.args.n c.requires.0 (omega arith)))

pub put_digit-requires : goal.put_digit-requires
put_digit-requires c = (omega arith, omega (arith, four_lengths c.args.n c.requires.0 (omega arith)))

pub returns : goal.returns
returns c =
    rw (four_digits c.args.n c.requires.0 (omega arith))
    (put_both (put_both (put_both c.put_digit-hundreds.ensures c.put_digit-tens.ensures) c.put_digit-ones.ensures) c.put_digit.ensures)
