-- The word, the digits and LF are put one after the other.
use Rattle.std.proofs.Common.{arith, length-append}
use Rattle.putting.proofs.Puts.{put_both}
use Rattle.textlines.specs.Line.{side_line}
use Rattle.textlines.proofs.lines.put_side_line.Goals as goal

pub put-digits-requires : goal.put-digits-requires
unfolding side_line
put-digits-requires c = omega (arith, simp length-append at c.requires.2)

pub put_digits-end-requires : goal.put_digits-end-requires
unfolding side_line
put_digits-end-requires c = (c.requires.0, c.requires.1, omega (arith, simp length-append at c.requires.2))

pub put-requires : goal.put-requires
unfolding side_line
put-requires c = omega (arith, simp length-append at c.requires.2)

pub returns : goal.returns
unfolding side_line
returns c = put_both (put_both c.put-digits.ensures c.put_digits-end.ensures) c.put.ensures
