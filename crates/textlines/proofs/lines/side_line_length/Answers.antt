-- A side's line is the word, the digits and LF.
use Rattle.std.proofs.Common.{arith, length-append}
use Rattle.textlines.specs.Line.{side_line}
use Rattle.textlines.proofs.lines.side_line_length.Goals as goal

pub returns : goal.returns
unfolding side_line
returns c = simp length-append (omega arith)
