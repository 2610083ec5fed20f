-- A line of the header has at most 12 bytes, so nothing wraps.
use Rattle.std.proofs.Common.{arith}
use native.Mathlib.Nat.{mul-le-mul}
use Rattle.textlines.proofs.Decimals.{short_line}
use Rattle.maptext.specs.Text.{height_word, width_word}
use Rattle.maptext.proofs.Lengths.{header_length}
use Rattle.maptext.proofs.writer.text_length.Goals as goal

pub overflow_add-head : goal.overflow_add-head
overflow_add-head c = omega (arith, short_line height_word c.args.height (omega arith) c.requires.2 c.requires.3)

pub overflow_add-head-2 : goal.overflow_add-head-2
overflow_add-head-2 c = omega (arith, short_line height_word c.args.height (omega arith) c.requires.2 c.requires.3, short_line width_word c.args.width (omega arith) c.requires.0 c.requires.1)

pub overflow_add-head-3 : goal.overflow_add-head-3
overflow_add-head-3 c = omega (arith, short_line height_word c.args.height (omega arith) c.requires.2 c.requires.3, short_line width_word c.args.width (omega arith) c.requires.0 c.requires.1)

pub overflow_add-result-2 : goal.overflow_add-result-2
overflow_add-result-2 c = omega (arith, short_line height_word c.args.height (omega arith) c.requires.2 c.requires.3, short_line width_word c.args.width (omega arith) c.requires.0 c.requires.1, mul-le-mul c.requires.3 c.requires.1)

pub returns : goal.returns
returns c = omega (arith, header_length c.args.width c.args.height, c.side_line_length.ensures, c.side_line_length-2.ensures)
