-- The next character is put.
use Rattle.std.proofs.Common.{arith}
use Rattle.textrows.specs.Chars.{char_of}
use Rattle.textrows.proofs.Filling.{mapped_next}
use Rattle.textrows.proofs.rows.put_cells.Goals as goal

pub loop-x-preserved : goal.loop-x-preserved
loop-x-preserved c = mapped_next char_of _ _ _ (omega arith) c.loop-x.invariant c.char_of.ensures
