-- The next row is stored.
use Rattle.std.proofs.Common.{◌+◌, arith}
use native.Mathlib.Numerals.{add-one}
use borrow.Author.Rules.{part_to_end}
use Rattle.textrows.proofs.Filling.{row_fits, next_stored}
use Rattle.textrows.proofs.rows.fill_rows.Goals as goal

pub loop-y-preserved : goal.loop-y-preserved
loop-y-preserved c =
    let a = c.args in
    next_stored a.width c.loop-y.y a.from a.text.now a.cells.now (omega (arith, row_fits c.loop-y.y a.height (a.width + 1) c.loop-y-test.true)) c.loop-y.invariant
    (rw (part_to_end, add-one) at c.fill_row.ensures)
