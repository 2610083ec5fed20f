-- The next byte is stored.
use Rattle.std.proofs.Common.{◌≡◌, get_or, arith, ◌∙◌}
use Rattle.textrows.specs.Chars.{cell_of}
use Rattle.textrows.specs.Working.{byte_or_0}
use Rattle.textrows.proofs.Filling.{mapped_next, byte_told}
use Rattle.textrows.proofs.rows.fill_row.Goals as goal

pub loop-x-preserved : goal.loop-x-preserved
loop-x-preserved c =
    let b : c.unwrap_or.result ≡ byte_or_0 (get_or c.args.row.now c.loop-x.x 0)
    = c.unwrap_or.ensures ∙ rw c.byte_of.ensures (byte_told (cell_of (get_or c.args.row.now c.loop-x.x 0))) in
    mapped_next byte_or_0 _ _ _ (omega arith) c.loop-x.invariant b
