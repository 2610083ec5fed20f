-- The cells and LF are put one after the other.
use Rattle.putting.proofs.Puts.{put_both}
use Rattle.textrows.proofs.rows.put_row.Goals as goal

pub returns : goal.returns
returns c = put_both c.put_cells-end.ensures c.put.ensures
