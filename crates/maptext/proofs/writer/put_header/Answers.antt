-- The four lines are put one after the other.
use Rattle.std.proofs.Common.{arith}
use Rattle.putting.proofs.Puts.{put_both}
use Rattle.maptext.specs.Text.{header}
use Rattle.maptext.proofs.Lengths.{header_length}
use Rattle.maptext.proofs.writer.put_header.Goals as goal

pub put-height_at-requires : goal.put-height_at-requires
put-height_at-requires c = omega (arith, header_length c.args.width c.args.height, c.requires.4)

pub put_side_line-width_at-requires : goal.put_side_line-width_at-requires
put_side_line-width_at-requires c = (c.requires.2, c.requires.3, omega (arith, header_length c.args.width c.args.height, c.requires.4))

pub put_side_line-map_at-requires : goal.put_side_line-map_at-requires
put_side_line-map_at-requires c = (c.requires.0, c.requires.1, omega (arith, header_length c.args.width c.args.height, c.requires.4))

pub put-requires : goal.put-requires
put-requires c = omega (arith, header_length c.args.width c.args.height, c.requires.4)

pub returns : goal.returns
unfolding header
returns c = put_both (put_both (put_both c.put-height_at.ensures c.put_side_line-width_at.ensures) c.put_side_line-map_at.ensures) c.put.ensures
