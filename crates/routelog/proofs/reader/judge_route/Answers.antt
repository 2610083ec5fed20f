-- The directions are as many bytes as was asked for.
use Rattle.std.proofs.Common.{sym, arith}
use lib.Seq.{length-take-le}
use Rattle.logentries.proofs.Sizes.{size_holds}
use Rattle.routelog.proofs.reader.judge_route.Goals as goal

pub slice_bounds-all_within-end : goal.slice_bounds-all_within-end
slice_bounds-all_within-end c = sym (length-take-le c.args.length c.args.bytes.now (omega (arith, size_holds c.args.length, c.route_size-size.ensures)))
