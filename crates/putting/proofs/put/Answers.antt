-- The part from the place on holds the bytes afterwards.
use Rattle.std.proofs.Common.{◌≡◌, ◌+◌, ◌-◌, length, refl, arith}
use Rattle.putting.proofs.Puts.{put_part}
use Rattle.putting.proofs.put.Goals as goal

pub returns : goal.returns
returns c =
    let size : c.args.at + length c.args.bytes.now - c.args.at ≡ length c.args.bytes.now = omega arith in
    record { next = refl; leaves = rw c.copy_from_slice.ensures.after (put_part _ _ _ _ size (omega arith)) }
