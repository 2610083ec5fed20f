-- The part from the place on holds the byte alone afterwards.
use Rattle.std.proofs.Common.{◌≡◌, ◌+◌, ◌-◌, ℕ, replicate, sym, ap, arith, ◌∙◌}
use Rattle.std.proofs.lemmas.List.{length-replicate}
use borrow.Rule.Slice.PartMut.{mid_len}
use Rattle.putting.proofs.Puts.{put_part}
use Rattle.putting.proofs.fill.Goals as goal

pub returns : goal.returns
returns c =
    let many = length-replicate c.args.count c.args.byte in
    let size : c.args.at + c.args.count - c.args.at ≡ c.args.count = omega arith in
    let part = mid_len c.args.at (c.args.at + c.args.count) c.args.room.now (omega arith) in
    let filled = c.fill.ensures.after (λ y e. e) ∙ ap (λ (n : ℕ). replicate n c.args.byte) (part ∙ size) in
    record { next = omega arith; leaves = rw filled (put_part (replicate c.args.count c.args.byte) c.args.room.now c.args.at _ (size ∙ sym many) (omega arith)) }
