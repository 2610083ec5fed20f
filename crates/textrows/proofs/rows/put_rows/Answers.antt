-- The next row is put, with the part of the map from it on.
use Rattle.std.proofs.Common.{◌≤◌, ◌+◌, ◌*◌, suc, length, List, ℕ, length-drop, sym, subst, arith}
use native.Mathlib.Numerals.{add-one}
use borrow.Author.Rules.{part_to_end}
use Rattle.putting.proofs.Puts.{put_both}
use Rattle.textrows.specs.Working.{Weights}
use Rattle.textrows.proofs.Filling.{row_fits, rows_more, rows_text_length}
use Rattle.textrows.proofs.Weights.{weights_drop}
use Rattle.textrows.proofs.rows.put_rows.Goals as goal

pub put_row-next-requires : goal.put_row-next-requires
put_row-next-requires c =
    let a = c.args in
    let y = c.loop-y.y in
    let in_map = row_fits y a.height a.width c.loop-y-test.true in
    let in_room = row_fits y a.height (suc a.width) c.loop-y-test.true in
    let done = rows_text_length a.width y a.map.now (omega arith) in
    subst (λ (m : List ℕ). Weights m × (a.width ≤ length m) × (c.loop-y.next + suc a.width ≤ length c.loop-y.room)) (sym (part_to_end a.map.now (y * a.width)))
    (weights_drop (y * a.width) a.map.now c.requires.0, omega (arith, length-drop (y * a.width) a.map.now), omega (arith, c.loop-y.invariant.next))

pub loop-y-preserved : goal.loop-y-preserved
loop-y-preserved c = rw (add-one, rows_more) (put_both c.loop-y.invariant (rw part_to_end at c.put_row-next.ensures))
