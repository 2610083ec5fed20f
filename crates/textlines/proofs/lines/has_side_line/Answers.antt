-- The line is put into a room that it fits, and what was put is what the text is tested for.
use Rattle.std.proofs.Common.{List, ℕ, length-take-le, eqb, sym, arith, ap, ◌∙◌}
use Rattle.std.specs.List.{starts_with}
use Rattle.putting.proofs.Puts.{put_first}
use Rattle.textlines.proofs.Beginnings.{begins_is}
use Rattle.textlines.proofs.Decimals.{short_line}
use Rattle.textlines.proofs.lines.has_side_line.Goals as goal

pub put_side_line-end-requires : goal.put_side_line-end-requires
put_side_line-end-requires c =
    let fits = short_line c.args.word.now c.args.n c.requires.0 c.requires.1 c.requires.2 in
    (c.requires.1, c.requires.2, omega arith)

pub slice_bounds-room-end : goal.slice_bounds-room-end
slice_bounds-room-end c =
    let fits = short_line c.args.word.now c.args.n c.requires.0 c.requires.1 c.requires.2 in
    omega (arith, fits, c.put_side_line-end.ensures.next)

pub slice_bounds-starts_with-end : goal.slice_bounds-starts_with-end
slice_bounds-starts_with-end c =
    let fits = short_line c.args.word.now c.args.n c.requires.0 c.requires.1 c.requires.2 in
    sym (length-take-le c.put_side_line-end.result c.put_side_line-end.new.room (omega (arith, fits, c.put_side_line-end.ensures.next)))

pub returns : goal.returns
returns c =
    let fits = short_line c.args.word.now c.args.n c.requires.0 c.requires.1 c.requires.2 in
    let line = put_first c.put_side_line-end.ensures fits in
    rw begins_is (c.starts_with.ensures.value ∙ ap (λ (l : List ℕ). starts_with eqb c.args.text.now l) line)
