-- A map that can be used has its cells in the room.
use Rattle.std.proofs.Common.{◌*◌, ◌≤◌, length, sym, arith}
use Rattle.std.proofs.lemmas.List.{length-take-le}
use Rattle.mapuse.proofs.Using.{used_fits}
use Rattle.planner.proofs.use_text.Goals as goal

pub slice_bounds-answer_questions-end-in-Ok : goal.slice_bounds-answer_questions-end-in-Ok
slice_bounds-answer_questions-end-in-Ok g c =
    let fits : c.in-Ok.f.width * c.in-Ok.f.height ≤ length c.args.cells.now = used_fits _ _ c.in-Ok.f c.in-Ok.is c.use_map.ensures.answers in
    sym (length-take-le _ c.use_map.new.cells (omega (arith, c.use_map.auto.cells)))
