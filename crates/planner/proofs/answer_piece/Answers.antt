-- What `answer_arrived` and `keep_tail` promise makes a turn.
use Rattle.std.proofs.Common.{◌≡◌, arith}
use Rattle.planner.specs.Gone.{counted}
use Rattle.planner.proofs.Pieces.{some_gone, piece_answered}
use Rattle.planner.proofs.answer_piece.Goals as goal

pub returns : goal.returns
returns g c =
    let taken = c.write_out-taken in
    let count : c.saturating_add-gone.result ≡ counted c.args.before taken.result.count = omega (arith, c.saturating_add-gone.ensures) in
    piece_answered c.answer_arrived-answered.ensures c.keep_tail-kept.ensures
    (some_gone _ _ _ _ taken.result.failure c.map-end.result taken.ensures.counted count taken.ensures.whole c.map-end.ensures.cases)
