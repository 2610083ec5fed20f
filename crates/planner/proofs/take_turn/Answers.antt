-- What was kept stands before the piece that was read, and both are answered.
use Rattle.std.proofs.Common.{arith}
use Rattle.std.specs.Prelude.{◌≢◌}
use Rattle.planner.proofs.Pieces.{some_piece}
use Rattle.planner.proofs.take_turn.Goals as goal

pub returns-in-Ok : goal.returns-in-Ok
returns-in-Ok g c =
    let some : c.in-Ok.arrived ≢ 0 = c.in-Ok.arrived-test.1 in
    some_piece c.args.buffer.now c.read_piece.new.room c.args.kept c.in-Ok.arrived c.read_piece.ensures.1 (omega arith) c.in-Ok.ensures.0 c.answer_piece.ensures
