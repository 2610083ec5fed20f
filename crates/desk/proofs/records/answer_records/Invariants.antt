-- i records have been answered: whoever answers those that are left has answered them all.
use Rattle.std.proofs.Common.{◌-◌}
use Rattle.answering.specs.Rooms.{rooms}
use Rattle.desk.specs.Desk.{whole_records}
use Rattle.desk.proofs.Buffers.{Answering}
use Rattle.desk.proofs.records.answer_records.Given as goal

abbrev pub invariant-loop-i : goal.invariant-loop-i
invariant-loop-i l =
    Answering l.fn.f l.fn.map (whole_records l.fn.records) l.fn.records (rooms l.fn.costs l.fn.work l.fn.route) l.i l.records (rooms l.costs l.work l.route)
