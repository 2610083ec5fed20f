-- All that came so far is answered, but for the bytes kept, and nothing has ended the turns.
use Rattle.std.proofs.Common.{◌≡◌}
use Rattle.std.specs.Prelude.{None}
use Rattle.answering.specs.Rooms.{rooms}
use Rattle.planner.specs.SoFar.{AllSoFar}
use Rattle.planner.proofs.answer_all.Given as goal

abbrev pub invariant-loop : goal.invariant-loop
invariant-loop g l = record {
  so_far : AllSoFar l.f l.map (rooms l.initial.costs l.initial.work l.initial.route) l.turn l.buffer (rooms l.costs l.work l.route);
  going_on : l.turn.end ≡ None;
}
