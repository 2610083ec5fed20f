-- The first i bytes have been moved.
use Rattle.desk.proofs.Tails.{Moving}
use Rattle.desk.proofs.turns.keep_tail.Given as goal

abbrev pub invariant-loop-i : goal.invariant-loop-i
invariant-loop-i l = Moving l.first l.fn.buffer l.i l.buffer
