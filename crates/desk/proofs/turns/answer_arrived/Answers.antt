-- The part that is lent has the bytes that have arrived; its records are answered, and the rest of the buffer follows it as it was.
use Rattle.desk.proofs.Tails.{arrived_answered}
use Rattle.desk.proofs.turns.answer_arrived.Goals as goal

pub returns : goal.returns
returns c = arrived_answered c.min-arrived.ensures c.answer_records.auto.records c.answer_records.ensures
