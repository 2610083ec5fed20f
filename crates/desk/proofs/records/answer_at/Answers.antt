-- The record's bytes are the question, and the answer is stored in its place.
use Rattle.std.proofs.Common.{◌∙◌}
use Rattle.desk.proofs.Buffers.{answered_at}
use Rattle.desk.proofs.records.answer_at.Goals as goal

pub returns : goal.returns
returns c = answered_at c.ask-answer.ensures (c.copy_from_slice.ensures.after ∙ c.record_of.ensures)
