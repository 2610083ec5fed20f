-- Each turn answers the next record; after the last all are.
use Rattle.std.proofs.Common.{arith}
use Rattle.desk.proofs.Buffers.{answering_none, next_within, answering_next, answering_all}
use Rattle.desk.proofs.records.answer_records.Goals as goal

pub loop-i-init : goal.loop-i-init
loop-i-init c = answering_none _ _ _ _

pub answer_at-requires : goal.answer_at-requires
answer_at-requires c = next_within c.loop-i.invariant (omega arith)

pub loop-i-preserved : goal.loop-i-preserved
loop-i-preserved c = answering_next c.loop-i.invariant (omega arith) c.answer_at.ensures

pub returns : goal.returns
returns c = answering_all (omega arith) c.loop-i.invariant
