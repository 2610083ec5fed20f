-- Question, answer and route are put one after the other.
use Rattle.std.proofs.Common.{arith}
use Rattle.putting.proofs.Puts.{put_both}
use Rattle.logentries.specs.Entry.{entry_of, entry_bytes}
use Rattle.logentries.proofs.Sizes.{entry_length}
use Rattle.routelog.proofs.writer.put_entry.Goals as goal

pub put_route-requires : goal.put_route-requires
put_route-requires c = (
  c.requires.0,
  omega (arith, entry_length (entry_of c.args.question.now c.args.answer.now c.args.directions.now), c.put-answer_at.ensures.next, c.put-route_at.ensures.next),
)

pub returns : goal.returns
unfolding entry_bytes
returns c = put_both (put_both c.put-answer_at.ensures c.put-route_at.ensures) c.put_route.ensures
