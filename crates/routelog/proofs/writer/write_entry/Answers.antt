-- Nothing is refused of the answer, the directions and the room: the entry is written whole.
use Rattle.std.proofs.Common.{sym, ap, ◌∙◌, arith}
use Rattle.floor.specs.Screen.{screened}
use Rattle.logentries.specs.Entry.{entry_of}
use Rattle.logentries.proofs.Sizes.{entry_length}
use Rattle.routelog.proofs.Writing.{written_whole}
use Rattle.routelog.proofs.writer.write_entry.Goals as goal

pub returns : goal.returns
returns c =
    written_whole _ _ (sym c.judge_parts.ensures ∙ ap screened c.in_ok-judge_parts.was)
    (omega (arith, entry_length (entry_of c.args.question c.args.answer c.args.directions.now), c.route_size.ensures))
    c.put_entry.ensures
