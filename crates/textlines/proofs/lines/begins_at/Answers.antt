-- The part of the text from the offset on is tested.
use borrow.Author.Rules.{part_to_end}
use Rattle.textlines.proofs.Beginnings.{begins_is}
use Rattle.textlines.proofs.lines.begins_at.Goals as goal

pub returns : goal.returns
returns c = rw begins_is (rw part_to_end at c.starts_with.ensures.value)
