-- The first y rows are stored.
use Rattle.std.proofs.Common.{◌≡◌, drop}
use Rattle.std.proofs.lemmas.List.Edits.{sets}
use Rattle.textrows.specs.Working.{bytes_in}
use Rattle.textrows.proofs.rows.fill_rows.Given as goal

abbrev pub invariant-loop-y : goal.invariant-loop-y
invariant-loop-y l = l.cells ≡ sets l.initial.cells 0 (bytes_in l.width l.y (drop l.from l.text))
