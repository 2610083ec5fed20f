-- The first x bytes are stored.
use Rattle.std.proofs.Common.{◌≡◌, map, take}
use Rattle.std.proofs.lemmas.List.Edits.{sets}
use Rattle.textrows.specs.Working.{byte_or_0}
use Rattle.textrows.proofs.rows.fill_row.Given as goal

abbrev pub invariant-loop-x : goal.invariant-loop-x
invariant-loop-x l = l.cells ≡ sets l.initial.cells l.to (map byte_or_0 (take l.x l.row))
