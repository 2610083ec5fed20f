-- The first x characters are put.
use Rattle.std.proofs.Common.{◌≡◌, map, take}
use Rattle.std.proofs.lemmas.List.Edits.{sets}
use Rattle.textrows.specs.Chars.{char_of}
use Rattle.textrows.proofs.rows.put_cells.Given as goal

abbrev pub invariant-loop-x : goal.invariant-loop-x
invariant-loop-x l = l.room ≡ sets l.initial.room l.at (map char_of (take l.x l.cells))
