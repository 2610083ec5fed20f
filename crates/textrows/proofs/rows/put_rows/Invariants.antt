-- The first y rows are put.
use Rattle.putting.specs.Put.{IsPut}
use Rattle.textrows.specs.Rows.{rows}
use Rattle.textrows.proofs.rows.put_rows.Given as goal

abbrev pub invariant-loop-y : goal.invariant-loop-y
invariant-loop-y l = IsPut (rows l.width l.y l.map) l.initial.room l.at l.next l.room
