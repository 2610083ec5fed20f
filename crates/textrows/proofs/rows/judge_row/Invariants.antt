-- What is refused of the row from x on is what is refused of the row.
use Rattle.std.proofs.Common.{◌≡◌, ◌+◌, ◌-◌, ◌≤◌, length, drop}
use Rattle.textrows.specs.Rows.{read_row}
use Rattle.textrows.specs.Working.{judged}
use Rattle.textrows.proofs.rows.judge_row.Given as goal

abbrev pub invariant-loop-x : goal.invariant-loop-x
invariant-loop-x l =
    (l.x ≤ length l.row) × (judged (read_row l.width l.at l.row) ≡ judged (read_row (l.width - l.x) (l.at + l.x) (drop l.x l.row)))
