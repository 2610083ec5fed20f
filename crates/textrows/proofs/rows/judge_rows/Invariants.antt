-- What is refused of the rows that are left is what is refused of all.
use Rattle.std.proofs.Common.{◌≡◌, ◌-◌, ◌≤◌, length, drop}
use Rattle.textrows.specs.Rows.{read_rows}
use Rattle.textrows.specs.Working.{judged}
use Rattle.textrows.proofs.rows.judge_rows.Given as goal

abbrev pub invariant-loop : goal.invariant-loop
invariant-loop l =
    (l.at ≤ length l.text)
    × (judged (read_rows l.width l.height l.from (drop l.from l.text)) ≡ judged (read_rows l.width (l.height - l.counter) l.at (drop l.at l.text)))
