-- A row's fault is the fault of the rows; one that has passed is there with its LF, and the rows after it are left.
use Rattle.std.proofs.Common.{◌≡◌, drop, ◌∙◌, sym, length-drop, arith}
use Rattle.std.proofs.lemmas.Result.{err_from_is_err_and}
use borrow.Author.Rules.{part_to_end}
use Rattle.floor.specs.Screen.{Passed, Refused}
use Rattle.floor.specs.Refusals.{number_of, place_of}
use Rattle.textrows.specs.Rows.{read_row}
use Rattle.textrows.specs.Working.{judged}
use Rattle.textrows.proofs.Judging.{row_there, rows_fault, rows_on}
use Rattle.textrows.proofs.rows.judge_rows.Goals as goal

pub loop-preserved : goal.loop-preserved
loop-preserved c =
    let a = c.args in
    let row : judged (read_row a.width c.loop.at (drop c.loop.at a.text.now)) ≡ Passed = sym (rw part_to_end at c.judge_row.ensures) ∙ rw c.in_ok-judge_row.was in (
      omega (arith, row_there a.width c.loop.at (drop c.loop.at a.text.now) row, length-drop c.loop.at a.text.now),
      c.loop.invariant.1 ∙ rows_on a.width a.height c.loop.counter c.loop.at a.text.now c.loop-test.true row,
    )

pub returns-in_err-judge_row : goal.returns-in_err-judge_row
returns-in_err-judge_row c =
    let a = c.args in
    let e = c.in_err-judge_row.field-0.0 in
    let row : judged (read_row a.width c.loop.at (drop c.loop.at a.text.now)) ≡ Refused (number_of e) (place_of e)
    = sym (rw part_to_end at c.judge_row.ensures) ∙ rw c.in_err-judge_row.was in
    let all = c.loop.invariant.1 ∙ rows_fault a.width a.height c.loop.counter c.loop.at a.text.now c.loop-test.true _ _ row in
    let told = err_from_is_err_and c.from_residual.result c.from_residual.ensures.1 in
    rw told.1 (rw told.2 (sym all))
