-- Each return gives one of the reader's three answers.
use Rattle.std.proofs.Common.{◌≡◌, ◌≢◌, length, Err, sym, ap, ◌∙◌, arith, rules, tests}
use Rattle.std.proofs.lemmas.Grind.{common_steps}
use Rattle.floor.specs.Screen.{screened}
use Rattle.routelog.proofs.Taking.{read_empty, read_refused, read_logged}
use Rattle.routelog.proofs.reader.read_entry.Goals as goal

pub returns-then-is_empty : goal.returns-then-is_empty
returns-then-is_empty c = let none : length c.args.rest.now ≡ 0 = search (rules, tests) in read_empty c.args.rest.now c.args.route.now none

pub returns-in_err-judge_entry : goal.returns-in_err-judge_entry
returns-in_err-judge_entry c =
    let some : length c.args.rest.now ≢ 0 = search (rules, tests) in
    let handed : c.from_residual.result ≡ Err c.in_err-judge_entry.field-0.0 = grind (arith, common_steps) in
    rw handed (read_refused c.args.rest.now c.args.route.now some (sym c.in_err-judge_entry.ensures))

pub returns : goal.returns
returns c =
    let some : length c.args.rest.now ≢ 0 = search (rules, tests) in
    read_logged c.args.rest.now c.args.route.now some (sym c.judge_entry.ensures ∙ ap screened c.in_ok-judge_entry.was) c.take_entry.ensures
