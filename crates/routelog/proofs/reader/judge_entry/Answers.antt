-- The lines of question and answer have passed, and those of the route are left.
use Rattle.std.proofs.Common.{◌≡◌, ◌+◌, true, sym, ap, ◌∙◌, rules, tests}
use borrow.Author.Rules.{part_to_end}
use Rattle.answering.specs.declared.AnswerNumbers.{AnswerNumbers}
use Rattle.recordlayout.specs.Record.{record_size, answer_in}
use Rattle.logentries.specs.Entry.{can_be_logged}
use Rattle.routelog.proofs.Judging.{by_route}
use Rattle.routelog.proofs.reader.judge_entry.Goals as goal

pub returns : goal.returns
returns c =
    let answered : c.can_be_logged.result ≡ true = search (rules, tests) in
    let logged = sym (c.can_be_logged.ensures ∙ ap can_be_logged c.record_at-answer.ensures) ∙ answered in
    let steps = ap (λ (n : AnswerNumbers). n.length) (c.numbers_in.ensures ∙ ap answer_in c.record_at-answer.ensures) in
    c.judge_route.ensures
    ∙ sym (by_route _ _ c.if-rest-lt-ROUTE_AT.false logged (part_to_end c.args.rest.now (record_size + record_size)) steps)
