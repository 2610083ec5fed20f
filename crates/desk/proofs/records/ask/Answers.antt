-- The question is asked as it was read, its zeros having been looked at.
use Rattle.std.proofs.Common.{◌≡◌, true, refl, sym, ap, ◌∙◌, rules, tests}
use borrow.Author.Rules.{part_to_end}
use Rattle.recordlayout.specs.Record.{all_zero}
use Rattle.desk.proofs.Asking.{asked_as_read}
use Rattle.desk.proofs.records.ask.Goals as goal

pub returns : goal.returns
returns c =
    let found : c.all_zero.result ≡ true = search (rules, tests) in
    let zeros = sym (c.all_zero.ensures ∙ ap all_zero (part_to_end c.args.question.now 13)) ∙ found in
    asked_as_read _ _ _ _ _ _ _ _ zeros c.number_at.ensures c.number_at-2.ensures c.number_at-3.ensures refl c.search.ensures
