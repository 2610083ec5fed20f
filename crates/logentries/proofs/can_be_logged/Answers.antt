-- The zeros of an answer that is not refused: both parts were looked at, or the first has failed.
use Rattle.std.proofs.Common.{ap, sym, ◌∙◌}
use borrow.Author.Rules.{part_to_end}
use Rattle.recordlayout.specs.Record.{all_zero}
use Rattle.logentries.proofs.Answers.{no_zeros, no_end_zeros, by_kind}
use Rattle.logentries.proofs.can_be_logged.Goals as goal
use Rattle.logentries.proofs.can_be_logged.Goals.{then-all_zero, else-all_zero}

pub returns-then-all_zero-2 : goal.returns-then-all_zero-2
returns-then-all_zero-2 c =
    elim c.if-all_zero.branch [
      | then-all_zero w ↦
          let ends = w.all_zero-then-all_zero.ensures ∙ ap all_zero (part_to_end c.args.answer.now 24) in
          c.kind_fits.ensures
          ∙ sym (by_kind _ c.numbers_in-numbers.ensures c.if-numbers-eq0.false (sym c.all_zero-2.ensures ∙ w.if-all_zero.true) (sym ends ∙ sym w.value-is ∙ c.if-all_zero-2.true))
      | else-all_zero w ↦ cc
    ]

pub returns-else-all_zero-2 : goal.returns-else-all_zero-2
returns-else-all_zero-2 c =
    elim c.if-all_zero.branch [
      | then-all_zero w ↦
          let ends = w.all_zero-then-all_zero.ensures ∙ ap all_zero (part_to_end c.args.answer.now 24) in
          c.if-all_zero-2.false
          ∙ sym (no_end_zeros _ c.numbers_in-numbers.ensures c.if-numbers-eq0.false (sym c.all_zero-2.ensures ∙ w.if-all_zero.true) (sym ends ∙ sym w.value-is ∙ c.if-all_zero-2.false))
      | else-all_zero w ↦
          w.value-is ∙ w.if-all_zero.false ∙ sym (no_zeros _ c.numbers_in-numbers.ensures c.if-numbers-eq0.false (sym c.all_zero-2.ensures ∙ w.if-all_zero.false))
    ]
