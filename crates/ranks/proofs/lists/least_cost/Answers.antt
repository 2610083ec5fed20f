-- The lower of the least so far and this cell's cost is the one or the other, and no higher than either.
use Rattle.std.proofs.Common.{ℕ, ◌≤◌, ◌<◌, get_or, ⊎_elim, below_more, arith}
use Rattle.std.proofs.lemmas.Bool.{cases_lt}
use Rattle.ranks.proofs.lists.least_cost.Goals as goal

pub loop-cell-preserved : goal.loop-cell-preserved
loop-cell-preserved c =
    let l = c.loop-cell in
    let f = λ (k : ℕ). get_or c.args.costs.now (get_or c.args.listed.now k 0) 0 in (
      ⊎_elim
          (λ (h : f l.cell-index < l.least). (l.cell-index, c.loop-cell-test.true, omega (arith, c.min-least.ensures)))
          (λ (h : l.least ≤ f l.cell-index). (l.invariant.0.0, l.invariant.0.1, omega (arith, l.invariant.0.2, c.min-least.ensures)))
          (cases_lt (f l.cell-index) l.least),
      below_more (λ k. c.min-least.result ≤ f k) _ (λ k h. omega (arith, l.invariant.1 k h)) (omega arith),
    )
