-- The cell at hand still stands as it was, and what it keeps is the next value of the cut; after the last cell the values are the cut.
use Rattle.std.proofs.Common.{◌≡◌, ◌<◌, List, ℕ, length, get_or, sym, ◌∙◌, ap, arith}
use Rattle.settling.proofs.Keeping.{kept_to, kept_none, kept_all, kept_at, kept_next}
use Rattle.ranks.proofs.Keeps.{left, cut_values, kept_left}
use Rattle.ranks.proofs.cuts.trim.Goals as goal

pub loop-cell-init : goal.loop-cell-init
loop-cell-init c = sym (kept_none (left c.args.costs.now c.args.key) c.args.costs.now)

pub loop-cell-preserved : goal.loop-cell-preserved
loop-cell-preserved c =
    let costs = c.args.costs.now in
    let keeps = left costs c.args.key in
    let i = c.loop-cell.cell in
    let h : i < length costs = omega arith in
    let e : get_or c.loop-cell.costs i 0 ≡ get_or costs i 0 = ap (λ (l : List ℕ). get_or l i 0) c.loop-cell.invariant ∙ kept_at keeps costs i h in
    rw (c.loop-cell.invariant, c.kept_cost.ensures, e, kept_left costs c.args.key i) (kept_next keeps costs i h)

pub returns : goal.returns
returns c =
    let costs = c.args.costs.now in
    let keeps = left costs c.args.key in
    let end : c.loop-cell.cell ≡ length costs = omega arith in
    c.loop-cell.invariant ∙ ap (kept_to keeps costs) end ∙ kept_all keeps costs ∙ sym (cut_values costs c.args.key)
