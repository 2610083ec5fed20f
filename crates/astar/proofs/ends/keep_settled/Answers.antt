-- The cell at hand is left what it keeps, and is counted if that is a cost.
use Rattle.std.proofs.Common.{◌≡◌, sym, ap, ◌∙◌, arith, rules, length, ◌<◌}
use Rattle.paths.specs.Below.{count}
use Rattle.paths.proofs.Below.{count_le}
use Rattle.settling.specs.Aimed.{is_settled}
use Rattle.settling.proofs.Keeping.{kept_to, kept_none, kept_all, kept_next}
use Rattle.floor.specs.Estimate.{estimate}
use Rattle.astar.proofs.Keeps.{kept_by, keeps_here, counts, counts_not, settled_values, settled_counted}
use Rattle.astar.proofs.ends.keep_settled.Goals as goal

pub loop-cell-init : goal.loop-cell-init
loop-cell-init c = record { counted = search rules; kept = sym (kept_none (kept_by c.args.aim c.args.costs.now) c.args.costs.now) }

pub overflow_add-settled : goal.overflow_add-settled
overflow_add-settled c =
    let aim = c.args.aim in
    omega (arith, count_le (is_settled (estimate aim.floor aim.goal) c.args.costs.now aim.goal) c.loop-cell.cell)

pub loop-cell-preserved : goal.loop-cell-preserved
loop-cell-preserved c =
    let costs = c.args.costs.now in
    let i = c.loop-cell.cell in
    let h = estimate c.args.aim.floor c.args.aim.goal in
    let inside : i < length costs = omega arith in
    let here : c.kept_cost-cost.result ≡ kept_by c.args.aim costs i =
    keeps_here c.args.aim costs _ i _ c.requires.place inside c.loop-cell.invariant.kept c.kept_cost-cost.ensures in
    record {
      counted = grind (arith, counts h costs c.args.aim.goal i, counts_not h costs c.args.aim.goal i);
      kept = rw (c.loop-cell.invariant.kept, here) (kept_next (kept_by c.args.aim costs) costs i inside);
    }

pub returns-clause-count : goal.returns-clause-count
returns-clause-count c =
    let costs = c.args.costs.now in
    let h = estimate c.args.aim.floor c.args.aim.goal in
    let end : c.loop-cell.cell ≡ length costs = omega arith in
    c.loop-cell.invariant.counted ∙ ap (count (is_settled h costs c.args.aim.goal)) end ∙ sym (settled_counted h costs c.args.aim.goal)

pub returns-clause-left : goal.returns-clause-left
returns-clause-left c =
    let costs = c.args.costs.now in
    let h = estimate c.args.aim.floor c.args.aim.goal in
    let end : c.loop-cell.cell ≡ length costs = omega arith in
    c.loop-cell.invariant.kept ∙ ap (kept_to (kept_by c.args.aim costs) costs) end ∙ kept_all (kept_by c.args.aim costs) costs ∙ sym (settled_values h costs c.args.aim.goal)
