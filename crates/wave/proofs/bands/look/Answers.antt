-- The least cost and the greatest step fit, and no more cells are counted than are listed.
use Rattle.std.proofs.Common.{◌+◌, arith}
use Rattle.std.proofs.lemmas.List.Edits.{length-between}
use Rattle.ranks.proofs.Listed.{below_most}
use Rattle.wave.proofs.bands.look.Goals as goal

pub overflow_add-bound : goal.overflow_add-bound
overflow_add-bound c = omega (arith, c.requires.fits c.least_cost-bound.result c.least_cost-bound.ensures)

pub overflow_add-more : goal.overflow_add-more
overflow_add-more c =
    let o = c.args.front in
    omega (arith, below_most, c.count_below-below.ensures, c.requires.small, length-between c.args.work.now o.from (o.from + o.len))
