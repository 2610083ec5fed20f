-- The goal has no cost, or the route is written before cells lose theirs; either way the settled cells are counted and keep their costs.
use Rattle.astar.proofs.Ending.{can_keep, finished_none}
use Rattle.astar.proofs.ends.finish.Goals as goal

pub keep_settled-requires : goal.keep_settled-requires
keep_settled-requires c = can_keep c.requires

pub returns-then-cost : goal.returns-then-cost
returns-then-cost c = finished_none c.requires c.if-cost.true c.keep_settled.ensures.count c.keep_settled.ensures.left

pub keep_settled-requires-2 : goal.keep_settled-requires-2
keep_settled-requires-2 c = can_keep c.requires
