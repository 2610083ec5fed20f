-- The direction at which the loop stops is the lowest that gives the cell its cost; where it ends, none below 8 does.
use Rattle.std.proofs.Common.{◌≡◌, arith}
use mathlib.Core.Path.{sym}
use Rattle.paths.specs.First.{last_step}
use Rattle.paths.proofs.Below.{lowest_found}
use Rattle.walkback.specs.Walks.{Giving}
use Rattle.walkback.proofs.walks.last_step.Goals as goal

pub returns-in-Some : goal.returns-in-Some
unfolding Giving last_step
returns-in-Some c = record {
  direction = sym (lowest_found _ c.loop-direction.direction 8 c.loop-direction.invariant c.in-Some.ensures.0 c.loop-direction-test.true);
  below = c.loop-direction-test.true;
  from = c.in-Some.ensures.1;
}

pub returns : goal.returns
unfolding last_step
returns c = let end : c.loop-direction.direction ≡ 8 = omega arith in rw end at c.loop-direction.invariant
