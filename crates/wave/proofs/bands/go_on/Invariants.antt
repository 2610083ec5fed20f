-- The goal and the limit lie beyond the front, for any wave at hand; ever fewer cells are not settled.
use Rattle.std.proofs.Common.{ℕ, ◌-◌}
use Rattle.floor.specs.Place.{cells}
use Rattle.wave.specs.Bands.{OpenAt}
use Rattle.wave.proofs.bands.go_on.Given as goal

abbrev pub invariant-loop-f : goal.invariant-loop-f
invariant-loop-f l =
    (s : ℕ) → OpenAt l.f l.map s l.fn.costs l.fn.work l.goal l.limit l.fn.front → OpenAt l.f l.map s l.costs l.work l.goal l.limit l.front

abbrev pub decreases-loop-f : goal.decreases-loop-f
decreases-loop-f l = cells l.f - l.front.settled
