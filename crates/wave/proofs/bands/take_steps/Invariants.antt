-- The steps in the directions before this one are taken, for any wave at hand.
use Rattle.wave.specs.Bands.{Took}
use Rattle.wave.proofs.bands.take_steps.Given as goal

abbrev pub invariant-loop-direction : goal.invariant-loop-direction
invariant-loop-direction l = Took l.f l.map l.fn.costs l.fn.work l.end l.cell 0 l.direction l.costs l.work l.last
