-- The three returns are the three cases of `Seen`.
use Rattle.wave.specs.Bands.{no_less, known, new}
use Rattle.wave.proofs.bands.see.Goals as goal

pub returns-then-old-cost : goal.returns-then-old-cost
returns-then-old-cost c = no_less c.if-old-cost.true

pub returns-then-old : goal.returns-then-old
returns-then-old c = new c.if-old-cost.false c.if-old.true

pub returns : goal.returns
returns c = known c.if-old-cost.false c.if-old.false
