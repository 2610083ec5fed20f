-- Where every byte is a weight, none is above the greatest; else the first that is.
use Rattle.screens.proofs.Firsts.{found, all_weights}
use mathlib.Core.Path.{sym, ◌∙◌}
use Rattle.screens.proofs.first_above.Goals as goal

pub returns-then-has_weights-clause-none : goal.returns-then-has_weights-clause-none
returns-then-has_weights-clause-none c = all_weights c.args.map.now (sym c.has_weights.ensures ∙ c.if-has_weights.true)

pub returns-clause-found : goal.returns-clause-found
returns-clause-found c = (found _ _ c.seek_above.ensures).0

pub returns-clause-none : goal.returns-clause-none
returns-clause-none c = (found _ _ c.seek_above.ensures).1
