-- What is left of the route decides, as the steps behind have been allowed.
use Rattle.claims.specs.Route.{claim}
use Rattle.claims.proofs.Following.{Behind}
use Rattle.claims.proofs.routes.try_steps.Given as goal

abbrev pub invariant-loop-place : goal.invariant-loop-place
invariant-loop-place l = Behind l.f l.map (claim l.start l.goal l.cost l.route) l.cell l.spent l.place
