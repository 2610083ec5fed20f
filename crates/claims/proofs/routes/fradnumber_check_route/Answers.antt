-- Every place and cost of a verdict fits the low half.
use native.Mathlib.Omega.{arith}
use Rattle.claims.proofs.Packing.{value_small}
use Rattle.claims.proofs.routes.fradnumber_check_route.Goals as goal

pub pack-requires : goal.pack-requires
pack-requires c = rw c.check_route.ensures (value_small _ _ _ (omega (arith, c.ranges.cost)))
