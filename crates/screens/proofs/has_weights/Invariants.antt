-- The greatest byte so far is a weight exactly if all bytes so far are.
use Rattle.std.proofs.Common.{◌≡◌, leb, get_or}
use Rattle.paths.specs.Below.{every}
use Rattle.floor.specs.Place.{greatest_weight}
use Rattle.screens.proofs.has_weights.Given as goal

abbrev pub invariant-loop-byte : goal.invariant-loop-byte
invariant-loop-byte l = leb l.greatest greatest_weight ≡ every (λ v. leb (get_or l.map v 0) greatest_weight) l.byte-index
