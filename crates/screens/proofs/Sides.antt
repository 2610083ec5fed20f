-- A floor whose sides have passed has few cells, so that their number does not wrap.
use mathlib.Core.Path.{◌≡◌}
use mathlib.Core.Bool.{true}
use Prim.Native.Nat.{◌*◌, ◌≤◌}
use native.Mathlib.Nat.{mul-le-mul}
use Rattle.paths.proofs.Bools.{true_T}
use Rattle.floor.specs.declared.Floor.{Floor}
use Rattle.floor.specs.Place.{greatest_side, has_sides}
use Rattle.floor.proofs.Passing.{sides}

pub few : (f : Floor) → has_sides f ≡ true → f.width * f.height ≤ greatest_side * greatest_side
few f e = let s = sides f (true_T _ e) in mul-le-mul s.0.top s.1.top
