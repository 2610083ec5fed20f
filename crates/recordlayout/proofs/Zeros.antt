-- Of bytes that are all 0 each one is.
use mathlib.Core.Path.{◌≡◌, refl}
use mathlib.Core.List.{List, [], ◌∷◌}
use Prim.Native.Nat.{ℕ, zero, suc}
use lib.Dec.{T, eqb, eqb→eq}
use lib.ListN.{get_or}
use Rattle.paths.proofs.Bools.{T_and}
use Rattle.recordlayout.specs.Record.{all_zero}

pub zero_at : (bytes : List ℕ) (i : ℕ) → T (all_zero bytes) → get_or bytes i 0 ≡ 0
zero_at [] i z = refl
zero_at (b ∷ bs) zero z = eqb→eq b 0 (T_and (eqb b 0) (all_zero bs) z).0
zero_at (b ∷ bs) (suc i) z = zero_at bs i (T_and (eqb b 0) (all_zero bs) z).1
