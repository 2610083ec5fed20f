-- Bytes that are tested for lying between two: what the test says of each of them.
use mathlib.Core.Path.{◌≡◌, refl}
use mathlib.Core.Logic.{◌⊎◌, inl, inr}
use mathlib.Core.Bool.{Bool, true, false, ◌&&◌}
use mathlib.Core.List.{List, [], ◌∷◌}
use Prim.Native.Nat.{ℕ, zero, suc, ◌≤◌, ◌<◌}
use native.Mathlib.Omega.{arith}
use borrow.Author.Tests.{leb-false}
use lib.Dec.{leb, leb→le}
use lib.ListN.{length, get_or}
use Rattle.paths.proofs.Bools.{T_true, true_T, T_and}
use Rattle.logentries.specs.Entry.{all_within}

-- of bytes that pass each one does
pub within_at : (least greatest : ℕ) (bs : List ℕ) → all_within least greatest bs ≡ true → (i : ℕ) → i < length bs
    → (least ≤ get_or bs i 0) × (get_or bs i 0 ≤ greatest)
within_at least greatest [] e i h = absurd (omega arith)
within_at least greatest (b ∷ bs) e zero h =
    let both = T_and (leb least b) (leb b greatest) (T_and (leb least b && leb b greatest) (all_within least greatest bs) (true_T _ e)).0 in
    (leb→le least b both.0, leb→le b greatest both.1)
within_at least greatest (b ∷ bs) e (suc i) h =
    within_at least greatest bs (T_true (all_within least greatest bs) (T_and (leb least b && leb b greatest) (all_within least greatest bs) (true_T _ e)).1) i (omega arith)

-- of bytes that do not pass there is one that does not
pub record Outside (least greatest : ℕ) (bs : List ℕ) : Type 0 where
  pub place : ℕ
  pub within : place < length bs
  pub out : (get_or bs place 0 < least) ⊎ (greatest < get_or bs place 0)

pub outside : (least greatest : ℕ) (bs : List ℕ) → all_within least greatest bs ≡ false → Outside least greatest bs
outside least greatest [] e = let z : ◌≡◌ {A = ℕ} 0 1 = cc in absurd (omega arith)
outside least greatest (b ∷ bs) e = go (leb least b) refl (leb b greatest) refl e (outside least greatest bs)
  where
    go : (x : Bool) → leb least b ≡ x → (y : Bool) → leb b greatest ≡ y → ((x && y) && all_within least greatest bs) ≡ false
        → (all_within least greatest bs ≡ false → Outside least greatest bs) → Outside least greatest (b ∷ bs)
    go false l y g e ih = record { place = 0; within = omega arith; out = inl (leb-false least b l) }
    go true l false g e ih = record { place = 0; within = omega arith; out = inr (leb-false b greatest g) }
    go true l true g e ih = let o = ih e in record { place = suc o.place; within = omega (arith, o.within); out = o.out }
