-- Lists in the work room: one more at the end, a write beside them, what stands in them; each from the laws of take and drop.
use mathlib.Core.Path.{◌≡◌, refl, ◌∙◌, ap}
use mathlib.Core.Logic.{◌⊎◌, ⊎_elim}
use mathlib.Core.Bool.{Bool, true}
use mathlib.Core.List.{List, [], ◌∷◌, ◌++◌}
use Prim.Native.Nat.{ℕ, zero, suc, ◌+◌, ◌≤◌, ◌<◌}
use native.Mathlib.Decide.{ℕ_discrete, dec_lt}
use native.Mathlib.Numerals.{add-one}
use native.Mathlib.Omega.{arith}
use lib.ListN.{length, get_or, take, drop, set}
use lib.Seq.{slice, take-suc, take-suc-set, take-set-le, take-set-lt, drop-set-lt, drop-append-le, length-take-le, get_or-drop, get_or-take}
use Rattle.paths.specs.Below.{tick}
use Rattle.settling.specs.Cut.{tally}
use Rattle.settling.specs.Wave.{occ}
use Rattle.paths.proofs.Below.{tick_le}
use Rattle.settling.proofs.Waves.{occ_here, occ_there, occ_none, occ_fewer}

-- the slice with the cell at its end
pub slice_snoc : (a i : ℕ) (l : List ℕ) → a ≤ i → i < length l → slice a (i + 1) l ≡ slice a i l ++ (get_or l i 0 ∷ [])
slice_snoc a i l h k =
    rw (add-one, take-suc l i 0 k) (drop-append-le a (take i l) (get_or l i 0 ∷ []) (omega (arith, length-take-le i l (omega arith))))

-- a cell is written at the slice's end
pub slice_push : (a i v : ℕ) (l : List ℕ) → a ≤ i → i < length l → slice a (i + 1) (set l i v) ≡ slice a i l ++ (v ∷ [])
slice_push a i v l h k =
    rw (add-one, take-suc-set l i v k) (drop-append-le a (take i l) (v ∷ []) (omega (arith, length-take-le i l (omega arith))))

-- or beside it
pub slice_apart : (a b i v : ℕ) (l : List ℕ) → (b ≤ i) ⊎ (i < a) → slice a b (set l i v) ≡ slice a b l
slice_apart a b i v l = ⊎_elim (λ h. ap (drop a) (take-set-le b l i v h)) (λ h. before h (dec_lt i b))
  where
    before : i < a → Dec (i < b) → slice a b (set l i v) ≡ slice a b l
    before h (yes k) = ap (drop a) (take-set-lt b l i v k) ∙ drop-set-lt a (take b l) i v h
    before h (no k) = ap (drop a) (take-set-le b l i v (omega arith))

-- a place of the slice is a place of the list
pub slice_at : (a b k : ℕ) (l : List ℕ) → a + k < b → get_or (slice a b l) k 0 ≡ get_or l (a + k) 0
slice_at a b k l h = get_or-drop a (take b l) k 0 ∙ get_or-take b l (a + k) 0 h

-- what stands at a place of a list stands in it, and back
pub occ_place : (l : List ℕ) (k : ℕ) → k < length l → 1 ≤ occ (get_or l k 0) l
unfolding occ
occ_place [] k h = absurd (omega arith)
occ_place (u ∷ l) zero h = omega (arith, occ_here u l)
occ_place (u ∷ l) (suc k) h = omega (arith, occ_place l k (omega arith))

pub place_occ : (v : ℕ) (l : List ℕ) → 1 ≤ occ v l → (k : ℕ) × (k < length l) × (get_or l k 0 ≡ v)
place_occ v [] m = absurd (omega (arith, occ_none v))
place_occ v (u ∷ l) m = go (ℕ_discrete u v) (place_occ v l)
  where
    go : Dec (u ≡ v) → (1 ≤ occ v l → (k : ℕ) × (k < length l) × (get_or l k 0 ≡ v)) → (k : ℕ) × (k < length (u ∷ l)) × (get_or (u ∷ l) k 0 ≡ v)
    go (yes e) ih = (0, omega arith, e)
    go (no e) ih = let r = ih (omega (arith, occ_there v u l e)) in (suc r.0, omega (arith, r.1), r.2)

-- laws of a count over a list
pub tally_append : (p : ℕ → Bool) (a b : List ℕ) → tally p (a ++ b) ≡ tally p a + tally p b
tally_append p [] b = omega arith
tally_append p (u ∷ a) b = omega (arith, tally_append p a b)

pub tally_all : (l : List ℕ) → tally (λ v. true) l ≡ length l
tally_all [] = refl
tally_all (u ∷ l) = omega (arith, tally_all l)

pub tally_most : (p : ℕ → Bool) (l : List ℕ) → tally p l ≤ length l
tally_most p [] = omega arith
tally_most p (u ∷ l) = omega (arith, tick_le (p u), tally_most p l)

pub tally_alike : (p q : ℕ → Bool) (l : List ℕ) → ((v : ℕ) → 1 ≤ occ v l → p v ≡ q v) → tally p l ≡ tally q l
tally_alike p q [] h = refl
tally_alike p q (u ∷ l) h = rw (h u (omega (arith, occ_here u l)), tally_alike p q l (λ v m. h v (omega (arith, occ_fewer v u l))))

pub tally_some : (p : ℕ → Bool) (l : List ℕ) (k : ℕ) → k < length l → p (get_or l k 0) ≡ true → 1 ≤ tally p l
tally_some p [] k h e = absurd (omega arith)
tally_some p (u ∷ l) zero h e = omega (arith, ap tick e)
tally_some p (u ∷ l) (suc k) h e = omega (arith, tally_some p l k (omega arith) e)
