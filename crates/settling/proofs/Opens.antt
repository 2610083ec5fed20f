-- The least cost of the open cells, as a band's cells are looked at: one cell is counted at its cost, or is taken off the band uncounted. Witness by witness.
use mathlib.Core.Path.{◌≡◌, refl, sym, ap}
use mathlib.Core.Logic.{◌≢◌, inl, inr}
use mathlib.Core.List.{List, [], ◌∷◌, ◌++◌}
use Prim.Native.Nat.{ℕ, ◌+◌, ◌≤◌, ◌<◌}
use native.Mathlib.Decide.{ℕ_discrete}
use native.Mathlib.Omega.{arith}
use lib.Dec.{T}
use lib.ListN.{get_or}
use lib.Seq.{get_or-set_same, get_or-set_other}
use Rattle.paths.specs.Graph.{Graph, Lawful, MARK}
use Rattle.settling.specs.Wave.{occ, Wave, IsSmaller, LeastOpen}
use Rattle.settling.proofs.Waves.{mark_not, occ_none, occ_here, occ_there, occ_snoc, fallen, waits}

-- none is counted
pub least_none : (costs : List ℕ) (bound : ℕ) (waiting : List ℕ) → LeastOpen costs bound waiting [] MARK
least_none costs bound waiting = record { counted = λ v m. absurd (omega (arith, occ_none v)); whose = λ n. absurd (n refl) }

-- the start alone is open
pub least_start : (costs : List ℕ) (s : ℕ) → get_or costs s 0 ≡ 0 → LeastOpen costs 0 [] (s ∷ []) 0
least_start costs s o = record { counted = λ v m. omega arith; whose = λ n. (s, omega (arith, occ_here s []), omega arith, o) }

-- cell t is counted at its cost c, to which that may have fallen; the other cells are as they were
pub least_counts : {costs costs' : List ℕ} {bound : ℕ} {waiting later waiting' later' : List ℕ} {low low' : ℕ} (t c : ℕ)
    → LeastOpen costs bound waiting later low
    → ((v : ℕ) → t ≢ v → (get_or costs' v 0 ≡ get_or costs v 0) × (occ v waiting' ≡ occ v waiting) × (occ v later' ≡ occ v later))
    → get_or costs' t 0 ≡ c → c ≤ get_or costs t 0 → bound ≤ c → 1 ≤ occ t waiting' + occ t later' → IsSmaller low c low'
    → LeastOpen costs' bound waiting' later' low'
least_counts {costs} {costs'} {bound} {waiting} {later} {waiting'} {later'} {low} {low'} t c x same is falls reaches listed low-is =
    record { counted = λ v m. counted v m low-is (ℕ_discrete t v); whose = λ n. whose low-is n }
  where
    counted : (v : ℕ) → 1 ≤ occ v later' → IsSmaller low c low' → Dec (t ≡ v) → low' ≤ get_or costs' v 0
    counted v m (inl l) (yes e) = omega (arith, l, is, ap (λ (u : ℕ). get_or costs' u 0) e)
    counted v m (inr l) (yes e) = omega (arith, l, is, ap (λ (u : ℕ). get_or costs' u 0) e)
    counted v m (inl l) (no e) = omega (arith, l, same v e, x.counted v (omega (arith, same v e)))
    counted v m (inr l) (no e) = omega (arith, l, same v e, x.counted v (omega (arith, same v e)))

    whose : IsSmaller low c low' → low' ≢ MARK → (v : ℕ) × (1 ≤ occ v waiting' + occ v later') × (bound ≤ get_or costs' v 0) × (get_or costs' v 0 ≡ low')
    whose (inl l) n = (t, listed, omega (arith, is), omega (arith, is, l))
    whose (inr l) n = let y = x.whose (omega (arith, l)) in go y.0 y.1 y.2 y.3 (ℕ_discrete t y.0)
      where
        go : (v : ℕ) → 1 ≤ occ v waiting + occ v later → bound ≤ get_or costs v 0 → get_or costs v 0 ≡ low → Dec (t ≡ v)
            → (v : ℕ) × (1 ≤ occ v waiting' + occ v later') × (bound ≤ get_or costs' v 0) × (get_or costs' v 0 ≡ low')
        go v m b z (yes e) = (t, listed, omega (arith, is), omega (arith, is, l, ap (λ (u : ℕ). get_or costs u 0) e))
        go v m b z (no e) = (v, omega (arith, same v e), omega (arith, same v e), omega (arith, same v e, l))

module _ {g : Graph} {least most : ℕ} (law : Lawful g least most) (s : ℕ) where
  -- a step's offer is taken, and counted
  pub fall_counts : {costs : List ℕ} {bound : ℕ} {waiting later later' : List ℕ} {low low' : ℕ} (u d : ℕ) → T (g.allowed u d)
      → bound ≤ get_or costs u 0 + least → get_or costs u 0 + g.cost u d < get_or costs (g.to u d) 0 → Wave g least s costs bound waiting later
      → Wave g least s (fallen g costs u d) bound waiting later' → ((v : ℕ) → g.to u d ≢ v → occ v later' ≡ occ v later)
      → LeastOpen costs bound waiting later low → IsSmaller low (get_or costs u 0 + g.cost u d) low' → LeastOpen (fallen g costs u d) bound waiting later' low'
  fall_counts {costs} {bound} u d k reaches falls w w' same x low-is =
      let t = g.to u d in
      let c = get_or costs u 0 + g.cost u d in
      let i : get_or (fallen g costs u d) t 0 ≡ c = get_or-set_same costs t c 0 (omega (arith, law.enters u d k, w.covers)) in
      let b : bound ≤ c = omega (arith, law.at_least u d k) in
      let m = mark_not (get_or (fallen g costs u d) t 0) (omega (arith, i, w.small t)) in
      least_counts t c x (λ v e. (get_or-set_other costs t v c 0 (λ z. e (sym z)), refl, same v e)) i (omega arith) b
      (omega (arith, m, w'.listed t (law.enters u d k) (omega (arith, i)))) low-is

  -- the next cell u of the band is settled, and was not counted; or it waits for a later band, and is
  module _ {costs : List ℕ} {bound u low : ℕ} {rest later : List ℕ} (x : LeastOpen costs bound (u ∷ rest) later low) where
    pub done_counts : get_or costs u 0 < bound → LeastOpen costs bound rest later low
    done_counts b = record {
      counted = x.counted;
      whose = λ n. let y = x.whose n in
          (y.0, omega (arith, y.1, occ_there y.0 u rest (λ e. absurd (omega (arith, y.2, ap (λ (v : ℕ). get_or costs v 0) e)))), y.2, y.3);
    }

    pub kept_counts : {low' : ℕ} → bound ≤ get_or costs u 0 → IsSmaller low (get_or costs u 0) low' → LeastOpen costs bound rest (later ++ (u ∷ [])) low'
    kept_counts b low-is =
        least_counts u (get_or costs u 0) x
        (λ v e. (refl, sym (occ_there v u rest e), omega (arith, occ_snoc v u later, occ_there v u [] e, occ_none v)))
        refl (omega arith) b (omega (arith, occ_snoc u u later, occ_here u [])) low-is

  -- between two bands: where a cell is open, some open cell has the least cost
  pub least_has : {costs : List ℕ} {bound low : ℕ} {later : List ℕ} → Wave g least s costs bound [] later → LeastOpen costs bound [] later low
      → (v : ℕ) → 1 ≤ occ v later → (u : ℕ) × (1 ≤ occ u later) × (get_or costs u 0 ≡ low)
  least_has w x v m =
      let y = x.whose (omega (arith, (waits law s w v m).2, w.small v, x.counted v m)) in
      (y.0, omega (arith, y.1, occ_none y.0), y.3)
