-- The list in the work room: a cell joins at its end, a cell leaves and the last takes its place; flags and occurrences change alike, cell by cell.
use mathlib.Core.Path.{◌≡◌, sym, ◌∙◌, ap}
use mathlib.Core.List.{List, [], ◌∷◌, ◌++◌}
use Prim.Native.Nat.{ℕ, suc, ◌+◌, ◌-◌, ◌<◌}
use native.Mathlib.Decide.{ℕ_discrete, dec_lt}
use native.Mathlib.Numerals.{add-one}
use native.Mathlib.Omega.{arith}
use lib.ListN.{length, get_or, set, take, length-set}
use lib.Seq.{get_or-set_same, get_or-set_other, get_or-take, take-suc, take-suc-set, take-set-le, take-set-lt, length-take-le}
use Rattle.settling.specs.Wave.{occ}
use Rattle.settling.proofs.Waves.{occ_append, occ_here, occ_there, occ_none, occ_snoc}
use Rattle.settling.proofs.Spreads.{occ_taken}
use Rattle.spread.specs.Listing.{Listed, taken}

module _ {n : ℕ} {work : List ℕ} {len : ℕ} (w : Listed n work len) where
  -- cell v joins
  module _ (v : ℕ) (inside : v < n) (new : occ v (take len work) ≡ 0) (room : len < n) where
    abbrev joined : List ℕ
    joined = set (set work (n + v) 1) len v

    pub joined_list : take (len + 1) joined ≡ take len work ++ (v ∷ [])
    joined_list =
        let fits : len < length (set work (n + v) 1) = omega (arith, length-set work (n + v) 1, w.double) in
        rw (add-one len, take-suc-set (set work (n + v) 1) len v fits, take-set-le len work (n + v) 1 (omega arith))

    pub joined_listed : Listed n joined (len + 1)
    joined_listed = record {
      double = length-set (set work (n + v) 1) len v ∙ length-set work (n + v) 1 ∙ w.double;
      few = omega arith;
      flags = λ u h. rw joined_list (flag u h (ℕ_discrete u v));
    }
      where
        beside : (u : ℕ) → get_or joined (n + u) 0 ≡ get_or (set work (n + v) 1) (n + u) 0
        beside u = get_or-set_other (set work (n + v) 1) len (n + u) v 0 (omega arith)

        flag : (u : ℕ) → u < n → Dec (u ≡ v) → get_or joined (n + u) 0 ≡ occ u (take len work ++ (v ∷ []))
        flag u h (yes e) = rw e (omega (arith, beside v, get_or-set_same work (n + v) 1 0 (omega (arith, w.double)), occ_snoc v v (take len work), occ_here v [], occ_none v))
        flag u h (no e) =
            omega (arith, beside u, get_or-set_other work (n + v) (n + u) 1 0 (omega (arith, e)), w.flags u h, occ_snoc u v (take len work), occ_there u v [] (λ z. e (sym z)), occ_none u)

  -- the cell at place `at` leaves
  module _ (at : ℕ) (before : at < len) where
    abbrev cell : ℕ
    cell = get_or work at 0

    abbrev left : List ℕ
    left = taken n work len at

    whole : take len work ≡ take (len - 1) work ++ (get_or work (len - 1) 0 ∷ [])
    whole =
        let e : len ≡ suc (len - 1) = omega arith in
        ap (λ (k : ℕ). take k work) e ∙ take-suc work (len - 1) 0 (omega (arith, w.double, w.few))

    pub left_list : (v : ℕ) → occ v (cell ∷ take (len - 1) left) ≡ occ v (take len work)
    left_list v =
        let e = take-set-le (len - 1) (set work at (get_or work (len - 1) 0)) (n + cell) 0 (omega (arith, w.few)) in
        rw (e, whole) (go (dec_lt at (len - 1)))
      where
        go : Dec (at < len - 1) → occ v (cell ∷ take (len - 1) (set work at (get_or work (len - 1) 0))) ≡ occ v (take (len - 1) work ++ (get_or work (len - 1) 0 ∷ []))
        go (yes h) =
            let last = get_or work (len - 1) 0 in
            let short = length-take-le (len - 1) work (omega (arith, w.double, w.few)) in
            rw (take-set-lt (len - 1) work at last h)
            (omega (
              arith,
              occ_append v (cell ∷ []) (set (take (len - 1) work) at last),
              rw (get_or-take (len - 1) work at 0 h) at (occ_taken v (take (len - 1) work) last at (omega (arith, short))),
            ))
        go (no h) =
            let e : at ≡ len - 1 = omega arith in
            rw (take-set-le (len - 1) work at (get_or work (len - 1) 0) (omega arith), ← e)
            (omega (arith, occ_append v (cell ∷ []) (take at work), occ_snoc v cell (take at work)))

    pub left_listed : cell < n → occ cell (take len work) ≡ 1 → Listed n left (len - 1)
    left_listed inside once = record {
      double = length-set (set work at (get_or work (len - 1) 0)) (n + cell) 0 ∙ length-set work at (get_or work (len - 1) 0) ∙ w.double;
      few = omega (arith, w.few);
      flags = λ v h. flag v h (ℕ_discrete v cell);
    }
      where
        long : n + cell < length (set work at (get_or work (len - 1) 0))
        long = omega (arith, length-set work at (get_or work (len - 1) 0), w.double)

        flag : (v : ℕ) → v < n → Dec (v ≡ cell) → get_or left (n + v) 0 ≡ occ v (take (len - 1) left)
        flag v h (yes e) =
            rw e (omega (arith, get_or-set_same (set work at (get_or work (len - 1) 0)) (n + cell) 0 0 long, left_list cell, once, occ_here cell (take (len - 1) left)))
        flag v h (no e) =
            omega (
              arith,
              get_or-set_other (set work at (get_or work (len - 1) 0)) (n + cell) (n + v) 0 0 (omega (arith, e)),
              get_or-set_other work at (n + v) (get_or work (len - 1) 0) 0 (omega (arith, w.few)),
              w.flags v h,
              left_list v,
              occ_there v cell (take (len - 1) left) (λ z. e (sym z)),
            )
