-- A pass makes progress: until it has come to a cell of the least sum nothing is changed, and that cell is taken. The search ends with no listed cell that matters.
use mathlib.Core.Path.{◌≡◌, sym, ◌∙◌, ap, subst}
use mathlib.Core.Logic.{◌⊎◌, inl, inr, ⊎_elim}
use mathlib.Core.Bool.{true, not, ◌&&◌}
use mathlib.Core.List.{List}
use Prim.Native.Nat.{ℕ, ◌+◌, ◌-◌, ◌≤◌, ◌<◌, min}
use native.Mathlib.Decide.{ℕ_discrete, dec_lt}
use native.Mathlib.Omega.{arith}
use lib.Dec.{eqb, ltb, ltb→lt}
use lib.ListN.{length, get_or, take, drop}
use lib.Seq.{get_or-take, get_or-drop, length-take-le}
use Rattle.paths.specs.Graph.{MARK}
use Rattle.paths.specs.Below.{LeastOf}
use Rattle.paths.proofs.Below.{least_more}
use Rattle.paths.proofs.Bools.{T_and, true_T, not_eqb_ne}
use Rattle.settling.specs.Wave.{occ}
use Rattle.settling.specs.Spread.{SpreadEnds}
use Rattle.settling.proofs.Waves.{occ_none}
use Rattle.settling.proofs.Slices.{place_occ}
use Rattle.floor.specs.Place.{cells, place_of}
use Rattle.floor.specs.Step.{graph}
use Rattle.floor.specs.Estimate.{estimate}
use Rattle.floor.specs.Refusal.{HasPassed}
use Rattle.floor.proofs.Passing.{facts}
use Rattle.floor.proofs.Places.{place_near}
use Rattle.floor.proofs.Laws.{lawful}
use Rattle.spread.specs.declared.Aim.{Aim}
use Rattle.spread.specs.Listing.{total, Listing, CanAim, sum_at, CanLook, IsLeastSum, CanPass}
use Rattle.spread.proofs.Listings.{in_room, cell_at}

module _ (a : Aim) (costs₀ work₀ : List ℕ) (len top : ℕ) where
  -- of each cell of the list with a sum up to `top`: the pass has not come to it and nothing is changed, or the search has come nearer to its end
  abbrev pub Progress : List ℕ → List ℕ → ℕ → ℕ → Type 0
  Progress costs work end at =
      (p : ℕ) → p < len → sum_at a costs₀ (get_or work₀ p 0) ≤ top
      → ((at ≤ p) × (costs ≡ costs₀) × (work ≡ work₀) × (end ≡ len)) ⊎ (total costs + end < total costs₀ + len)

  module _ {costs work : List ℕ} {end at : ℕ} (x : Progress costs work end at) where
    pub progress_taken : {costs' work' : List ℕ} {end' : ℕ} → total costs' + end' < total costs + end → Progress costs' work' end' at
    progress_taken l p h low = inr (⊎_elim (λ s. omega (arith, l, ap total s.1, s.3)) (λ y. omega (arith, l)) (x p h low))

    pub progress_passed : top < sum_at a costs (get_or work at 0) → Progress costs work end (at + 1)
    progress_passed l p h low =
        ⊎_elim (λ s. inl (later s (ℕ_discrete at p), s.1, s.2, s.3)) inr (x p h low)
      where
        later : (at ≤ p) × (costs ≡ costs₀) × (work ≡ work₀) × (end ≡ len) → Dec (at ≡ p) → at + 1 ≤ p
        later s (yes e) = absurd (omega (arith, low, rw (s.1, s.2, e) at l))
        later s (no e) = omega (arith, s.0, e)

    pub progress_made : end ≤ at → (p : ℕ) → p < len → sum_at a costs₀ (get_or work₀ p 0) ≤ top → total costs + end < total costs₀ + len
    progress_made l p h low = ⊎_elim (λ s. absurd (omega (arith, s))) (λ y. y) (x p h low)

-- the least sum so far, and that of one cell more, which a loop over the list after its first cell has come to
pub least_next : (a : Aim) (costs listed : List ℕ) (i low sum low' : ℕ) → LeastOf (λ k. sum_at a costs (get_or listed k 0)) (i + 1) low
    → sum ≡ sum_at a costs (get_or (take (length listed - 1) (drop 1 listed)) i 0) → i < length listed - 1 → low' ≡ min low sum
    → LeastOf (λ k. sum_at a costs (get_or listed k 0)) (i + 1 + 1) low'
least_next a costs listed i low sum low' l e h m =
    let k : sum ≡ sum_at a costs (get_or listed (i + 1) 0) = e ∙ ap (sum_at a costs) (get_or-take (length listed - 1) (drop 1 listed) i 0 h ∙ get_or-drop 1 listed i 0 ∙ ap (λ (j : ℕ). get_or listed j 0) (omega arith)) in
    least_more (λ k. sum_at a costs (get_or listed k 0)) (i + 1) low low' l
    (elim (dec_lt sum low) [ yes s ↦ inl (omega (arith, k), omega (arith, k, m)) | no s ↦ inr (omega (arith, k), omega (arith, m)) ])

-- what an estimate needs
pub can_aim : (a : Aim) (m : List ℕ) → HasPassed a.floor m → a.goal < cells a.floor → a.place ≡ place_of a.floor a.goal → CanAim a
can_aim a m p h e = record { wide = (facts a.floor m p).map.wide; near = rw e (place_near (facts a.floor m p).map a.goal h) }

module _ (a : Aim) {m : List ℕ} {s : ℕ} {costs work : List ℕ} {len : ℕ} (x : Listing a.floor m s costs work len) where
  pub costs_fit : length costs ≤ MARK
  costs_fit = omega (arith, x.spread.covers, (lawful a.floor m x.passed).cells_fit)

  pub looked_at : (k : ℕ) → k < len → get_or work k 0 < length costs
  looked_at k h = omega (arith, cell_at x k h, x.spread.covers)

  pub can_look : CanAim a → 0 < len → (0 < length (take len work)) × CanLook a costs (take len work)
  can_look c some = (omega (arith, listed_length), record { aims = c; small = costs_fit; cell = cell_in })
    where
      listed_length : length (take len work) ≡ len
      listed_length = length-take-le len work (in_room x)

      cell_in : (k : ℕ) → k < length (take len work) → get_or (take len work) k 0 < length costs
      cell_in k h =
          let i : k < len = omega (arith, listed_length) in
          rw (get_or-take len work k 0 i) (looked_at k i)

  -- a pass up to a sum that the least is within
  pub can_pass : CanAim a → {least top : ℕ} → IsLeastSum a costs (take len work) least → least ≤ top → CanPass a m costs work len top
  can_pass c l h =
      let i : l.place < len = omega (arith, l.place_in, length-take-le len work (in_room x)) in
      record { s = s; here = x; aims = c; place = l.place; place_in = i; low = omega (arith, rw (get_or-take len work l.place 0 i) at l.there) }

  -- no cell is listed
  pub ends_empty : len ≡ 0 → SpreadEnds (graph a.floor m) s (estimate a.floor a.goal) a.goal costs
  ends_empty e = record {
    list = take len work;
    spread = x.spread;
    known = λ v l. absurd (none v l);
    beyond = λ v l. absurd (none v l);
  }
    where
      none : (v : ℕ) → 1 ≤ occ v (take len work) → ⊥
      none v l = omega (arith, occ_none v, rw e at l)

  -- the goal has a cost that is below the least sum
  module _ (e : a.place ≡ place_of a.floor a.goal) {least : ℕ} (l : IsLeastSum a costs (take len work) least)
      (over : true ≡ (not (eqb (get_or costs a.goal 0) MARK) && ltb (get_or costs a.goal 0) least)) where
    sum_is : (v : ℕ) → sum_at a costs v ≡ get_or costs v 0 + estimate a.floor a.goal v
    unfolding sum_at
    sum_is v = rw e

    least_listed : (v : ℕ) → 1 ≤ occ v (take len work) → least ≤ get_or costs v 0 + estimate a.floor a.goal v
    least_listed v o =
        let p = place_occ v (take len work) o in
        omega (arith, sum_is v, subst (λ (u : ℕ). least ≤ sum_at a costs u) p.2 (l.least p.0 p.1))

    pub ends_over : SpreadEnds (graph a.floor m) s (estimate a.floor a.goal) a.goal costs
    ends_over =
        let t = T_and (not (eqb (get_or costs a.goal 0) MARK)) (ltb (get_or costs a.goal 0) least) (true_T _ (sym over)) in
        record {
          list = take len work;
          spread = x.spread;
          known = λ v o. not_eqb_ne (get_or costs a.goal 0) MARK t.0;
          beyond = λ v o. omega (arith, least_listed v o, ltb→lt (get_or costs a.goal 0) least t.1);
        }
