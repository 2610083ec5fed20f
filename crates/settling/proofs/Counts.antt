-- How many cells are below a bound and how many wait, each as a count over all cells; and costs below the bound are least costs, so they stay.
use mathlib.Core.Path.{◌≡◌, refl}
use mathlib.Core.Bool.{true, ◌&&◌}
use mathlib.Core.List.{List, [], ◌∷◌}
use Prim.Native.Nat.{ℕ, zero, suc, ◌≤◌, ◌<◌}
use native.Mathlib.Decide.{dec_lt}
use native.Mathlib.Omega.{arith}
use borrow.Author.Tests.{lt-ltb, le-ltb}
use lib.Dec.{ltb, ltb→lt, lt→ltb}
use lib.ListN.{length, get_or}
use Rattle.paths.specs.Below.{tick, count}
use Rattle.paths.specs.Graph.{Graph, Lawful}
use Rattle.settling.specs.Cut.{cheaper_than, cheaper_in}
use Rattle.settling.specs.Wave.{occ, Wave}
use Rattle.paths.proofs.Below.{count_le, count_same, count_strict}
use Rattle.paths.proofs.Bools.{T_and}
use Rattle.paths.proofs.Exists.{least_unique}
use Rattle.settling.proofs.Tallies.{tally_count}
use Rattle.settling.proofs.Waves.{below_least}
use Rattle.settling.proofs.Slices.{place_occ, tally_all, tally_alike, tally_some}

-- at most all cells are below a bound, and none is below 0
pub cheaper_most : (costs : List ℕ) (c : ℕ) → cheaper_than costs c ≤ length costs
unfolding cheaper_than
cheaper_most costs c = count_le (λ v. ltb (get_or costs v 0) c) (length costs)

pub cheaper_none : (costs : List ℕ) → cheaper_than costs 0 ≡ 0
unfolding cheaper_than
cheaper_none costs = none (length costs)
  where
    none : (n : ℕ) → count (λ v. ltb (get_or costs v 0) 0) n ≡ 0
    none zero = refl
    none (suc n) = rw (le-ltb (get_or costs n 0) 0 (omega arith)) (omega (arith, none n))

-- of the cells of a list the first is below the bound, or is not
module _ (costs : List ℕ) (c : ℕ) where
  pub in_none : cheaper_in costs [] c ≡ 0
  unfolding cheaper_in
  in_none = refl

  pub in_first : (u : ℕ) (us : List ℕ) → get_or costs u 0 < c → cheaper_in costs (u ∷ us) c ≡ suc (cheaper_in costs us c)
  unfolding cheaper_in
  in_first u us h = rw (lt-ltb (get_or costs u 0) c h) (omega arith)

  pub in_passed : (u : ℕ) (us : List ℕ) → c ≤ get_or costs u 0 → cheaper_in costs (u ∷ us) c ≡ cheaper_in costs us c
  unfolding cheaper_in
  in_passed u us h = rw (le-ltb (get_or costs u 0) c h) (omega arith)

  -- some are below it, if one that stands in the list is
  pub in_some : (u : ℕ) (us : List ℕ) → 1 ≤ occ u us → get_or costs u 0 < c → 1 ≤ cheaper_in costs us c
  unfolding cheaper_in
  in_some u us m h = let p = place_occ u us m in tally_some (λ v. ltb (get_or costs v 0) c) us p.0 p.1 (rw p.2 (lt-ltb (get_or costs u 0) c h))

-- a list in which each cell stands once at most, and nothing else: it is short where a cell does not stand there
pub room : (n : ℕ) (l : List ℕ) → ((v : ℕ) → v < n → occ v l ≤ 1) → ((v : ℕ) → n ≤ v → occ v l ≡ 0) → (v : ℕ) → v < n → occ v l ≡ 0 → length l < n
room n l once off v h e =
    let c = count_strict (λ v. ltb 0 (occ v l) && true) (λ v. true) n (λ v h t. tt) v h
    (λ t. let p = ltb→lt 0 (occ v l) (T_and (ltb 0 (occ v l)) true t).0 in omega arith) tt in
    omega (arith, tally_all l, tally_count (λ v. true) (λ v. ltb 0 (occ v l)) n l off (λ v h. tick_once (occ v l) (once v h)), c, count_le (λ v. true) n)
  where
    tick_once : (n : ℕ) → n ≤ 1 → n ≡ tick (ltb 0 n)
    tick_once zero l = refl
    tick_once (suc zero) l = refl
    tick_once (suc (suc n)) l = absurd (omega arith)

-- so there is room for one more where a cell does not wait for a later band
module _ {g : Graph} {least s : ℕ} {costs : List ℕ} {bound : ℕ} {waiting later : List ℕ} (w : Wave g least s costs bound waiting later) where
  pub later_room : (v : ℕ) → v < g.cells → occ v later ≡ 0 → length later < g.cells
  later_room = room g.cells later (λ v h. once v h (dec_lt (get_or costs v 0) bound)) (λ v h. omega (arith, w.inside v h))
    where
      once : (v : ℕ) → v < g.cells → Dec (get_or costs v 0 < bound) → occ v later ≤ 1
      once v h (yes b) = omega (arith, w.passed v h b)
      once v h (no b) = omega (arith, w.listed v h (omega arith))

module _ {g : Graph} {least most : ℕ} (law : Lawful g least most) (s : ℕ) {bound : ℕ} where
  -- costs below the bound stay what they are
  pub below_same : {costs costs' waiting waiting' later later' : List ℕ} → Wave g least s costs bound waiting later → Wave g least s costs' bound waiting' later'
      → (v : ℕ) → v < g.cells → get_or costs v 0 < bound → get_or costs' v 0 ≡ get_or costs v 0
  below_same {costs} {costs'} w w' v h b =
      let l = below_least law s w v h b in
      let r = w'.reach v l.way l.route (omega (arith, l.costs)) in
      least_unique g s v (get_or costs' v 0) (get_or costs v 0) (below_least law s w' v h (omega (arith, l.costs))) l

  pub cheaper_same : {costs costs' waiting waiting' later later' : List ℕ} → Wave g least s costs bound waiting later → Wave g least s costs' bound waiting' later'
      → cheaper_than costs' bound ≡ cheaper_than costs bound
  unfolding cheaper_than
  cheaper_same {costs} {costs'} w w' =
      rw (w.covers, w'.covers)
      (count_same (λ v. ltb (get_or costs' v 0) bound) (λ v. ltb (get_or costs v 0) bound) g.cells
      (λ v h t. let b = ltb→lt (get_or costs' v 0) bound t in lt→ltb (get_or costs v 0) bound (omega (arith, below_same w' w v h b)))
      (λ v h t. let b = ltb→lt (get_or costs v 0) bound t in lt→ltb (get_or costs' v 0) bound (omega (arith, below_same w w' v h b))))

  -- and so do those of the band that are still to be settled
  pub in_same : {costs costs' waiting later waiting' later' : List ℕ} → Wave g least s costs bound waiting later → Wave g least s costs' bound waiting' later'
      → cheaper_in costs' waiting bound ≡ cheaper_in costs waiting bound
  unfolding cheaper_in
  in_same {costs} {costs'} {waiting} w w' =
      tally_alike (λ v. ltb (get_or costs' v 0) bound) (λ v. ltb (get_or costs v 0) bound) waiting
      (λ v m. go v m (dec_lt v g.cells) (dec_lt (get_or costs v 0) bound) (dec_lt (get_or costs' v 0) bound))
    where
      go : (v : ℕ) → 1 ≤ occ v waiting → Dec (v < g.cells) → Dec (get_or costs v 0 < bound) → Dec (get_or costs' v 0 < bound)
          → ltb (get_or costs' v 0) bound ≡ ltb (get_or costs v 0) bound
      go v m (no h) a b = absurd (omega (arith, w.inside v (omega arith)))
      go v m (yes h) (yes a) b = rw (below_same w w' v h a)
      go v m (yes h) (no a) (yes b) = rw (below_same w' w v h b)
      go v m (yes h) (no a) (no b) = rw (le-ltb (get_or costs v 0) bound (omega arith), le-ltb (get_or costs' v 0) bound (omega arith))
