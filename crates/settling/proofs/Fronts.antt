-- Counts over all cells, from the settled count and the list of open cells: between two bands each open cell is listed once, and no other.
use mathlib.Core.Path.{◌≡◌, refl, sym, ◌∙◌, ap}
use mathlib.Core.Bool.{Bool, ◌&&◌}
use mathlib.Core.List.{List, []}
use Prim.Native.Nat.{ℕ, zero, suc, ◌+◌, ◌*◌, ◌≤◌, ◌<◌}
use native.Mathlib.Omega.{arith}
use native.Mathlib.Decide.{ℕ_discrete, dec_lt}
use borrow.Author.Tests.{lt-ltb, le-ltb, le-leb, lt-leb, eq-eqb, ne_eqb}
use lib.Dec.{T, leb, ltb, ltb→lt, lt→ltb}
use lib.ListN.{length, get_or}
use Rattle.paths.specs.Below.{tick, count}
use Rattle.paths.specs.Graph.{Graph, MARK}
use Rattle.settling.specs.Order.{key, known}
use Rattle.settling.specs.Wave.{occ, Wave}
use Rattle.settling.specs.Cut.{tally, cheaper_than, rank}
use Rattle.paths.proofs.Bools.{T_true, not_T_false}
use Rattle.settling.proofs.Waves.{mark_is, mark_not, occ_none}
use Rattle.settling.proofs.Tallies.{tally_count}

count_add : (p a b : ℕ → Bool) (n : ℕ) → ((v : ℕ) → v < n → tick (p v) ≡ tick (a v) + tick (b v)) → count p n ≡ count a n + count b n
count_add p a b zero h = refl
count_add p a b (suc n) h = omega (arith, h n (omega arith), count_add p a b n (λ v k. h v (omega arith)))

module _ {g : Graph} {least s : ℕ} {costs : List ℕ} {bound : ℕ} {later : List ℕ} (w : Wave g least s costs bound [] later) where
  -- an open cell: from the bound on, with a cost
  abbrev is_open : ℕ → Bool
  is_open v = leb bound (get_or costs v 0) && known costs v

  listed_once : (v : ℕ) → v < g.cells → occ v later ≡ tick (is_open v)
  unfolding known
  listed_once v h = go (dec_lt (get_or costs v 0) bound) (ℕ_discrete (get_or costs v 0) MARK)
    where
      go : Dec (get_or costs v 0 < bound) → Dec (get_or costs v 0 ≡ MARK) → occ v later ≡ tick (is_open v)
      go (yes b) m = rw (lt-leb bound (get_or costs v 0) b) (w.passed v h b)
      go (no b) (yes m) =
          rw (le-leb bound (get_or costs v 0) (omega arith), eq-eqb (get_or costs v 0) MARK m)
          (omega (arith, w.listed v h (omega arith), mark_is (get_or costs v 0) m))
      go (no b) (no m) =
          rw (le-leb bound (get_or costs v 0) (omega arith), ne_eqb (get_or costs v 0) MARK m)
          (omega (arith, w.listed v h (omega arith), mark_not (get_or costs v 0) m, occ_none v))

  -- a test that every settled cell passes, and none without a cost
  pub front_count : (p : ℕ → Bool) → ((v : ℕ) → v < g.cells → get_or costs v 0 < bound → T (p v))
      → ((v : ℕ) → v < g.cells → get_or costs v 0 ≡ MARK → T (p v) → ⊥) → count p (length costs) ≡ cheaper_than costs bound + tally p later
  unfolding cheaper_than known
  front_count p yes-below no-mark = rw w.covers
      (count_add p (λ v. ltb (get_or costs v 0) bound) (λ v. is_open v && p v) g.cells (λ v h. go v h (dec_lt (get_or costs v 0) bound) (ℕ_discrete (get_or costs v 0) MARK))
      ∙ ap (λ (x : ℕ). count (λ v. ltb (get_or costs v 0) bound) g.cells + x)
      (sym (tally_count p is_open g.cells later (λ v h. omega (arith, w.inside v h)) listed_once)))
    where
      go : (v : ℕ) → v < g.cells → Dec (get_or costs v 0 < bound) → Dec (get_or costs v 0 ≡ MARK)
          → tick (p v) ≡ tick (ltb (get_or costs v 0) bound) + tick (is_open v && p v)
      go v h (yes b) m = rw (lt-ltb (get_or costs v 0) bound b, lt-leb bound (get_or costs v 0) b) (ap tick (T_true (p v) (yes-below v h b)))
      go v h (no b) (yes m) =
          rw (le-ltb (get_or costs v 0) bound (omega arith), le-leb bound (get_or costs v 0) (omega arith), eq-eqb (get_or costs v 0) MARK m)
          (ap tick (not_T_false (p v) (no-mark v h m)))
      go v h (no b) (no m) = rw (le-ltb (get_or costs v 0) bound (omega arith), le-leb bound (get_or costs v 0) (omega arith), ne_eqb (get_or costs v 0) MARK m) (omega arith)

  -- below a higher bound: the settled cells, and the open ones there
  pub front_cheaper : (c : ℕ) → bound ≤ c → c ≤ MARK → cheaper_than costs c ≡ cheaper_than costs bound + tally (λ v. ltb (get_or costs v 0) c) later
  unfolding cheaper_than
  front_cheaper c b t = front_count (λ v. ltb (get_or costs v 0) c)
      (λ v h l. lt→ltb (get_or costs v 0) c (omega arith)) (λ v h e l. let k = ltb→lt (get_or costs v 0) c l in omega arith)

  -- before a key that is no settled cell's
  pub front_rank : (k : ℕ) → bound * 4294967296 ≤ k → k ≤ MARK * 4294967296 → g.cells ≤ MARK
      → rank costs k ≡ cheaper_than costs bound + tally (λ v. ltb (key costs v) k) later
  unfolding rank key
  front_rank k b t f = front_count (λ v. ltb (key costs v) k)
      (λ v h l. lt→ltb (key costs v) k (omega arith)) (λ v h e l. let q = ltb→lt (key costs v) k l in omega arith)
