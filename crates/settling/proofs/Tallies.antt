-- A count over a list is one over the cells, where the list has each cell that passes a test once and no other: sums of occurrences.
use mathlib.Core.Path.{◌≡◌, refl, sym, ◌∙◌, ap}
use mathlib.Core.Bool.{Bool, true, false, ◌&&◌}
use mathlib.Core.List.{List, [], ◌∷◌}
use Prim.Native.Nat.{ℕ, zero, suc, ◌+◌, ◌*◌, ◌≤◌, ◌<◌}
use native.Mathlib.Omega.{arith}
use native.Mathlib.Decide.{ℕ_discrete, dec_lt}
use native.Mathlib.Nat.{add-mul, zero-mul}
use borrow.Author.Tests.{eq-eqb, ne_eqb}
use lib.Dec.{eqb}
use Rattle.paths.specs.Below.{tick, count}
use Rattle.settling.specs.Cut.{tally}
use Rattle.settling.specs.Wave.{occ}
use Rattle.settling.proofs.Waves.{occ_here}

-- f 0 + .. + f (n - 1)
abbrev sum : (ℕ → ℕ) → ℕ → ℕ
sum f zero = 0
sum f (suc n) = f n + sum f n

sum_same : (f h : ℕ → ℕ) (n : ℕ) → ((v : ℕ) → v < n → f v ≡ h v) → sum f n ≡ sum h n
sum_same f h zero e = refl
sum_same f h (suc n) e = omega (arith, e n (omega arith), sum_same f h n (λ v k. e v (omega arith)))

sum_add : (f h : ℕ → ℕ) (n : ℕ) → sum (λ v. f v + h v) n ≡ sum f n + sum h n
sum_add f h zero = refl
sum_add f h (suc n) = omega (arith, sum_add f h n)

-- the one cell u of the sum
sum_one : (p : ℕ → ℕ) (u n : ℕ) → u < n → sum (λ v. tick (eqb u v) * p v) n ≡ p u
sum_one p u zero h = absurd (omega arith)
sum_one p u (suc n) h = go (ℕ_discrete u n) (sum_one p u n)
  where
    none : (m : ℕ) → m ≤ u → sum (λ v. tick (eqb u v) * p v) m ≡ 0
    none zero l = refl
    none (suc m) l = rw (ne_eqb u m (omega arith)) (omega (arith, none m (omega arith), zero-mul (p m)))

    go : Dec (u ≡ n) → (u < n → sum (λ v. tick (eqb u v) * p v) n ≡ p u) → sum (λ v. tick (eqb u v) * p v) (suc n) ≡ p u
    go (yes e) ih = rw (eq-eqb u n e) (omega (arith, none n (omega arith), ap p e))
    go (no e) ih = rw (ne_eqb u n e) (omega (arith, ih (omega arith), zero-mul (p n)))

-- a list's count, by the cells and how often each stands there
tally_sum : (p : ℕ → Bool) (n : ℕ) (l : List ℕ) → ((v : ℕ) → n ≤ v → occ v l ≡ 0) → tally p l ≡ sum (λ v. occ v l * tick (p v)) n
unfolding occ
tally_sum p n [] h = sym (zeros n)
  where
    zeros : (m : ℕ) → sum (λ v. occ v [] * tick (p v)) m ≡ 0
    zeros zero = refl
    zeros (suc m) = omega (arith, zeros m, zero-mul (tick (p m)))
tally_sum p n (u ∷ l) h =
    let ih = tally_sum p n l (λ v k. omega (arith, h v k)) in
    let a = sum_same (λ v. occ v (u ∷ l) * tick (p v)) (λ v. tick (eqb u v) * tick (p v) + occ v l * tick (p v)) n (λ v k. add-mul (tick (eqb u v)) (occ v l) (tick (p v))) in
    let b = sum_add (λ v. tick (eqb u v) * tick (p v)) (λ v. occ v l * tick (p v)) n in
    omega (arith, a, b, ih, sum_one (λ v. tick (p v)) u n (inside (dec_lt u n)))
  where
    inside : Dec (u < n) → u < n
    inside (yes i) = i
    inside (no i) = absurd (omega (arith, h u (omega arith), occ_here u l))

pub tally_count : (p q : ℕ → Bool) (n : ℕ) (l : List ℕ) → ((v : ℕ) → n ≤ v → occ v l ≡ 0) → ((v : ℕ) → v < n → occ v l ≡ tick (q v))
    → tally p l ≡ count (λ v. q v && p v) n
tally_count p q n l off on =
    tally_sum p n l off ∙ sum_same (λ v. occ v l * tick (p v)) (λ v. tick (q v && p v)) n (λ v h. rw (on v h) (both (q v) (p v))) ∙ counted n
  where
    both : (a b : Bool) → tick a * tick b ≡ tick (a && b)
    both true true = refl
    both true false = refl
    both false b = zero-mul (tick b)

    counted : (m : ℕ) → sum (λ v. tick (q v && p v)) m ≡ count (λ v. q v && p v) m
    counted zero = refl
    counted (suc m) = omega (arith, counted m)
