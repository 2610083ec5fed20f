-- Laws of count, lowest, every and values, each by induction on the bound; and the least value so far, one value at a time.
use mathlib.Core.Path.{◌≡◌, refl, sym, ◌∙◌, ap, subst}
use mathlib.Core.Logic.{◌≢◌, ◌⊎◌, inl, inr}
use mathlib.Core.Bool.{Bool, true, false, cond, not}
use mathlib.Core.List.{[], ◌∷◌}
use Prim.Native.Nat.{ℕ, zero, suc, ◌+◌, ◌≤◌, ◌<◌}
use native.Mathlib.Omega.{arith}
use native.Mathlib.Decide.{ℕ_discrete, dec_lt}
use native.Mathlib.Nat.{le_antisymm}
use borrow.Author.Count.{below_more}
use lib.Dec.{T, ltb, ltb→lt, nltb→le, T_not}
use lib.ListN.{length, get_or, length-append, get_or-append}
use lib.Seq.{get_or_at}
use Rattle.paths.specs.Below.{tick, count, lowest, every, values, LeastOf}
use Rattle.paths.proofs.Bools.{T_true, not_T_false, dec_T, T_and, by_cond}

pub tick_le : (a : Bool) → tick a ≤ 1
tick_le true = omega arith
tick_le false = omega arith

tick_mono : (a b : Bool) → (T a → T b) → tick a ≤ tick b
tick_mono true true h = omega arith
tick_mono true false h = absurd (h tt)
tick_mono false true h = omega arith
tick_mono false false h = omega arith

tick_strict : (a b : Bool) → (T a → ⊥) → T b → tick a < tick b
tick_strict true b h k = absurd (h tt)
tick_strict false true h k = omega arith
tick_strict false false h k = absurd k

pub count_le : (p : ℕ → Bool) (n : ℕ) → count p n ≤ n
count_le p zero = omega arith
count_le p (suc n) = omega (arith, tick_le (p n), count_le p n)

pub count_mono : (p q : ℕ → Bool) (n : ℕ) → ((v : ℕ) → v < n → T (p v) → T (q v)) → count p n ≤ count q n
count_mono p q zero h = omega arith
count_mono p q (suc n) h =
    omega (arith, tick_mono (p n) (q n) (h n (omega arith)), count_mono p q n (λ v k. h v (omega arith)))

pub count_same : (p q : ℕ → Bool) (n : ℕ) → ((v : ℕ) → v < n → T (p v) → T (q v)) → ((v : ℕ) → v < n → T (q v) → T (p v)) → count p n ≡ count q n
count_same p q n f g = le_antisymm (count_mono p q n f) (count_mono q p n g)

-- one number passes q that does not pass p
pub count_strict : (p q : ℕ → Bool) (n : ℕ) → ((v : ℕ) → v < n → T (p v) → T (q v)) → (w : ℕ) → w < n → (T (p w) → ⊥) → T (q w) → count p n < count q n
count_strict p q zero h w k a b = omega arith
count_strict p q (suc n) h w k a b =
    go (ℕ_discrete w n) (λ l. count_strict p q n (λ v k. h v (omega arith)) w l a b)
  where
    go : Dec (w ≡ n) → (w < n → count p n < count q n) → count p (suc n) < count q (suc n)
    go (yes e) ih = omega (arith, tick_strict (p n) (q n) (rw e at a) (rw e at b), count_mono p q n (λ v k. h v (omega arith)))
    go (no e) ih = omega (arith, tick_mono (p n) (q n) (h n (omega arith)), ih (omega arith))

-- at most one number passes q that does not pass p
pub count_one_more : (p q : ℕ → Bool) (u n : ℕ) → ((v : ℕ) → v < n → v ≢ u → T (q v) → T (p v)) → count q n ≤ suc (count p n)
count_one_more p q u zero h = omega arith
count_one_more p q u (suc n) h = go (ℕ_discrete n u) (count_one_more p q u n (λ v k. h v (omega arith)))
  where
    go : Dec (n ≡ u) → count q n ≤ suc (count p n) → count q (suc n) ≤ suc (count p (suc n))
    go (yes e) ih = omega (arith, tick_le (q n), count_mono q p n (λ v k t. h v (omega arith) (omega arith) t))
    go (no e) ih = omega (arith, ih, tick_mono (q n) (p n) (h n (omega arith) e))

-- where more pass q than p, some number passes q and not p
pub count_gap : (p q : ℕ → Bool) (n : ℕ) → count p n < count q n → (u : ℕ) × (u < n) × T (q u) × (T (p u) → ⊥)
count_gap p q zero h = absurd (omega arith)
count_gap p q (suc n) h = go (dec_T (q n)) (dec_T (p n)) (count_gap p q n)
  where
    further : (count p n < count q n → (u : ℕ) × (u < n) × T (q u) × (T (p u) → ⊥)) → count p n < count q n
        → (u : ℕ) × (u < suc n) × T (q u) × (T (p u) → ⊥)
    further ih l = let r = ih l in (r.0, omega (arith, r.1), r.2, r.3)

    go : Dec (T (q n)) → Dec (T (p n)) → (count p n < count q n → (u : ℕ) × (u < n) × T (q u) × (T (p u) → ⊥))
        → (u : ℕ) × (u < suc n) × T (q u) × (T (p u) → ⊥)
    go (yes a) (no b) ih = (n, omega arith, a, b)
    go (yes a) (yes b) ih = further ih (omega (arith, h, ap tick (T_true (q n) a), ap tick (T_true (p n) b)))
    go (no a) b ih = further ih (omega (arith, h, ap tick (not_T_false (q n) a)))

-- what `lowest` gives
pub record Lowest (p : ℕ → Bool) (n x : ℕ) : Type 0 where
  pub small : x ≤ n
  pub passes : x < n → T (p x)
  pub minimal : (d : ℕ) → d < n → T (p d) → x ≤ d

pub lowest_is : (p : ℕ → Bool) (n : ℕ) → Lowest p n (lowest p n)
lowest_is p zero = record { small = omega arith; passes = λ h. absurd (omega arith); minimal = λ d h k. omega arith }
lowest_is p (suc n) =
    let ih = lowest_is p n in
    let r = lowest p n in
    by_cond (λ x. Lowest p (suc n) x) (ltb r n) r (cond (p n) n (suc n))
    (λ c. let l = ltb→lt r n c in record { small = omega arith; passes = λ h. ih.passes l; minimal = λ d h k. below ih r (omega arith) (omega arith) d h k (ℕ_discrete d n) })
    (λ c. let l = nltb→le r n c in
    by_cond (λ x. Lowest p (suc n) x) (p n) n (suc n)
    (λ b. record { small = omega arith; passes = λ h. b; minimal = λ d h k. below ih n (omega arith) l d h k (ℕ_discrete d n) })
    (λ b. record { small = omega arith; passes = λ h. absurd (omega arith); minimal = λ d h k. nowhere ih l b d h k (ℕ_discrete d n) }))
  where
    below : Lowest p n (lowest p n) → (x : ℕ) → x ≤ n → x ≤ lowest p n → (d : ℕ) → d < suc n → T (p d) → Dec (d ≡ n) → x ≤ d
    below ih x l l' d h k (yes e) = omega arith
    below ih x l l' d h k (no e) = omega (arith, ih.minimal d (omega arith) k)

    nowhere : Lowest p n (lowest p n) → n ≤ lowest p n → T (not (p n)) → (d : ℕ) → d < suc n → T (p d) → Dec (d ≡ n) → suc n ≤ d
    nowhere ih l b d h k (yes e) = absurd (T_not (p n) b (rw e at k))
    nowhere ih l b d h k (no e) = absurd (omega (arith, ih.minimal d (omega arith) k))

-- `lowest` gives the bound exactly when no number below it passes the test
pub lowest_none : (p : ℕ → Bool) (n : ℕ) → ((v : ℕ) → v < n → T (p v) → ⊥) → lowest p n ≡ n
lowest_none p n never =
    let l = lowest_is p n in
    elim (dec_lt (lowest p n) n) [
      | yes h ↦ absurd (never (lowest p n) h (l.passes h))
      | no h ↦ omega (arith, l.small)
    ]

pub none_passes : (p : ℕ → Bool) (n : ℕ) → lowest p n ≡ n → (v : ℕ) → v < n → T (not (p v))
none_passes p n e v h =
    elim (dec_T (p v)) [
      | yes k ↦ absurd (omega (arith, (lowest_is p n).minimal v h k))
      | no k ↦ rw (not_T_false (p v) k) tt
    ]

-- two tests that agree have the same lowest
pub lowest_same : (p q : ℕ → Bool) (n : ℕ) → ((v : ℕ) → v < n → T (p v) → T (q v)) → ((v : ℕ) → v < n → T (q v) → T (p v)) → lowest p n ≡ lowest q n
lowest_same p q n f h = le_antisymm (lower p q (lowest_is p n) (lowest_is q n) h) (lower q p (lowest_is q n) (lowest_is p n) f)
  where
    lower : (a b : ℕ → Bool) → Lowest a n (lowest a n) → Lowest b n (lowest b n) → ((v : ℕ) → v < n → T (b v) → T (a v)) → lowest a n ≤ lowest b n
    lower a b x y k = go (dec_lt (lowest b n) n)
      where
        go : Dec (lowest b n < n) → lowest a n ≤ lowest b n
        go (yes l) = x.minimal (lowest b n) l (k (lowest b n) l (y.passes l))
        go (no l) = omega (arith, x.small)

-- the two steps of a loop that looks for the lowest: nothing below i passes, and i does not, or i does
pub lowest_next : (p : ℕ → Bool) (i : ℕ) → lowest p i ≡ i → (T (p i) → ⊥) → lowest p (suc i) ≡ suc i
lowest_next p i e h =
    let x = lowest_is p (suc i) in
    go x (ℕ_discrete (lowest p (suc i)) (suc i))
  where
    go : Lowest p (suc i) (lowest p (suc i)) → Dec (lowest p (suc i) ≡ suc i) → lowest p (suc i) ≡ suc i
    go x (yes z) = z
    go x (no z) = again (ℕ_discrete (lowest p (suc i)) i) (x.passes (omega (arith, x.small)))
      where
        again : Dec (lowest p (suc i) ≡ i) → T (p (lowest p (suc i))) → lowest p (suc i) ≡ suc i
        again (yes y) t = absurd (h (subst (λ (w : ℕ). T (p w)) y t))
        again (no y) t = absurd (omega (arith, (lowest_is p i).minimal (lowest p (suc i)) (omega (arith, x.small)) t))

pub lowest_found : (p : ℕ → Bool) (i n : ℕ) → lowest p i ≡ i → T (p i) → i < n → lowest p n ≡ i
lowest_found p i n e h l =
    let x = lowest_is p n in
    go (x.minimal i l h) (ℕ_discrete (lowest p n) i) (x.passes (omega (arith, x.minimal i l h)))
  where
    go : lowest p n ≤ i → Dec (lowest p n ≡ i) → T (p (lowest p n)) → lowest p n ≡ i
    go a (yes z) t = z
    go a (no z) t = absurd (omega (arith, (lowest_is p i).minimal (lowest p n) (omega arith) t))

pub every_at : (p : ℕ → Bool) (n : ℕ) → T (every p n) → (v : ℕ) → v < n → T (p v)
every_at p zero a v h = absurd (omega arith)
every_at p (suc n) a v h = go (ℕ_discrete v n) (every_at p n (T_and (p n) (every p n) a).1 v)
  where
    go : Dec (v ≡ n) → (v < n → T (p v)) → T (p v)
    go (yes e) ih = rw e (T_and (p n) (every p n) a).0
    go (no e) ih = ih (omega arith)

pub length_values : (f : ℕ → ℕ) (n : ℕ) → length (values f n) ≡ n
length_values f zero = refl
length_values f (suc n) = length-append (values f n) (f n ∷ []) ∙ omega (arith, length_values f n)

pub get_d_values : (f : ℕ → ℕ) (n v : ℕ) → v < n → get_or (values f n) v 0 ≡ f v
get_d_values f zero v h = absurd (omega arith)
get_d_values f (suc n) v h = go (ℕ_discrete v n) (get_d_values f n v)
  where
    go : Dec (v ≡ n) → (v < n → get_or (values f n) v 0 ≡ f v) → get_or (values f (suc n)) v 0 ≡ f v
    go (yes e) ih = rw e (get_or_at (values f n) (f n) [] 0 n (length_values f n))
    go (no e) ih = get_or-append (values f n) (f n ∷ []) 0 v (omega (arith, length_values f n)) ∙ ih (omega arith)

pub values_same : (f h : ℕ → ℕ) (n : ℕ) → ((v : ℕ) → v < n → f v ≡ h v) → values f n ≡ values h n
values_same f h zero e = refl
values_same f h (suc n) e = rw (values_same f h n (λ v k. e v (omega arith)), e n (omega arith))

-- the least value so far
pub least_first : (f : ℕ → ℕ) → LeastOf f 1 (f 0)
least_first f = record { place = 0; place_in = omega arith; there = refl; least = λ k h. let z : k ≡ 0 = omega arith in rw z (omega arith) }

pub least_more : (f : ℕ → ℕ) (i low low' : ℕ) → LeastOf f i low → ((f i < low) × (low' ≡ f i)) ⊎ ((low ≤ f i) × (low' ≡ low)) → LeastOf f (i + 1) low'
least_more f i low low' l (inl w) = record {
  place = i;
  place_in = omega arith;
  there = sym w.1;
  least = below_more (λ k. low' ≤ f k) i (λ k h. omega (arith, l.least k h, w)) (omega (arith, w));
}
least_more f i low low' l (inr w) = record {
  place = l.place;
  place_in = omega (arith, l.place_in);
  there = l.there ∙ sym w.1;
  least = below_more (λ k. low' ≤ f k) i (λ k h. omega (arith, l.least k h, w)) (omega (arith, w));
}
