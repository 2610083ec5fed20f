-- L by its keys: insertion keeps lists sorted and keeps members; in a sorted list a place is a rank, and a rank counts over the cells as a loop does
use mathlib.Core.Path.{◌≡◌, refl, sym, ◌∙◌, ap}
use mathlib.Core.Logic.{◌≢◌, ◌⊎◌, inl, inr}
use mathlib.Core.Bool.{Bool, true, false, cond, ◌&&◌}
use mathlib.Core.List.Memᴰ
use mathlib.Core.List.{List, [], ◌∷◌, Memᴰ}
use Prim.Native.Nat.{ℕ, zero, suc, ◌+◌, ◌≤◌, ◌<◌}
use native.Mathlib.Omega.{arith}
use native.Mathlib.Decide.{ℕ_discrete}
use borrow.Author.Tests.{eq-eqb, ne_eqb, lt-ltb, le-ltb}
use lib.Dec.{T, ltb, ltb→lt, nltb→le}
use lib.ListN.{length, get_or}
use Rattle.paths.specs.Below.{tick, count}
use Rattle.paths.specs.Graph.{MARK}
use Rattle.settling.specs.Order.{Before, key, known, insert, sorted, place}
use Rattle.paths.proofs.Bools.{T_true, by_cond, not_eqb_ne, ne_not_eqb}

abbrev pub In : ℕ → List ℕ → Type 0
In v l = Memᴰ v l

-- laws of a place in any list
pub place_in : (v : ℕ) (l : List ℕ) → In v l → place v l < length l
place_in v [] h = absurd (Memᴰ.not-nil h)
place_in v (u ∷ us) h = go (ℕ_discrete u v) (Memᴰ.cases_cons h) (place_in v us)
  where
    go : Dec (u ≡ v) → (v ≡ u) ⊎ In v us → (In v us → place v us < length us) → place v (u ∷ us) < length (u ∷ us)
    go (yes e) h ih = rw (eq-eqb u v e) (omega arith)
    go (no e) (inl e') ih = absurd (e (sym e'))
    go (no e) (inr i) ih = rw (ne_eqb u v e) (omega (arith, ih i))

pub place_absent : (v : ℕ) (l : List ℕ) → (In v l → ⊥) → place v l ≡ length l
place_absent v [] h = refl
place_absent v (u ∷ us) h = rw (ne_eqb u v (λ e. h (Memᴰ.head (sym e)))) (ap suc (place_absent v us (λ i. h (Memᴰ.tail i))))

-- the cell at a member's place is the member
pub at_place : (v : ℕ) (l : List ℕ) → In v l → get_or l (place v l) 0 ≡ v
at_place v [] h = absurd (Memᴰ.not-nil h)
at_place v (u ∷ us) h = go (ℕ_discrete u v) (Memᴰ.cases_cons h) (at_place v us)
  where
    go : Dec (u ≡ v) → (v ≡ u) ⊎ In v us → (In v us → get_or us (place v us) 0 ≡ v) → get_or (u ∷ us) (place v (u ∷ us)) 0 ≡ v
    go (yes e) h ih = rw (eq-eqb u v e) e
    go (no e) (inl e') ih = absurd (e (sym e'))
    go (no e) (inr i) ih = rw (ne_eqb u v e) (ih i)

pub in_at : (l : List ℕ) (j : ℕ) → j < length l → In (get_or l j 0) l
in_at [] j h = absurd (omega arith)
in_at (u ∷ us) zero h = Memᴰ.head refl
in_at (u ∷ us) (suc j) h = Memᴰ.tail (in_at us j (omega arith))

module _ (t : List ℕ) where
  pub known_is : (v : ℕ) → T (known t v) → get_or t v 0 ≢ MARK
  unfolding known
  known_is v k = not_eqb_ne (get_or t v 0) MARK k

  pub is_known : (v : ℕ) → get_or t v 0 ≢ MARK → T (known t v)
  unfolding known
  is_known v m = ne_not_eqb (get_or t v 0) MARK m

  -- keys compare by cost and then by cell number
  pub key_apart : (u v : ℕ) → u ≢ v → u ≤ MARK → v ≤ MARK → key t u ≢ key t v
  unfolding key
  key_apart u v e h k = omega arith

  pub key_less : (u v : ℕ) → u ≤ MARK → v ≤ MARK → key t u < key t v → Before t u v
  unfolding key
  key_less u v h k l = go (ℕ_discrete (get_or t u 0) (get_or t v 0))
    where
      go : Dec (get_or t u 0 ≡ get_or t v 0) → Before t u v
      go (yes e) = inr (e, omega arith)
      go (no e) = inl (omega arith)

  -- how many of a list have a key below k
  abbrev rank : ℕ → List ℕ → ℕ
  rank k [] = 0
  rank k (u ∷ us) = tick (ltb (key t u) k) + rank k us

  rank_insert : (k v : ℕ) (l : List ℕ) → rank k (insert t v l) ≡ tick (ltb (key t v) k) + rank k l
  rank_insert k v [] = refl
  rank_insert k v (u ∷ us) =
      let ih = rank_insert k v us in
      by_cond (λ l. rank k l ≡ tick (ltb (key t v) k) + rank k (u ∷ us)) (ltb (key t v) (key t u)) (v ∷ u ∷ us) (u ∷ insert t v us)
      (λ h. refl) (λ h. omega (arith, ih))

  rank_sorted : (k n : ℕ) → rank k (sorted t n) ≡ count (λ u. known t u && ltb (key t u) k) n
  rank_sorted k zero = refl
  rank_sorted k (suc n) = choice (known t n) (rank_insert k n (sorted t n)) (rank_sorted k n)
    where
      choice : (b : Bool) {q : ℕ} → rank k (insert t n (sorted t n)) ≡ tick (ltb (key t n) k) + rank k (sorted t n) → rank k (sorted t n) ≡ q
          → rank k (cond b (insert t n (sorted t n)) (sorted t n)) ≡ tick (b && ltb (key t n) k) + q
      choice true e h = omega arith
      choice false e h = omega arith

  length_insert : (v : ℕ) (l : List ℕ) → length (insert t v l) ≡ suc (length l)
  length_insert v [] = refl
  length_insert v (u ∷ us) =
      let ih = length_insert v us in
      by_cond (λ (l : List ℕ). length l ≡ suc (suc (length us))) (ltb (key t v) (key t u)) (v ∷ u ∷ us) (u ∷ insert t v us)
      (λ h. refl) (λ h. ap suc ih)

  pub length_sorted : (n : ℕ) → length (sorted t n) ≡ count (known t) n
  length_sorted zero = refl
  length_sorted (suc n) = choice (known t n) (length_insert n (sorted t n)) (length_sorted n)
    where
      choice : (b : Bool) {q : ℕ} → length (insert t n (sorted t n)) ≡ suc (length (sorted t n)) → length (sorted t n) ≡ q
          → length (cond b (insert t n (sorted t n)) (sorted t n)) ≡ tick b + q
      choice true e h = omega arith
      choice false e h = omega arith

  in_insert : (w v : ℕ) (l : List ℕ) → (w ≡ v) ⊎ In w l → In w (insert t v l)
  in_insert w v [] (inl e) = Memᴰ.head e
  in_insert w v [] (inr h) = absurd (Memᴰ.not-nil h)
  in_insert w v (u ∷ us) h =
      let ih = in_insert w v us in
      by_cond (λ l. In w l) (ltb (key t v) (key t u)) (v ∷ u ∷ us) (u ∷ insert t v us) (λ c. front h) (λ c. behind ih h)
    where
      front : (w ≡ v) ⊎ In w (u ∷ us) → In w (v ∷ u ∷ us)
      front (inl e) = Memᴰ.head e
      front (inr i) = Memᴰ.tail i

      behind : ((w ≡ v) ⊎ In w us → In w (insert t v us)) → (w ≡ v) ⊎ In w (u ∷ us) → In w (u ∷ insert t v us)
      behind ih (inl e) = Memᴰ.tail (ih (inl e))
      behind ih (inr i) = later (Memᴰ.cases_cons i)
        where
          later : (w ≡ u) ⊎ In w us → In w (u ∷ insert t v us)
          later (inl e) = Memᴰ.head e
          later (inr j) = Memᴰ.tail (ih (inr j))

  insert_in : (w v : ℕ) (l : List ℕ) → In w (insert t v l) → (w ≡ v) ⊎ In w l
  insert_in w v [] h = Memᴰ.cases_cons h
  insert_in w v (u ∷ us) h =
      let ih = insert_in w v us in
      by_cond (λ l. In w l → (w ≡ v) ⊎ In w (u ∷ us)) (ltb (key t v) (key t u)) (v ∷ u ∷ us) (u ∷ insert t v us)
      (λ c i. Memᴰ.cases_cons i) (λ c i. behind ih (Memᴰ.cases_cons i)) h
    where
      later : (w ≡ v) ⊎ In w us → (w ≡ v) ⊎ In w (u ∷ us)
      later (inl e) = inl e
      later (inr j) = inr (Memᴰ.tail j)

      behind : (In w (insert t v us) → (w ≡ v) ⊎ In w us) → (w ≡ u) ⊎ In w (insert t v us) → (w ≡ v) ⊎ In w (u ∷ us)
      behind ih (inl e) = inr (Memᴰ.head e)
      behind ih (inr j) = later (ih j)

  pub known_in : (v n : ℕ) → v < n → T (known t v) → In v (sorted t n)
  known_in v zero h k = absurd (omega arith)
  known_in v (suc n) h k = go (ℕ_discrete v n) (λ l. known_in v n l k)
    where
      go : Dec (v ≡ n) → (v < n → In v (sorted t n)) → In v (sorted t (suc n))
      go (yes e) ih = rw (T_true (known t n) (rw e at k)) (in_insert v n (sorted t n) (inl e))
      go (no e) ih =
          let i = ih (omega arith) in
          by_cond (λ l. In v l) (known t n) (insert t n (sorted t n)) (sorted t n) (λ c. in_insert v n (sorted t n) (inr i)) (λ c. i)

  pub in_known : (v n : ℕ) → In v (sorted t n) → (v < n) × T (known t v)
  in_known v zero h = absurd (Memᴰ.not-nil h)
  in_known v (suc n) h =
      let ih = in_known v n in
      by_cond (λ l. In v l → (v < suc n) × T (known t v)) (known t n) (insert t n (sorted t n)) (sorted t n)
      (λ c i. go c ih (insert_in v n (sorted t n) i)) (λ c i. (omega (arith, (ih i).0), (ih i).1)) h
    where
      go : T (known t n) → (In v (sorted t n) → (v < n) × T (known t v)) → (v ≡ n) ⊎ In v (sorted t n) → (v < suc n) × T (known t v)
      go c ih (inl e) = (omega arith, rw e c)
      go c ih (inr i) = (omega (arith, (ih i).0), (ih i).1)

  -- each member's key is below all later keys
  abbrev Sorted : List ℕ → Type 0
  Sorted [] = Unit {0}
  Sorted (u ∷ us) = ((w : ℕ) → In w us → key t u < key t w) × Sorted us

  sorted_insert : (v : ℕ) (l : List ℕ) → ((u : ℕ) → In u l → key t u ≢ key t v) → Sorted l → Sorted (insert t v l)
  sorted_insert v [] d s = (λ w h. absurd (Memᴰ.not-nil h), tt)
  sorted_insert v (u ∷ us) d s =
      let ih = sorted_insert v us (λ u h. d u (Memᴰ.tail h)) s.1 in
      by_cond (λ l. Sorted l) (ltb (key t v) (key t u)) (v ∷ u ∷ us) (u ∷ insert t v us)
      (λ c. (λ w h. front (ltb→lt (key t v) (key t u) c) w (Memᴰ.cases_cons h), s))
      (λ c. (λ w h. behind (nltb→le (key t v) (key t u) c) w (insert_in w v us h), ih))
    where
      front : key t v < key t u → (w : ℕ) → (w ≡ u) ⊎ In w us → key t v < key t w
      front c w (inl e) = rw e c
      front c w (inr h) = omega (arith, s.0 w h)

      behind : key t u ≤ key t v → (w : ℕ) → (w ≡ v) ⊎ In w us → key t u < key t w
      behind c w (inl e) = omega (arith, d u (Memᴰ.head refl), ap (key t) e)
      behind c w (inr h) = s.0 w h

  sorted_sorted : (n : ℕ) → n ≤ MARK → Sorted (sorted t n)
  sorted_sorted zero b = tt
  sorted_sorted (suc n) b =
      let ih = sorted_sorted n (omega arith) in
      by_cond (λ l. Sorted l) (known t n) (insert t n (sorted t n)) (sorted t n)
      (λ c. sorted_insert n (sorted t n)
      (λ u h. let l = (in_known u n h).0 in key_apart u n (omega arith) (omega arith) (omega arith)) ih)
      (λ c. ih)

  sorted_at : (l : List ℕ) → Sorted l → (i j : ℕ) → i < j → j < length l → key t (get_or l i 0) < key t (get_or l j 0)
  sorted_at [] s i j h k = absurd (omega arith)
  sorted_at (u ∷ us) s i zero h k = absurd (omega arith)
  sorted_at (u ∷ us) s zero (suc j) h k = s.0 (get_or us j 0) (in_at us j (omega arith))
  sorted_at (u ∷ us) s (suc i) (suc j) h k = sorted_at us s.1 i j (omega arith) (omega arith)

  -- earlier in the list, lower in key
  pub keys_rise : (n : ℕ) → n ≤ MARK → (i j : ℕ) → i < j → j < length (sorted t n) → key t (get_or (sorted t n) i 0) < key t (get_or (sorted t n) j 0)
  keys_rise n b = sorted_at (sorted t n) (sorted_sorted n b)

  low_rank : (k : ℕ) (l : List ℕ) → ((w : ℕ) → In w l → k ≤ key t w) → rank k l ≡ 0
  low_rank k [] h = refl
  low_rank k (u ∷ us) h =
      let ih = low_rank k us (λ w i. h w (Memᴰ.tail i)) in
      omega (arith, ap tick (le-ltb (key t u) k (h u (Memᴰ.head refl))))

  place_rank : (v : ℕ) (l : List ℕ) → Sorted l → In v l → place v l ≡ rank (key t v) l
  place_rank v [] s h = absurd (Memᴰ.not-nil h)
  place_rank v (u ∷ us) s h = go (ℕ_discrete u v) (Memᴰ.cases_cons h) (place_rank v us s.1)
    where
      go : Dec (u ≡ v) → (v ≡ u) ⊎ In v us → (In v us → place v us ≡ rank (key t v) us) → place v (u ∷ us) ≡ rank (key t v) (u ∷ us)
      go (yes e) h ih =
          let z = low_rank (key t v) us (λ w i. omega (arith, s.0 w i, ap (key t) e)) in
          rw (eq-eqb u v e) (omega (arith, ap tick (le-ltb (key t u) (key t v) (omega (arith, ap (key t) e)))))
      go (no e) (inl e') ih = absurd (e (sym e'))
      go (no e) (inr i) ih = rw (ne_eqb u v e) (omega (arith, ih i, ap tick (lt-ltb (key t u) (key t v) (s.0 v i))))

  -- the place of a known cell is the number of known cells with a smaller key
  pub place_count : (v n : ℕ) → n ≤ MARK → v < n → T (known t v)
      → place v (sorted t n) ≡ count (λ u. known t u && ltb (key t u) (key t v)) n
  place_count v n b h k = place_rank v (sorted t n) (sorted_sorted n b) (known_in v n h k) ∙ rank_sorted (key t v) n
