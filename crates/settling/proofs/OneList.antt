-- One list L: by least cost and number no two cells come before each other, so two sorted lists of the same cells agree cell by cell; the computed L is one.
use mathlib.Core.Path.{◌≡◌, refl, sym, ◌∙◌}
use mathlib.Core.Logic.{◌⊎◌, inl, inr}
use mathlib.Core.List.Memᴰ
use mathlib.Core.List.{List, [], ◌∷◌}
use Prim.Native.Nat.{ℕ, suc, ◌<◌}
use native.Mathlib.Omega.{arith}
use native.Mathlib.Decide.{dec_lt}
use lib.ListN.{get_or}
use Rattle.paths.specs.Graph.{Graph, Lawful}
use Rattle.paths.specs.Route.{Reachable, Least}
use Rattle.paths.specs.Table.{Right}
use Rattle.settling.specs.List.{At, IsL}
use Rattle.settling.specs.Order.{Before, L, place}
use Rattle.paths.proofs.Exists.{right_exists}
use Rattle.settling.proofs.Orders.{In, in_at, place_in, at_place}
use Rattle.paths.proofs.Meaning.{ends_inside, reachable_known, value_is_least}
use Rattle.settling.proofs.Lists.{L-members, L-sorted}

-- a cell stands at some place of a list exactly when it is a member
pub at_in : (l : List ℕ) (i v : ℕ) → At l i v → In v l
at_in l i v a = rw a.cell at (in_at l i a.within)

pub in_place : (l : List ℕ) (v : ℕ) → In v l → At l (place v l) v
in_place l v h = record { within = place_in v l h; cell = at_place v l h }

-- each cell comes before all later ones
abbrev Rising : (ℕ → ℕ → Type 0) → List ℕ → Type 0
Rising Precedes l = (i j u v : ℕ) → i < j → At l i u → At l j v → Precedes u v

later : (u : ℕ) (us : List ℕ) (i v : ℕ) → At us i v → At (u ∷ us) (suc i) v
later u us i v a = record { within = omega (arith, a.within); cell = a.cell }

module _ (Precedes : ℕ → ℕ → Type 0) (apart : (u v : ℕ) → Precedes u v → Precedes v u → ⊥) where
  head_first : (u : ℕ) (us : List ℕ) → Rising Precedes (u ∷ us) → (w : ℕ) → In w us → Precedes u w
  head_first u us p w h =
      p 0 (suc (place w us)) u w (omega arith) (record { within = omega arith; cell = refl }) (later u us (place w us) w (in_place us w h))

  tail_rising : (u : ℕ) (us : List ℕ) → Rising Precedes (u ∷ us) → Rising Precedes us
  tail_rising u us p i j w x h a b = p (suc i) (suc j) w x (omega arith) (later u us i w a) (later u us j x b)

  same_head : (u : ℕ) (us : List ℕ) (v : ℕ) (vs : List ℕ) → Rising Precedes (u ∷ us) → Rising Precedes (v ∷ vs)
      → (u ≡ v) ⊎ In u vs → (v ≡ u) ⊎ In v us → u ≡ v
  same_head u us v vs p q (inl e) y = e
  same_head u us v vs p q (inr x) (inl e) = sym e
  same_head u us v vs p q (inr x) (inr y) = absurd (apart u v (head_first u us p v y) (head_first v vs q u x))

  -- a member behind the head is no other head
  behind : (u : ℕ) (us : List ℕ) (v : ℕ) (vs : List ℕ) → Rising Precedes (u ∷ us) → u ≡ v → (w : ℕ) → In w us → (w ≡ v) ⊎ In w vs → In w vs
  behind u us v vs p e w h (inr x) = x
  behind u us v vs p e w h (inl z) =
      let before : Precedes u u = rw (z ∙ sym e) at (head_first u us p w h) in
      absurd (apart u u before before)

  -- two lists in order with the same members are the same
  same_list : (l k : List ℕ) → Rising Precedes l → Rising Precedes k → ((v : ℕ) → In v l → In v k) → ((v : ℕ) → In v k → In v l) → l ≡ k
  same_list [] [] p q f g = refl
  same_list [] (v ∷ vs) p q f g = absurd (Memᴰ.not-nil (g v (Memᴰ.head refl)))
  same_list (u ∷ us) [] p q f g = absurd (Memᴰ.not-nil (f u (Memᴰ.head refl)))
  same_list (u ∷ us) (v ∷ vs) p q f g =
      let e = same_head u us v vs p q (Memᴰ.cases_cons (f u (Memᴰ.head refl))) (Memᴰ.cases_cons (g v (Memᴰ.head refl))) in
      let t = same_list us vs (tail_rising u us p) (tail_rising v vs q)
      (λ w h. behind u us v vs p e w h (Memᴰ.cases_cons (f w (Memᴰ.tail h))))
      (λ w h. behind v vs u us q (sym e) w h (Memᴰ.cases_cons (g w (Memᴰ.tail h)))) in
      cc

before_apart : (t : List ℕ) (u v : ℕ) → Before t u v → Before t v u → ⊥
before_apart t u v (inl a) (inl b) = omega arith
before_apart t u v (inl a) (inr b) = omega (arith, b.0)
before_apart t u v (inr a) (inl b) = omega (arith, a.0)
before_apart t u v (inr a) (inr b) = omega (arith, a.1, b.1)

module _ {g : Graph} {least most : ℕ} (law : Lawful g least most) (s : ℕ) (start : s < g.cells) (t : List ℕ) (right : Right g s t) where
  -- a reachable cell's value in the right table is its least cost
  pub reached_value : (v : ℕ) → Reachable g s v → Least g s v (get_or t v 0)
  reached_value v x = let h = ends_inside law s start v x in right.reached v h ((reachable_known law s start t right v h).0 x)

  -- the list computed from the right table is L
  pub computed_is_L : IsL g s (L t)
  computed_is_L = record {
    reachable = λ v. (
      λ x. (L-members law s start t right v).0 (at_in (L t) x.0 v x.1),
      λ x. (place v (L t), in_place (L t) v ((L-members law s start t right v).1 x)),
    );
    sorted = λ i j u v b c h x y p q.
        let before : Before t u v = rw (x.cell, y.cell) at (L-sorted law s start t right i j h y.within) in
        rw (value_is_least law s start u b p t right, value_is_least law s start v c q t right) at before;
  }

  -- and every list that is L is that one
  pub L-is-computed : (l : List ℕ) → IsL g s l → l ≡ L t
  L-is-computed l is =
      same_list (Before t) (before_apart t) l (L t) (rising l is) (rising (L t) computed_is_L)
      (λ v h. (L-members law s start t right v).1 ((is.reachable v).0 (place v l, in_place l v h)))
      (λ v h. let x = (is.reachable v).1 ((L-members law s start t right v).0 h) in at_in l x.0 v x.1)
    where
      rising : (l : List ℕ) → IsL g s l → Rising (Before t) l
      rising l is i j u v h a b =
          is.sorted i j u v (get_or t u 0) (get_or t v 0) h a b (reached_value u ((is.reachable u).0 (i, a))) (reached_value v ((is.reachable v).0 (j, b)))

  -- no cell stands in L twice
  pub stands_once : (l : List ℕ) → IsL g s l → (i j v : ℕ) → At l i v → At l j v → i ≡ j
  stands_once l is i j v a b = go (dec_lt i j) (dec_lt j i)
    where
      never : (i j : ℕ) → i < j → At l i v → At l j v → ⊥
      never i j h a b =
          let c = reached_value v ((is.reachable v).0 (i, a)) in
          let before : Before t v v = is.sorted i j v v (get_or t v 0) (get_or t v 0) h a b c c in
          before_apart t v v before before

      go : Dec (i < j) → Dec (j < i) → i ≡ j
      go (yes h) k = absurd (never i j h a b)
      go (no h) (yes k) = absurd (never j i k b a)
      go (no h) (no k) = omega arith

  -- so the place where a cell stands is the one that is computed
  pub one_place : (i v : ℕ) → At (L t) i v → place v (L t) ≡ i
  one_place i v a = stands_once (L t) computed_is_L (place v (L t)) i v (in_place (L t) v (at_in (L t) i v a)) a

-- L exists and is unique
pub one_L : {g : Graph} {least most : ℕ} → Lawful g least most → (s : ℕ) → s < g.cells
    → (l : List ℕ) × IsL g s l × ((k : List ℕ) → IsL g s k → k ≡ l)
one_L law s start =
    let x = right_exists law s start in
    (L x.0, computed_is_L law s start x.0 x.1, L-is-computed law s start x.0 x.1)
