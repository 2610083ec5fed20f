-- Of two routes of equal cost to a cell one is ahead: backwards a step has one cell that it leaves, so a tail begins at the start too, and what precedes it costs nothing.
use mathlib.Core.Path.{◌≡◌, refl, sym, ◌∙◌, ap}
use mathlib.Core.Logic.{◌≢◌, ◌⊎◌, inl, inr}
use mathlib.Core.List.{List, [], ◌∷◌, ◌++◌, reverse, reverse-append, reverse-reverse}
use Prim.Native.Nat.{ℕ, ◌<◌}
use native.Mathlib.Omega.{arith}
use native.Mathlib.Decide.{ℕ_discrete, dec_lt}
use lib.Dec.{T}
use lib.ListN.{length, length-reverse}
use Rattle.paths.specs.Graph.{Graph, Lawful}
use Rattle.paths.specs.Route.{walks, ends, cost_of, Route}
use Rattle.paths.specs.First.{Ahead}
use Rattle.paths.proofs.Bools.{T_and}
use Rattle.paths.proofs.Walks.{ends_append, cost_append, append_walks}
use Rattle.paths.proofs.Firsts.{not_both_ahead}
use Rattle.paths.proofs.Loops.{steps_cost}

-- two lists that differ: one is ahead, or one begins with the other
data Compared (a b : List ℕ) : Type 0 where
  same : a ≡ b → Compared a b
  ahead : Ahead a b → Compared a b
  behind : Ahead b a → Compared a b
  longer : (d : ℕ) (x : List ℕ) → a ≡ b ++ (d ∷ x) → Compared a b
  shorter : (d : ℕ) (x : List ℕ) → b ≡ a ++ (d ∷ x) → Compared a b

compare : (a b : List ℕ) → Compared a b
compare [] [] = same refl
compare [] (e ∷ b) = shorter e b refl
compare (d ∷ a) [] = longer d a refl
compare (d ∷ a) (e ∷ b) = go (ℕ_discrete d e) (dec_lt d e) (compare a b)
  where
    go : Dec (d ≡ e) → Dec (d < e) → Compared a b → Compared (d ∷ a) (e ∷ b)
    go (no n) (yes h) c = ahead (inl h)
    go (no n) (no h) c = behind (inl (omega arith))
    go (yes p) h (same q) = same cc
    go (yes p) h (ahead q) = ahead (inr (p, q))
    go (yes p) h (behind q) = behind (inr (sym p, q))
    go (yes p) h (longer f x q) = longer f x cc
    go (yes p) h (shorter f x q) = shorter f x cc

module _ {g : Graph} {least most : ℕ} (law : Lawful g least most) where
  -- routes of the same steps to the same cell begin at the same cell
  same_start : (u w : ℕ) (ds : List ℕ) → T (walks g u ds) → T (walks g w ds) → ends g u ds ≡ ends g w ds → u ≡ w
  same_start u w [] p q e = e
  same_start u w (d ∷ ds) p q e =
      let a = T_and (g.allowed u d) (walks g (g.to u d) ds) p in
      let b = T_and (g.allowed w d) (walks g (g.to w d) ds) q in
      let ih = same_start (g.to u d) (g.to w d) ds a.1 b.1 e in
      sym (law.back u d a.0) ∙ ap (λ (x : ℕ). g.from x d) ih ∙ law.back w d b.0

  module _ (s v : ℕ) where
    -- "neither is a tail of the other"
    pub no_tail : (ds es : List ℕ) → Route g s v ds → Route g s v es → cost_of g s ds ≡ cost_of g s es → (x : List ℕ) → 0 < length x → es ≢ x ++ ds
    no_tail ds es p q c x h e =
        let w = append_walks g s x ds (rw e at q.allowed) in
        let z : ends g s ds ≡ ends g (ends g s x) ds = p.arrives ∙ sym q.arrives ∙ ap (ends g s) e ∙ ends_append g s x ds in
        let here = same_start s (ends g s x) ds p.allowed w.1 z in
        let sum = ap (cost_of g s) e ∙ cost_append g s x ds in
        omega (arith, c, sum, ap (λ (u : ℕ). cost_of g u ds) here, steps_cost law s x w.0 h, law.positive)

    -- "exactly one route is first": of two different routes of the same cost, so of two least-cost ones, one is ahead of the other, and not both
    pub one_ahead : (ds es : List ℕ) → Route g s v ds → Route g s v es → cost_of g s ds ≡ cost_of g s es → ds ≢ es
        → (Ahead (reverse ds) (reverse es) ⊎ Ahead (reverse es) (reverse ds)) × (Ahead (reverse ds) (reverse es) → Ahead (reverse es) (reverse ds) → ⊥)
    one_ahead ds es p q c n = (go (compare (reverse ds) (reverse es)), not_both_ahead (reverse ds) (reverse es))
      where
        tail_of : (a b x : List ℕ) → reverse a ≡ reverse b ++ x → a ≡ reverse x ++ b
        tail_of a b x e = sym (reverse-reverse a) ∙ ap reverse e ∙ reverse-append (reverse b) x ∙ ap (λ (y : List ℕ). reverse x ++ y) (reverse-reverse b)

        some_steps : (d : ℕ) (x : List ℕ) → 0 < length (reverse (d ∷ x))
        some_steps d x = omega (arith, length-reverse (d ∷ x))

        go : Compared (reverse ds) (reverse es) → Ahead (reverse ds) (reverse es) ⊎ Ahead (reverse es) (reverse ds)
        go (same e) = absurd (n (sym (reverse-reverse ds) ∙ ap reverse e ∙ reverse-reverse es))
        go (ahead x) = inl x
        go (behind x) = inr x
        go (longer d x e) = absurd (no_tail es ds q p (sym c) (reverse (d ∷ x)) (some_steps d x) (tail_of ds es (d ∷ x) e))
        go (shorter d x e) = absurd (no_tail ds es p q c (reverse (d ∷ x)) (some_steps d x) (tail_of es ds (d ∷ x) e))
