-- The rule of the table check is the rule of the theory: no step comes into a blocked cell, and no step leaves a cell past the first width × height entries.
use Rattle.std.specs.Prelude.{Option, None}
use mathlib.Core.Path.{◌≡◌, refl, sym, ◌∙◌, ap}
use mathlib.Core.Logic.{◌≢◌}
use mathlib.Core.Bool.{not, ◌&&◌, not-not}
use mathlib.Core.List.{List}
use Prim.Native.Nat.{ℕ, zero, suc, ◌≤◌, ◌<◌}
use native.Mathlib.Omega.{arith}
use borrow.Author.Tests.{ne_eqb}
use lib.Dec.{T, eqb, eqb→eq, T_not}
use lib.ListN.{length, get_or, take}
use lib.Seq.{get_or-take, length-take-le}
use Rattle.paths.specs.Graph.{MARK}
use Rattle.paths.specs.Table.{offer, smallest, due, keeps, Obeys}
use Rattle.paths.proofs.Bools.{dec_T, not_T_false, T_and, by_cond}
use Rattle.paths.proofs.Below.{lowest_none, none_passes}
use Rattle.floor.specs.declared.Floor.{Floor}
use Rattle.floor.specs.Direction.{opposite}
use Rattle.floor.specs.Place.{cells}
use Rattle.floor.specs.Refusal.{HasPassed}
use Rattle.floor.specs.Step.{target, allowed, graph}
use Rattle.floor.proofs.Laws.{lawful, reaches_open}
use Rattle.claims.specs.Table.{owed, breaks, breaking}

module _ (f : Floor) (m t : List ℕ) (v : ℕ) where
  -- no step comes into v
  no_offer : (d : ℕ) →
      let u = target f v (opposite d) in
      (T (allowed f m u d) → target f u d ≡ v → ⊥) → offer (graph f m) t v d ≡ None
  unfolding offer
  no_offer d n =
      let u = target f v (opposite d) in
      by_cond (λ (x : Option ℕ). x ≡ None) (allowed f m u d && eqb (target f u d) v && not (eqb (get_or t u 0) MARK)) _ _
      (λ k.
      let a = T_and (allowed f m u d) (eqb (target f u d) v) (T_and (allowed f m u d && eqb (target f u d) v) _ k).0 in
      absurd (n a.0 (eqb→eq (target f u d) v a.1)))
      (λ k. refl)

  module _ (blocked : get_or m v 0 ≡ 0) where
    blocked_offer : (d : ℕ) → offer (graph f m) t v d ≡ None
    blocked_offer d =
        let u = target f v (opposite d) in
        no_offer d (λ a l. omega (arith, reaches_open f m u d a, ap (λ (w : ℕ). get_or m w 0) l))

    blocked_smallest : (n : ℕ) → smallest (graph f m) t v n ≡ None
    blocked_smallest zero = refl
    blocked_smallest (suc n) = rw (blocked_smallest n, blocked_offer n)

  module _ (passed : HasPassed f m) where
    inside_offer : (d : ℕ) → offer (graph f m) (take (cells f) t) v d ≡ offer (graph f m) t v d
    unfolding offer
    inside_offer d =
        let u = target f v (opposite d) in
        elim (dec_T (allowed f m u d)) [
          | yes a ↦ rw (get_or-take (cells f) t u 0 ((lawful f m passed).leaves u d a))
          | no a ↦ rw (not_T_false (allowed f m u d) a)
        ]

    inside_smallest : (n : ℕ) → smallest (graph f m) (take (cells f) t) v n ≡ smallest (graph f m) t v n
    inside_smallest zero = refl
    inside_smallest (suc n) = rw (inside_smallest n, inside_offer n)

    inside_due : (s : ℕ) → due (graph f m) s (take (cells f) t) v ≡ due (graph f m) s t v
    unfolding due
    inside_due s = rw (inside_smallest 8)

module _ (f : Floor) (m : List ℕ) (s : ℕ) (t : List ℕ) (opens : get_or m s 0 ≢ 0) where
  -- what the rule asks of a blocked cell is its due already
  pub owed_is_due : (v : ℕ) → owed f m s t v ≡ due (graph f m) s t v
  unfolding owed due
  owed_is_due v =
      by_cond (λ (x : ℕ). x ≡ due (graph f m) s t v) (eqb (get_or m v 0) 0) MARK (due (graph f m) s t v)
      (λ h.
      let b = eqb→eq (get_or m v 0) 0 h in
      rw (ne_eqb v s (λ e. opens (ap (λ (w : ℕ). get_or m w 0) (sym e) ∙ b)), blocked_smallest f m t v b 8))
      (λ h. refl)

  module _ (passed : HasPassed f m) (covers : cells f ≤ length t) where
    -- a cell keeps the theory's rule exactly when it does not break the check's
    same_rule : (v : ℕ) → v < cells f → keeps (graph f m) s (take (cells f) t) v ≡ not (breaks f m s t v)
    unfolding keeps breaks
    same_rule v h = rw (get_or-take (cells f) t v 0 h, inside_due f m t v passed s, ← owed_is_due v, not-not)

    pub unbroken_obeys : breaking f m s t ≡ cells f → Obeys (graph f m) s (take (cells f) t)
    unfolding breaking
    unbroken_obeys e = record {
      covers = length-take-le (cells f) t covers;
      rule = λ v h. rw (same_rule v h) (none_passes (breaks f m s t) (cells f) e v h);
    }

    pub obeys_unbroken : Obeys (graph f m) s (take (cells f) t) → breaking f m s t ≡ cells f
    unfolding breaking
    obeys_unbroken o = lowest_none (breaks f m s t) (cells f) (λ v h. T_not (breaks f m s t v) (rw (same_rule v h) at (o.rule v h)))
