-- The rule over all cells with an allowed step into a cell: each such step has a direction, so the smallest offer of the directions is the smallest of the cells.
use mathlib.Core.Path.{◌≡◌, refl, sym, ◌∙◌, subst}
use mathlib.Core.Logic.{◌↔◌, ◌≢◌}
use mathlib.Core.List.{List}
use Rattle.std.specs.Prelude.{Option, None, Some}
use Prim.Native.Nat.{ℕ}
use native.Mathlib.Omega.{arith}
use Rattle.paths.specs.Graph.{Graph, Lawful}
use Rattle.paths.specs.Table.{smallest, due}
use Rattle.paths.specs.Sum.{IsSmallestSum, smallest_sum, no_sum}
use Rattle.paths.proofs.Rule.{offer_is, smallest_is, offered, due_other}

module _ {g : Graph} {least most : ℕ} (law : Lawful g least most) (s : ℕ) (t : List ℕ) (v : ℕ) (other : v ≢ s) where
  due_is : IsSmallestSum g t v (due g s t v)
  due_is = go (smallest g t v g.directions) refl
    where
      go : (o : Option ℕ) → smallest g t v g.directions ≡ o → IsSmallestSum g t v (due g s t v)
      go None e = no_sum (λ b x. let y = offered law s t v b x in let z : ◌≡◌ {A = ℕ} 0 1 = cc y.1 in omega arith) (due_other law s t v None other e)
      go (Some c) e =
          let f = smallest_is law s t v g.directions c e in
          subst (IsSmallestSum g t v) (sym (due_other law s t v (Some c) other e))
          (smallest_sum (offer_is law s t v f.0 c f.1).0
          (λ b x. let y = offered law s t v b x in let z : y.0 ≡ c = cc y.1 in omega (arith, y.2)))

  one_smallest : (b c : ℕ) → IsSmallestSum g t v b → IsSmallestSum g t v c → b ≡ c
  one_smallest b c (smallest_sum x p) (smallest_sum y q) = omega (arith, p c y, q b x)
  one_smallest b c (smallest_sum x p) (no_sum q e) = absurd (q b x)
  one_smallest b c (no_sum p e) (smallest_sum y q) = absurd (p c y)
  one_smallest b c (no_sum p e) (no_sum q d) = e ∙ sym d

  -- what a cell other than the start is due
  pub due_in_words : (c : ℕ) → (due g s t v ≡ c) ↔ IsSmallestSum g t v c
  due_in_words c = (λ e. subst (IsSmallestSum g t v) e due_is, one_smallest (due g s t v) c due_is)
