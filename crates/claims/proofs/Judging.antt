-- The verdict of a claimed table, by the lowest cell that breaks the rule.
use mathlib.Core.Path.{◌≡◌, refl, subst}
use mathlib.Core.Logic.{◌≢◌}
use mathlib.Core.List.{List}
use Prim.Native.Nat.{ℕ, ◌≤◌, ◌<◌}
use native.Mathlib.Omega.{arith}
use native.Mathlib.Decide.{ℕ_discrete}
use borrow.Author.Tests.{lt-ltb, le-ltb}
use lib.Dec.{ltb, ltb→lt, nltb→le}
use lib.ListN.{get_or}
use Rattle.paths.specs.Below.{lowest}
use Rattle.paths.proofs.Bools.{not_eqb_ne, ne_not_eqb, by_cond}
use Rattle.paths.proofs.Below.{Lowest, lowest_is, lowest_none, lowest_found}
use Rattle.floor.specs.declared.Floor.{Floor}
use Rattle.floor.specs.Screen.{Screen, Passed}
use Rattle.floor.specs.Place.{cells}
use Rattle.floor.specs.Refusal.{screen}
use Rattle.floor.specs.Numbers.{Numbers, refused, after_screen}
use Rattle.claims.specs.Table.{table_lines, owed, breaks, IsLowest, breaking, right, breaks_at, judged, table_verdict}

module _ (f : Floor) (m : List ℕ) (s : ℕ) (t : List ℕ) where
  abbrev tested : Screen
  tested = screen (table_lines f m s t)

  judged_right : (x : Screen) → after_screen x (judged f (breaking f m s t)) ≡ right → (x ≡ Passed) × (cells f ≤ breaking f m s t)
  judged_right Passed e =
      by_cond (λ (v : Numbers). v ≡ right → (Passed ≡ Passed) × (cells f ≤ breaking f m s t)) (ltb (breaking f m s t) (cells f)) _ _
      (λ h e. let z : ◌≡◌ {A = ℕ} 0 1 = cc in absurd (omega arith))
      (λ h e. (refl, nltb→le (breaking f m s t) (cells f) h)) e
  judged_right (Screen.Refused n p) e = let z : ◌≡◌ {A = ℕ} 0 1 = cc in absurd (omega arith)

  judged_breaks : (b : ℕ) (x : Screen) → after_screen x (judged f (breaking f m s t)) ≡ breaks_at b → (x ≡ Passed) × (breaking f m s t < cells f) × (breaking f m s t ≡ b)
  judged_breaks b Passed e =
      by_cond (λ (v : Numbers). v ≡ breaks_at b → (Passed ≡ Passed) × (breaking f m s t < cells f) × (breaking f m s t ≡ b)) (ltb (breaking f m s t) (cells f)) _ _
      (λ h e. (refl, ltb→lt (breaking f m s t) (cells f) h, cc))
      (λ h e. let z : ◌≡◌ {A = ℕ} 0 1 = cc in absurd (omega arith)) e
  judged_breaks b (Screen.Refused n p) e = let z : ◌≡◌ {A = ℕ} 0 1 = cc in absurd (omega arith)

  judged_refused : (n p : ℕ) (x : Screen) → after_screen x (judged f (breaking f m s t)) ≡ refused n p → x ≡ Screen.Refused n p
  judged_refused n p Passed e =
      by_cond (λ (v : Numbers). v ≡ refused n p → Passed ≡ Screen.Refused n p) (ltb (breaking f m s t) (cells f)) _ _
      (λ h e. let z : ◌≡◌ {A = ℕ} 0 1 = cc in absurd (omega arith))
      (λ h e. let z : ◌≡◌ {A = ℕ} 0 1 = cc in absurd (omega arith)) e
  judged_refused n p (Screen.Refused a b) e = cc

  pub table_refused_lines : (n p : ℕ) → table_verdict f m s t ≡ refused n p → tested ≡ Screen.Refused n p
  unfolding table_verdict
  table_refused_lines n p e = judged_refused n p tested e

  first : Lowest (breaks f m s t) (cells f) (breaking f m s t)
  unfolding breaking
  first = lowest_is (breaks f m s t) (cells f)

  pub right_unbroken : table_verdict f m s t ≡ right → (tested ≡ Passed) × (breaking f m s t ≡ cells f)
  unfolding table_verdict
  right_unbroken e = let p = judged_right tested e in (p.0, omega (arith, p.1, first.small))

  pub unbroken_right : tested ≡ Passed → breaking f m s t ≡ cells f → table_verdict f m s t ≡ right
  unfolding table_verdict
  unbroken_right p e = rw (p, le-ltb (breaking f m s t) (cells f) (omega arith))

  is_lowest : breaking f m s t < cells f → IsLowest f m s t (breaking f m s t)
  unfolding breaks
  is_lowest h = record {
    inside = h;
    breaks = not_eqb_ne _ _ (first.passes h);
    lowest = λ v l.
        elim (ℕ_discrete (get_or t v 0) (owed f m s t v)) [
          | yes e ↦ e
          | no n ↦ absurd (omega (arith, first.minimal v (omega arith) (ne_not_eqb _ _ n)))
        ];
  }

  pub breaks_lowest : (b : ℕ) → table_verdict f m s t ≡ breaks_at b → (tested ≡ Passed) × IsLowest f m s t b
  unfolding table_verdict
  breaks_lowest b e =
      let p = judged_breaks b tested e in
      (p.0, subst (IsLowest f m s t) p.2 (is_lowest p.1))

  found : (b : ℕ) → IsLowest f m s t b → breaking f m s t ≡ b
  unfolding breaking breaks
  found b x =
      lowest_found (breaks f m s t) b (cells f) (lowest_none (breaks f m s t) b (λ v h k. not_eqb_ne _ _ k (x.lowest v h))) (ne_not_eqb _ _ x.breaks) x.inside

  -- no cell before b breaks the rule, and b does
  pub first_judged : (b : ℕ) → lowest (breaks f m s t) b ≡ b → b < cells f → get_or t b 0 ≢ owed f m s t b → breaks_at b ≡ judged f (breaking f m s t)
  unfolding breaking breaks
  first_judged b e h n = rw (lowest_found (breaks f m s t) b (cells f) e (ne_not_eqb _ _ n) h, lt-ltb b (cells f) h)

  pub lowest_breaks : (b : ℕ) → tested ≡ Passed → IsLowest f m s t b → table_verdict f m s t ≡ breaks_at b
  unfolding table_verdict
  lowest_breaks b p x = rw (p, found b x, lt-ltb b (cells f) x.inside)
