-- What a caller from C reads off the table check's number: the halves are the verdict's number and value, and each of the three verdicts has numbers of its own.
use mathlib.Core.Path.{◌≡◌, refl, sym, ◌∙◌, ap}
use mathlib.Core.Logic.Iff
use mathlib.Core.Logic.{◌↔◌}
use mathlib.Core.Bool.{true}
use mathlib.Core.List.{List, [], ◌∷◌}
use Prim.Native.Nat.{ℕ, ◌/◌, ◌%◌, ◌<◌}
use native.Mathlib.Omega.{arith}
use lib.Arith.{digits_div, digits_mod}
use lib.Dec.{ltb}
use lib.ListN.{take}
use Rattle.paths.specs.Table.{Right}
use Rattle.paths.proofs.Bools.{by_cond}
use Rattle.floor.specs.declared.Floor.{Floor}
use Rattle.floor.specs.Screen.{Screen, Passed, Refused}
use Rattle.floor.specs.Place.{cells}
use Rattle.floor.specs.Refusal.{line, screen}
use Rattle.floor.specs.Step.{graph}
use Rattle.floor.specs.Numbers.{Numbers, refused, fault, gives, after_screen}
use Rattle.floor.proofs.Lines.{above, below, lowest_line}
use Rattle.claims.specs.Route.{number_of, value_of, packed}
use Rattle.claims.specs.Table.{IsLowest, table_lines, breaking, right, breaks_at, judged, table_verdict, as_fault}
use Rattle.claims.proofs.Claims.{right_exactly, breaks_exactly, table_refused_exactly}
use Rattle.claims.proofs.Packing.{table_value_small}

-- what a verdict can be: the numbers of refusals lie between those of "right" and "breaks"
abbrev Verdict : Numbers → Type 0
Verdict (refused n p) = (0 < n) × (n < 40)
Verdict (fault n p) = ⊥
Verdict (gives []) = Unit {0}
Verdict (gives (b ∷ bs)) = bs ≡ []

is_right : (v : Numbers) → Verdict v → (number_of (as_fault v) ≡ 0) ↔ (v ≡ right)
is_right (refused n p) x = (λ e. absurd (omega (arith, x.0, e)), λ e. ap (λ (v : Numbers). number_of (as_fault v)) e)
is_right (fault n p) x = absurd x
is_right (gives []) x = (λ e. refl, λ e. refl)
is_right (gives (b ∷ bs)) x = (λ e. absurd (omega (arith, e)), λ e. ap (λ (v : Numbers). number_of (as_fault v)) e)

-- the two halves of a verdict are n and p
abbrev Halves : Numbers → ℕ → ℕ → Type 0
Halves v n p = (number_of (as_fault v) ≡ n) × (value_of (as_fault v) ≡ p)

halves_of : {v w : Numbers} → v ≡ w → Halves v (number_of (as_fault w)) (value_of (as_fault w))
halves_of e = (ap (λ (v : Numbers). number_of (as_fault v)) e, ap (λ (v : Numbers). value_of (as_fault v)) e)

is_broken : (v : Numbers) → Verdict v → (b : ℕ) → Halves v 40 b ↔ (v ≡ breaks_at b)
is_broken v x b = (from v x, halves_of)
  where
    from : (v : Numbers) → Verdict v → Halves v 40 b → v ≡ breaks_at b
    from (refused n p) x h = absurd (omega (arith, x.1, h.0))
    from (fault n p) x h = absurd x
    from (gives []) x h = absurd (omega (arith, h.0))
    from (gives (c ∷ cs)) x h = let cell : c ≡ b = h.1 in rw (cell, x)

is_refused : (v : Numbers) → Verdict v → (n p : ℕ) → 0 < n → n < 40 → Halves v n p ↔ (v ≡ refused n p)
is_refused v x n p low high = (from v x, halves_of)
  where
    from : (v : Numbers) → Verdict v → Halves v n p → v ≡ refused n p
    from (refused a b) x h = let number : a ≡ n = h.0 in let place : b ≡ p = h.1 in rw (number, place)
    from (fault a b) x h = absurd x
    from (gives []) x h = absurd (omega (arith, h.0))
    from (gives (c ∷ cs)) x h = absurd (omega (arith, h.0))

module _ (f : Floor) (m : List ℕ) (s : ℕ) (t : List ℕ) where
  verdict : Verdict (table_verdict f m s t)
  unfolding table_verdict
  verdict = go (screen (table_lines f m s t)) refl
    where
      go : (x : Screen) → screen (table_lines f m s t) ≡ x → Verdict (after_screen x (judged f (breaking f m s t)))
      go Passed e = by_cond Verdict (ltb (breaking f m s t) (cells f)) _ _ (λ h. refl) (λ h. tt)
      go (Refused n p) e =
          let low = (lowest_line (table_lines f m s t) 0 tt n p).0 e in
          (above 0 (table_lines f m s t) tt (line n true p) low.applies, below 40 (table_lines f m s t) tt (line n true p) low.applies)

  -- a number that meets the promise of the call
  module _ (r : ℕ) (promised : r ≡ packed (as_fault (table_verdict f m s t))) where
    high : r / 4294967296 ≡ number_of (as_fault (table_verdict f m s t))
    high = let v = as_fault (table_verdict f m s t) in rw promised (digits_div (number_of v) {m = 4294967296} {r = value_of v} (omega (arith, table_value_small f m s t)))

    low : r % 4294967296 ≡ value_of (as_fault (table_verdict f m s t))
    low = let v = as_fault (table_verdict f m s t) in rw promised (digits_mod (number_of v) {m = 4294967296} {r = value_of v} (omega (arith, table_value_small f m s t)))

    halves : (n p : ℕ) → ((r / 4294967296 ≡ n) × (r % 4294967296 ≡ p)) ↔ Halves (table_verdict f m s t) n p
    halves n p = (λ x. (sym high ∙ x.0, sym low ∙ x.1), λ x. (high ∙ x.0, low ∙ x.1))

    -- The high half is 0 exactly for the right table
    pub zero_right : (r / 4294967296 ≡ 0) ↔ ((screen (table_lines f m s t) ≡ Passed) × Right (graph f m) s (take (cells f) t))
    zero_right = Iff.trans (λ e. sym high ∙ e, λ e. high ∙ e) (Iff.trans (is_right (table_verdict f m s t) verdict) (right_exactly f m s t))

    -- It is 40 for a table that breaks the rule, and the low half is then the lowest cell that does
    pub forty_breaks : (b : ℕ) → ((r / 4294967296 ≡ 40) × (r % 4294967296 ≡ b)) ↔ ((screen (table_lines f m s t) ≡ Passed) × IsLowest f m s t b)
    forty_breaks b = Iff.trans (halves 40 b) (Iff.trans (is_broken (table_verdict f m s t) verdict b) (breaks_exactly f m s t b))

    -- Otherwise the halves are the number and the place of the refusal
    pub other_refused : (n p : ℕ) → 0 < n → n < 40 → ((r / 4294967296 ≡ n) × (r % 4294967296 ≡ p)) ↔ (screen (table_lines f m s t) ≡ Refused n p)
    other_refused n p above-0 below-40 =
        Iff.trans (halves n p) (Iff.trans (is_refused (table_verdict f m s t) verdict n p above-0 below-40) (table_refused_exactly f m s t n p))
