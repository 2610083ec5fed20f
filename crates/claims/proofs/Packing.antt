-- The collector's two halves: every place and cost fits the low one, as a place is a cell's or a step's number, and only "holds" has the number 0.
use Rattle.std.specs.Prelude.{Result, Ok, Err}
use mathlib.Core.Path.{◌≡◌, refl, ap, subst}
use mathlib.Core.Bool.{Bool, true, false, cond, not, ◌&&◌}
use mathlib.Core.List.{List, [], ◌∷◌}
use Prim.Native.Nat.{ℕ, suc, ◌+◌, ◌≤◌, ◌<◌, max}
use native.Mathlib.Omega.{arith}
use native.Mathlib.Nat.{mul-le-mul}
use lib.Dec.{T, eqb, ltb, eqb→eq, ltb→lt}
use lib.ListN.{length, drop}
use Rattle.paths.specs.Graph.{MARK}
use Rattle.paths.proofs.Bools.{T_and, T_not-not, by_cond}
use Rattle.paths.proofs.Below.{lowest_is}
use Rattle.floor.specs.declared.Floor.{Floor}
use Rattle.floor.specs.declared.Reason.{Reason}
use Rattle.floor.specs.declared.Reason.TheVariants.{NoSuchDirection, LeftOffMap, LeftBlocked, LeavesMap, EntersBlocked, CutsCorner}
use Rattle.floor.specs.declared.Step.{Step}
use Rattle.floor.specs.Screen.{Screen, Passed, Refused}
use Rattle.floor.specs.Place.{has_sides, cells}
use Rattle.floor.specs.Refusal.{Line, line, screen, first_above}
use Rattle.floor.specs.Step.{step_of}
use Rattle.floor.proofs.Passing.{sides, facts, few_cells}
use Rattle.floor.specs.Numbers.{Numbers, refused, fault, gives, after_screen}
use Rattle.claims.specs.Route.{Claim, holds, claim_lines, fault_of, arrived, on_step, tried, route_verdict, number_of, value_of}
use Rattle.claims.specs.Table.{table_lines, breaking, judged, table_verdict, as_fault}
use Rattle.claims.proofs.Passing.{claim_passed, claim_short, table_passed}

abbrev place_in : Screen → ℕ
place_in Passed = 0
place_in (Refused n p) = p

abbrev highest : List Line → ℕ
highest [] = 0
highest (l ∷ ls) = max l.place (highest ls)

place_at_most : (ls : List Line) → place_in (screen ls) ≤ highest ls
place_at_most [] = omega arith
place_at_most (l ∷ ls) = go l.given (place_at_most ls)
  where
    go : (b : Bool) → place_in (screen ls) ≤ highest ls → place_in (cond b (Refused l.number l.place) (screen ls)) ≤ max l.place (highest ls)
    go true ih = omega arith
    go false ih = omega arith

first_above_at_most : (m : List ℕ) → first_above m ≤ length m
unfolding first_above
first_above_at_most m = (lowest_is _ (length m)).small

-- what an answer can be after `Passed`
abbrev Told : Numbers → Type 0
Told (refused n p) = ⊥
Told (fault n p) = 0 < n
Told (gives vs) = (k : ℕ) × (vs ≡ k ∷ [])

fault_positive : (r : Reason) → 0 < fault_of r
fault_positive NoSuchDirection = omega arith
fault_positive LeftOffMap = omega arith
fault_positive LeftBlocked = omega arith
fault_positive LeavesMap = omega arith
fault_positive EntersBlocked = omega arith
fault_positive CutsCorner = omega arith

-- lines with numbers from 1 on refuse with such a number
abbrev numbered : List Line → Bool
numbered [] = true
numbered (l ∷ ls) = ltb 0 l.number && numbered ls

abbrev Numbered : Screen → Type 0
Numbered Passed = Unit {0}
Numbered (Screen.Refused n p) = 0 < n

screen_numbered : (ls : List Line) → T (numbered ls) → Numbered (screen ls)
screen_numbered [] t = tt
screen_numbered (l ∷ ls) t =
    let a = T_and (ltb 0 l.number) (numbered ls) t in
    by_cond Numbered l.given _ _ (λ h. ltb→lt 0 l.number a.0) (λ h. screen_numbered ls a.1)

-- after 1 and 2 a map has at most the cells of the greatest floor, and a place among them fits
place_small : (f : Floor) (m : List ℕ) (ls : List Line) → highest ls ≤ length m
    → place_in (screen (line 1 (not (has_sides f)) 0 ∷ line 2 (not (eqb (length m) (cells f))) 0 ∷ ls)) ≤ MARK
place_small f m ls h =
    by_cond (λ (x : Screen). place_in x ≤ MARK) (not (has_sides f)) _ _ (λ t. omega arith)
    (λ t. by_cond (λ (x : Screen). place_in x ≤ MARK) (not (eqb (length m) (cells f))) _ _ (λ u. omega arith)
    (λ u.
    let s = sides f (T_not-not (has_sides f) t) in
    let e = eqb→eq (length m) (cells f) (T_not-not (eqb (length m) (cells f)) u) in
    omega (arith, mul-le-mul s.0.top s.1.top, h, place_at_most ls)))

module _ (f : Floor) (m : List ℕ) (c : Claim) where
  refused_small : place_in (screen (claim_lines f m c)) ≤ MARK
  refused_small = place_small f m (drop 2 (claim_lines f m c)) (omega (arith, first_above_at_most m))

  tried_small : (ds : List ℕ) (v i k : ℕ) → c.cost ≤ MARK → i + length ds ≤ MARK → value_of (tried f m c v i k ds) ≤ MARK
  unfolding arrived
  tried_small [] v i k h l =
      by_cond (λ (x : Numbers). value_of x ≤ MARK) (not (eqb v c.goal)) _ _ (λ t. omega arith)
      (λ t. by_cond (λ (x : Numbers). value_of x ≤ MARK) (not (eqb k c.cost)) _ _ (λ u. omega arith)
      (λ u. omega (arith, eqb→eq k c.cost (T_not-not (eqb k c.cost) u))))
  tried_small (d ∷ ds) v i k h l = go (step_of f m v d) (λ w s. tried_small ds w (suc i) (k + s) h (omega arith))
    where
      go : (x : Result Step Reason) → ((w s : ℕ) → value_of (tried f m c w (suc i) (k + s) ds) ≤ MARK)
          → value_of (on_step x i (λ w s. tried f m c w (suc i) (k + s) ds)) ≤ MARK
      go (Ok s) ih = ih s.cell s.cost
      go (Err r) ih = omega arith

  pub value_small : c.cost ≤ MARK → value_of (route_verdict f m c) ≤ MARK
  unfolding route_verdict
  value_small h = go (screen (claim_lines f m c)) refl
    where
      go : (x : Screen) → screen (claim_lines f m c) ≡ x → value_of (after_screen x (tried f m c c.start 0 0 c.route)) ≤ MARK
      go Passed e = tried_small c.route c.start 0 0 h (omega (arith, claim_short f m c e, few_cells (facts f m (claim_passed f m c e)).map))
      go (Refused n p) e = omega (arith, refused_small, ap place_in e)

  -- steps that have been tried refuse nothing, and no fault has the number 0
  told : (ds : List ℕ) (v i k : ℕ) → Told (tried f m c v i k ds)
  unfolding arrived
  told [] v i k =
      by_cond Told (not (eqb v c.goal)) _ _ (λ h. omega arith)
      (λ h. by_cond Told (not (eqb k c.cost)) _ _ (λ l. omega arith) (λ l. (k, refl)))
  told (d ∷ ds) v i k = go (step_of f m v d) (λ w s. told ds w (suc i) (k + s))
    where
      go : (x : Result Step Reason) → ((w s : ℕ) → Told (tried f m c w (suc i) (k + s) ds)) → Told (on_step x i (λ w s. tried f m c w (suc i) (k + s) ds))
      go (Ok s) ih = ih s.cell s.cost
      go (Err r) ih = fault_positive r

  pub route_refused_lines : (n p : ℕ) → route_verdict f m c ≡ refused n p → screen (claim_lines f m c) ≡ Screen.Refused n p
  unfolding route_verdict
  route_refused_lines n p = go (screen (claim_lines f m c)) (tried f m c c.start 0 0 c.route) (told c.route c.start 0 0)
    where
      go : (x : Screen) (v : Numbers) → Told v → after_screen x v ≡ refused n p → x ≡ Screen.Refused n p
      go Passed v t e = absurd (subst Told e t)
      go (Screen.Refused a b) v t e = cc

  pub zero_holds : number_of (route_verdict f m c) ≡ 0 → (k : ℕ) × (route_verdict f m c ≡ holds k)
  unfolding route_verdict
  zero_holds =
      go (screen (claim_lines f m c)) (screen_numbered (claim_lines f m c) tt) (tried f m c c.start 0 0 c.route) (told c.route c.start 0 0)
    where
      go : (x : Screen) → Numbered x → (v : Numbers) → Told v → number_of (after_screen x v) ≡ 0 → (k : ℕ) × (after_screen x v ≡ holds k)
      go Passed h (refused n p) t e = absurd t
      go Passed h (fault n p) t e = absurd (omega arith)
      go Passed h (gives vs) t e = (t.0, ap gives t.1)
      go (Screen.Refused n p) h v t e = absurd (omega arith)

-- a cell that breaks the rule is on the map
pub table_value_small : (f : Floor) (m : List ℕ) (s : ℕ) (t : List ℕ) → value_of (as_fault (table_verdict f m s t)) ≤ MARK
unfolding table_verdict
table_value_small f m s t = go (screen (table_lines f m s t)) refl
  where
    go : (x : Screen) → screen (table_lines f m s t) ≡ x → value_of (as_fault (after_screen x (judged f (breaking f m s t)))) ≤ MARK
    go Passed e =
        by_cond (λ (v : Numbers). value_of (as_fault v) ≤ MARK) (ltb (breaking f m s t) (cells f)) _ _
        (λ h. omega (arith, ltb→lt (breaking f m s t) (cells f) h, few_cells (facts f m (table_passed f m s t e)).map))
        (λ h. omega arith)
    go (Refused n p) e = omega (arith, place_small f m (drop 2 (table_lines f m s t)) (omega (arith, first_above_at_most m)), ap place_in e)
