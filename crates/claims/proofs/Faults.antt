-- Faults: the tests of a step from an open cell are its lines in their order, so the first step that is not allowed is told by its lowest line, and the end by its own.
use Rattle.std.specs.Prelude.{Result, Ok, Err}
use mathlib.Core.Path.{◌≡◌, refl, sym, ◌∙◌, ap}
use mathlib.Core.Logic.{◌↔◌, ◌⊎◌, inl, inr, ⊎_elim}
use mathlib.Core.Bool.{Bool, true, false, cond, not, ◌&&◌, ◌||◌}
use mathlib.Core.List.{List, [], ◌∷◌, ◌++◌}
use Prim.Native.Nat.{ℕ, suc, ◌%◌, ◌<◌}
use native.Mathlib.Decide.{ℕ_discrete, dec_lt}
use native.Mathlib.Omega.{arith}
use borrow.Author.Tests.{eq-eqb, ne_eqb, lt-ltb, le-ltb}
use lib.Dec.{T, eqb, ltb}
use lib.ListN.{length, get_or, take, drop, take-append-drop}
use lib.Seq.{drop-cons, length-take-le}
use Rattle.paths.specs.Graph.{Graph}
use Rattle.paths.specs.Route.{walks, ends, cost_of}
use Rattle.paths.proofs.Bools.{dec_T, and_T}
use Rattle.floor.specs.declared.Floor.{Floor}
use Rattle.floor.specs.declared.Place.{Place}
use Rattle.floor.specs.declared.Reason.{Reason}
use Rattle.floor.specs.declared.Reason.TheVariants.{NoSuchDirection, LeavesMap, EntersBlocked, CutsCorner}
use Rattle.floor.specs.declared.Step.{Step}
use Rattle.floor.specs.Screen.{Screen, Passed, Refused}
use Rattle.floor.specs.Direction.{is_diagonal}
use Rattle.floor.specs.Place.{cells, place_of, cell_at, moved, corner, on_map, is_open}
use Rattle.floor.specs.Step.{step, is_direction, target, step_cost, cuts_corner, entering, step_of, allowed, graph}
use Rattle.floor.specs.Refusal.{Line, line, screen, HasPassed}
use Rattle.floor.specs.LowestLine.{Has}
use Rattle.floor.proofs.Lines.{lowest_line}
use Rattle.floor.proofs.Passing.{facts}
use Rattle.floor.proofs.Places.{place_open}
use Rattle.floor.proofs.Allowed.{allowed_is, step_is, leads}
use Rattle.floor.specs.Numbers.{Numbers, fault, after_screen}
use Rattle.claims.specs.Route.{Claim, holds, claim_lines, arrived, on_step, tried, route_verdict}
use Rattle.claims.specs.Faults.{step_faults, end_faults, stands_at, IsFault, of_step, of_end}
use Rattle.claims.proofs.Passing.{claim_passed}
use Rattle.claims.proofs.Holding.{walked}
use Rattle.claims.proofs.Claims.{by_steps, after_all, leaves_open}

-- a fault that lines give, or the verdict that follows where they give none
abbrev told : Screen → Numbers → Numbers
told Passed v = v
told (Refused n p) v = fault n p

told_fault : (s : Screen) (k n p : ℕ) → told s (holds k) ≡ fault n p → s ≡ Refused n p
told_fault Passed k n p e = let z : ◌≡◌ {A = ℕ} 0 1 = cc in absurd (omega arith)
told_fault (Refused a b) k n p e = cc

-- the tests of a step in the order of step_of, and its lines
same_tests : (direction there blocked diagonal a b : Bool) (i w s : ℕ) (rest : ℕ → ℕ → Numbers)
    → on_step (cond (not direction) (Err NoSuchDirection) (cond (not there) (Err LeavesMap) (cond (not (there && not blocked)) (Err EntersBlocked) (cond (diagonal && not (a && b)) (Err CutsCorner) (Ok (step w s)))))) i rest
    ≡ told (screen (line 41 (not direction) i ∷ line 42 (not there) i ∷ line 43 (there && blocked) i ∷ line 44 (diagonal && (not a || not b)) i ∷ [])) (rest w s)
same_tests false there blocked diagonal a b i w s rest = refl
same_tests true false blocked diagonal a b i w s rest = refl
same_tests true true true diagonal a b i w s rest = refl
same_tests true true false false a b i w s rest = refl
same_tests true true false true false b i w s rest = refl
same_tests true true false true true false i w s rest = refl
same_tests true true false true true true i w s rest = refl

positive : (n : ℕ) → ltb 0 n ≡ not (eqb n 0)
positive n = elim (dec_lt 0 n) [
  | yes h ↦ rw (lt-ltb 0 n h, ne_eqb n 0 (λ e. absurd (omega arith)))
  | no h ↦ rw (le-ltb 0 n (omega arith), eq-eqb n 0 (omega arith))
]

open_tests : (f : Floor) (m : List ℕ) (p : Place) → is_open f m p ≡ on_map f p && not (eqb (get_or m (cell_at f p) 0) 0)
unfolding is_open
open_tests f m p = rw (positive (get_or m (cell_at f p) 0))

above_seven : (d : ℕ) → ltb 7 d ≡ not (ltb d 8)
above_seven d = elim (dec_lt d 8) [
  | yes h ↦ rw (lt-ltb d 8 h, le-ltb 7 d (omega arith))
  | no h ↦ rw (le-ltb d 8 (omega arith), lt-ltb 7 d (omega arith))
]

odd : (d : ℕ) → eqb (d % 2) 1 ≡ not (eqb (d % 2) 0)
odd d = elim (ℕ_discrete (d % 2) 0) [
  | yes e ↦ rw (eq-eqb (d % 2) 0 e, ne_eqb (d % 2) 1 (λ k. absurd (omega arith)))
  | no k ↦ rw (ne_eqb (d % 2) 0 k, eq-eqb (d % 2) 1 (omega arith))
]

-- 41 is given where the direction does not exist
no_direction : (f : Floor) (d : ℕ) → (f.ways ≡ 4) ⊎ (f.ways ≡ 8) → ltb 7 d || (eqb f.ways 4 && eqb (d % 2) 1) ≡ not (is_direction f d)
unfolding is_direction
no_direction f d (inl e) = rw (e, above_seven d, odd d) (go (ltb d 8) (eqb (d % 2) 0))
  where
    go : (a b : Bool) → not a || not b ≡ not (a && b)
    go true b = refl
    go false b = refl
no_direction f d (inr e) = rw (e, above_seven d) (go (ltb d 8))
  where
    go : (a : Bool) → not a || false ≡ not (a && true)
    go true = refl
    go false = refl

module _ (f : Floor) (m : List ℕ) (v d : ℕ) where
  -- a step from an open cell is told by its lines
  step_told : HasPassed f m → v < cells f → 0 < get_or m v 0 → (i : ℕ) (rest : ℕ → ℕ → Numbers)
      → on_step (step_of f m v d) i rest ≡ told (screen (step_faults f m v d i)) (rest (target f v d) (step_cost m d v (target f v d)))
  unfolding step_of entering cuts_corner target
  step_told p inside weight i rest =
      let k = facts f m p in
      let there = moved (place_of f v) d in
      rw (
        no_direction f d k.ways,
        lt-ltb v (cells f) inside,
        place_open k.map v inside ∙ lt-ltb 0 (get_or m v 0) weight,
        open_tests f m there,
      )
      (same_tests (is_direction f d) (on_map f there) (eqb (get_or m (cell_at f there) 0) 0) (is_diagonal d) (is_open f m (corner there (place_of f v))) (is_open f m (corner (place_of f v) there)) i _ _ rest)

  -- and is allowed exactly if it has no fault
  pub allowed_faultless : HasPassed f m → v < cells f → 0 < get_or m v 0 → (i : ℕ) → T (allowed f m v d) ↔ (screen (step_faults f m v d i) ≡ Passed)
  allowed_faultless p inside weight i = (
    λ t. without (screen (step_faults f m v d i)) (sym (by_lines) ∙ rw (step_is f m v d (allowed_is f m v d t))),
    λ e. leads_on (step_of f m v d) refl (by_lines ∙ rw e),
  )
    where
      by_lines : on_step (step_of f m v d) i (λ w s. holds 0) ≡ told (screen (step_faults f m v d i)) (holds 0)
      by_lines = step_told p inside weight i (λ w s. holds 0)

      without : (x : Screen) → told x (holds 0) ≡ holds 0 → x ≡ Passed
      without Passed h = refl
      without (Refused n q) h = let z : ◌≡◌ {A = ℕ} 0 1 = cc in absurd (omega arith)

      leads_on : (x : Result Step Reason) → step_of f m v d ≡ x → on_step x i (λ w s. holds 0) ≡ holds 0 → T (allowed f m v d)
      leads_on (Ok s) q h = (leads f m v d q).steps
      leads_on (Err r) q h = let z : ◌≡◌ {A = ℕ} 0 1 = cc in absurd (omega arith)

-- every line of a step has its place
step_place : (f : Floor) (m : List ℕ) (v d i n p : ℕ) → Has (line n true p) (step_faults f m v d i) → p ≡ i
step_place f m v d i n p (inl e) = ap (λ (l : Line). l.place) e
step_place f m v d i n p (inr (inl e)) = ap (λ (l : Line). l.place) e
step_place f m v d i n p (inr (inr (inl e))) = ap (λ (l : Line). l.place) e
step_place f m v d i n p (inr (inr (inr (inl e)))) = ap (λ (l : Line). l.place) e
step_place f m v d i n p (inr (inr (inr (inr h)))) = absurd h

-- a step that is not allowed, after steps that are
record Stops (g : Graph) (v : ℕ) (ds : List ℕ) : Type 0 where
  place : ℕ
  inside : place < length ds
  before : T (walks g v (take place ds))
  barred : T (g.allowed (ends g v (take place ds)) (get_or ds place 0)) → ⊥

walks_or_stops : (g : Graph) (v : ℕ) (ds : List ℕ) → T (walks g v ds) ⊎ Stops g v ds
walks_or_stops g v [] = inl tt
walks_or_stops g v (d ∷ ds) = go (dec_T (g.allowed v d)) (walks_or_stops g (g.to v d) ds)
  where
    go : Dec (T (g.allowed v d)) → T (walks g (g.to v d) ds) ⊎ Stops g (g.to v d) ds → T (walks g v (d ∷ ds)) ⊎ Stops g v (d ∷ ds)
    go (no k) rest = inr (record { place = 0; inside = omega arith; before = tt; barred = k })
    go (yes a) (inl t) = inl (and_T (g.allowed v d) _ a t)
    go (yes a) (inr s) =
        inr (record { place = suc s.place; inside = omega (arith, s.inside); before = and_T (g.allowed v d) _ a s.before; barred = s.barred })

passed_fault : (x : Screen) (v : Numbers) (n p : ℕ) → after_screen x v ≡ fault n p → x ≡ Passed
passed_fault Passed v n p e = refl
passed_fault (Refused a b) v n p e = let z : ◌≡◌ {A = ℕ} 0 1 = cc in absurd (omega arith)

module _ (f : Floor) (m : List ℕ) (c : Claim) where
  abbrev g : Graph
  g = graph f m

  module _ (passed : screen (claim_lines f m c) ≡ Passed) where
    -- the step at a place whose steps before are allowed, by its lines
    at_step : (p : ℕ) → p < length c.route → T (walks g c.start (take p c.route)) → (a b : ℕ)
        → screen (step_faults f m (stands_at f m c p) (get_or c.route p 0) p) ≡ Refused a b → route_verdict f m c ≡ fault a b
    at_step p h t a b e =
        let ds = take p c.route in
        let split : c.route ≡ ds ++ (get_or c.route p 0 ∷ drop (suc p) c.route) =
        sym (take-append-drop p c.route) ∙ ap (λ (es : List ℕ). ds ++ es) (drop-cons c.route p 0 h) in
        let stands = leaves_open f m c passed ds t in
        let size : length ds ≡ p = length-take-le p c.route (omega arith) in
        by_steps f m c passed
        ∙ ap (tried f m c c.start 0 0) split
        ∙ walked f m c ds _ c.start t
        ∙ step_told f m (stands_at f m c p) (get_or c.route p 0) (claim_passed f m c passed) stands.0 stands.1 (length ds) _
        ∙ rw (size, e)

    -- and the end by its own
    at_end : T (walks g c.start c.route) → route_verdict f m c ≡ told (screen (end_faults f m c)) (holds (cost_of g c.start c.route))
    unfolding arrived
    at_end t = after_all f m c passed t ∙ go (eqb (ends g c.start c.route) c.goal) (eqb (cost_of g c.start c.route) c.cost) _ _
      where
        go : (a b : Bool) (i k : ℕ)
            → cond (not a) (fault 45 i) (cond (not b) (fault 46 i) (holds k)) ≡ told (screen (line 45 (not a) i ∷ line 46 (not b) i ∷ [])) (holds k)
        go false b i k = refl
        go true false i k = refl
        go true true i k = refl

    first_is : (n p : ℕ) → route_verdict f m c ≡ fault n p → IsFault f m c n p
    first_is n p e = ⊎_elim end step (walks_or_stops g c.start c.route)
      where
        end : T (walks g c.start c.route) → IsFault f m c n p
        end t = of_end t ((lowest_line (end_faults f m c) 0 tt n p).0 (told_fault _ _ n p (sym (at_end t) ∙ e)))

        step : Stops g c.start c.route → IsFault f m c n p
        step s = go (screen lines) refl
          where
            v : ℕ
            v = stands_at f m c s.place

            d : ℕ
            d = get_or c.route s.place 0

            lines : List Line
            lines = step_faults f m v d s.place

            go : (x : Screen) → screen lines ≡ x → IsFault f m c n p
            go Passed q =
                let stands = leaves_open f m c passed (take s.place c.route) s.before in
                absurd (s.barred ((allowed_faultless f m v d (claim_passed f m c passed) stands.0 stands.1 s.place).1 q))
            go (Refused a b) q =
                let same : fault a b ≡ fault n p = sym (at_step s.place s.inside s.before a b q) ∙ e in
                let given : screen lines ≡ Refused n p = cc in
                let low = (lowest_line lines 0 tt n p).0 given in
                let place = step_place f m v d s.place n p low.applies in
                rw place (of_step s.inside s.before (rw place at low))

  -- A fault is answered, of a claim that is not refused, exactly as 01 says
  pub fault_exactly : (n p : ℕ) → (route_verdict f m c ≡ fault n p) ↔ ((screen (claim_lines f m c) ≡ Passed) × IsFault f m c n p)
  unfolding route_verdict
  fault_exactly n p = (λ e. let q = passed_fault (screen (claim_lines f m c)) _ n p e in (q, first_is q n p e), λ x. to x.0 x.1)
    where
      to : screen (claim_lines f m c) ≡ Passed → IsFault f m c n p → route_verdict f m c ≡ fault n p
      to q (of_step h t low) = at_step q p h t n p ((lowest_line (step_faults f m (stands_at f m c p) (get_or c.route p 0) p) 0 tt n p).1 low)
      to q (of_end t low) = at_end q t ∙ rw ((lowest_line (end_faults f m c) 0 tt n p).1 low)
