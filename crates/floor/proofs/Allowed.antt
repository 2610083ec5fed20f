-- An allowed step in 01's words: the tests of step_of are taken apart once, and put together again.
use Rattle.std.specs.Prelude.{Some, None, Result, Ok, Err}
use Rattle.floor.specs.declared.Step.{Step}
use mathlib.Core.Path.{◌≡◌, refl, sym, ap, ◌∙◌}
use mathlib.Core.Logic.{◌↔◌}
use mathlib.Core.Bool.{Bool, true, false, cond, not, ◌&&◌}
use mathlib.Core.List.{List}
use Prim.Native.Nat.{ℕ, ◌<◌}
use native.Mathlib.Omega.{arith}
use lib.Dec.{T, ltb, ltb→lt, lt→ltb}
use lib.ListN.{get_or}
use Rattle.paths.proofs.Bools.{T_true, T_and, and_T}
use Rattle.floor.specs.declared.Floor.{Floor}
use Rattle.floor.specs.declared.Place.{Place}
use Rattle.floor.specs.declared.Reason.{Reason}
use Rattle.floor.specs.declared.Reason.TheVariants.{CutsCorner}
use Rattle.floor.specs.Direction.{is_diagonal}
use Rattle.floor.specs.Place.{cells, place_of, cell_at, moved, corner, on_map, is_open}
use Rattle.floor.specs.Step.{step, is_direction, target, step_cost, cuts_corner, entering, step_of, onward, is_to, allowed}
use Rattle.floor.specs.Allowed.{Allowed}
use Rattle.floor.proofs.Places.{cell_of_place, cell_lt}

-- The step leads to w and costs c
pub record Leads (f : Floor) (m : List ℕ) (v d w c : ℕ) : Type 0 where
  pub steps : T (allowed f m v d)
  pub to : w ≡ target f v d
  pub costs : c ≡ step_cost m d v (target f v d)

pub open_on_map : (f : Floor) (m : List ℕ) (p : Place) → T (is_open f m p) → T (on_map f p)
unfolding is_open
open_on_map f m p t = (T_and (on_map f p) _ t).0

pub open_weight : (f : Floor) (m : List ℕ) (p : Place) → T (is_open f m p) → 0 < get_or m (cell_at f p) 0
unfolding is_open
open_weight f m p t = ltb→lt 0 (get_or m (cell_at f p) 0) (T_and (on_map f p) (ltb 0 (get_or m (cell_at f p) 0)) t).1

-- a test of step_of that a step to somewhere has passed
passed : (b : Bool) (r : Reason) (s : Result Step Reason) → T (is_to (cond (not b) (Err r) s)) → T b × T (is_to s)
passed true r s t = (tt, t)
passed false r s t = absurd t

-- the last test is the other way round
uncut : (diagonal sides : Bool) (r : Reason) (s : Result Step Reason) → T (is_to (cond (diagonal && not sides) (Err r) s)) → T diagonal → T sides
uncut true true r s t d = tt
uncut true false r s t d = absurd t
uncut false sides r s t d = absurd d

not_cut : (diagonal sides : Bool) → (T diagonal → T sides) → diagonal && not sides ≡ false
not_cut true true k = refl
not_cut true false k = absurd (k tt)
not_cut false sides k = refl

pub open_inside : (f : Floor) (m : List ℕ) (v : ℕ) → T (is_open f m (place_of f v)) → v < cells f
open_inside f m v t = rw (cell_of_place f v) at (cell_lt f (place_of f v) (open_on_map f m (place_of f v) t))

-- the parts of a step that leads somewhere
abbrev cell_in : Result Step Reason → ℕ
cell_in (Ok s) = s.cell
cell_in (Err r) = 0

abbrev cost_in : Result Step Reason → ℕ
cost_in (Ok s) = s.cost
cost_in (Err r) = 0

module _ (f : Floor) (m : List ℕ) (v d : ℕ) where
  pub allowed_is : T (allowed f m v d) → Allowed f m v d
  unfolding allowed step_of entering cuts_corner target
  allowed_is t =
      let there = moved (place_of f v) d in
      let sides = is_open f m (corner there (place_of f v)) && is_open f m (corner (place_of f v) there) in
      let a = passed (is_direction f d) _ _ t in
      let b = passed (ltb v (cells f)) _ _ a.1 in
      let c = passed (is_open f m (place_of f v)) _ _ b.1 in
      let o = passed (on_map f there) _ _ c.1 in
      let e = passed (is_open f m there) _ _ o.1 in
      record {
        direction = a.0;
        here = c.0;
        there = e.0;
        beside = λ q. T_and (is_open f m (corner there (place_of f v))) (is_open f m (corner (place_of f v) there)) (uncut (is_diagonal d) sides CutsCorner (Ok (step (target f v d) (step_cost m d v (target f v d)))) e.1 q);
      }

  -- where an allowed step leads and what it costs
  pub step_is : Allowed f m v d → step_of f m v d ≡ Ok (step (target f v d) (step_cost m d v (target f v d)))
  unfolding step_of entering cuts_corner target
  step_is a =
      let there = moved (place_of f v) d in
      rw (
        T_true (is_direction f d) a.direction,
        T_true (ltb v (cells f)) (lt→ltb v (cells f) (open_inside f m v a.here)),
        T_true (is_open f m (place_of f v)) a.here,
        T_true (on_map f there) (open_on_map f m there a.there),
        T_true (is_open f m there) a.there,
        not_cut (is_diagonal d) (is_open f m (corner there (place_of f v)) && is_open f m (corner (place_of f v) there))
            (λ q. let s = a.beside q in and_T (is_open f m (corner there (place_of f v))) _ s.0 s.1),
      )

  -- and so what the step test says of a step that leads somewhere
  pub leads : {w c : ℕ} → step_of f m v d ≡ Ok (step w c) → Leads f m v d w c
  unfolding allowed
  leads {w} {c} e =
      let t : T (allowed f m v d) = rw e tt in
      let s = step_is (allowed_is t) in
      let same = sym e ∙ s in
      record { steps = t; to = ap cell_in same; costs = ap cost_in same }

  pub leads_to : {w c : ℕ} → Leads f m v d w c → step_of f m v d ≡ Ok (step w c)
  leads_to l = rw (l.to, l.costs) (step_is (allowed_is l.steps))

  is_allowed : Allowed f m v d → T (allowed f m v d)
  unfolding allowed
  is_allowed a = rw (step_is a) tt

  pub allowed_words : T (allowed f m v d) ↔ Allowed f m v d
  allowed_words = (allowed_is, is_allowed)

  -- the same of a step without its reason
  pub enters : {w c : ℕ} → onward (step_of f m v d) ≡ Some (step w c) → Leads f m v d w c
  enters {w} {c} e = leads (enters_to (step_of f m v d) e)
    where
      enters_to : (s : Result Step Reason) → onward s ≡ Some (step w c) → s ≡ Ok (step w c)
      enters_to (Ok x) e = cc
      enters_to (Err r) e = let z : ◌≡◌ {A = ℕ} 0 1 = cc in absurd (omega arith)

  pub nowhere : onward (step_of f m v d) ≡ None → T (allowed f m v d) → ⊥
  unfolding allowed
  nowhere e t = barred (step_of f m v d) e t
    where
      barred : (s : Result Step Reason) → onward s ≡ None → T (is_to s) → ⊥
      barred (Ok x) e t = let z : ◌≡◌ {A = ℕ} 0 1 = cc in omega arith
      barred (Err r) e t = absurd t
