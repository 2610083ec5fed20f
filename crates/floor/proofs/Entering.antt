-- The step into a cell: the step back from the cell enters the cell that it leaves and costs the same, by the laws of the step back at the opposite direction.
use Rattle.std.specs.Prelude.{Option, Some, None}
use mathlib.Core.Path.{◌≡◌, refl, sym, ◌∙◌, ap, subst}
use mathlib.Core.Bool.{Bool, true, false, cond, not, ◌&&◌}
use mathlib.Core.List.{List}
use Prim.Native.Nat.{ℕ, ◌+◌, ◌≤◌, ◌<◌}
use native.Mathlib.Omega.{arith}
use borrow.Author.Tests.{eq-eqb}
use lib.Dec.{T, eqb, eqb→eq}
use lib.ListN.{get_or}
use Rattle.paths.specs.Graph.{MARK}
use Rattle.paths.specs.Table.{offer}
use Rattle.paths.proofs.Bools.{T_true, not_T_false, T_and}
use Rattle.paths.proofs.Below.{every_at}
use Rattle.floor.specs.declared.Floor.{Floor}
use Rattle.floor.specs.declared.Step.{Step}
use Rattle.floor.specs.Direction.{opposite}
use Rattle.floor.specs.Place.{cells}
use Rattle.floor.specs.Step.{step, target, step_cost, step_of, onward, allowed, into_of, graph}
use Rattle.floor.proofs.Rows.{direction_lt}
use Rattle.floor.proofs.Allowed.{allowed_is, leads, leads_to, enters, nowhere, open_inside}
use Rattle.floor.proofs.Laws.{step_back_allowed, there_and_back}

opposite_twice : (d : ℕ) → d < 8 → opposite (opposite d) ≡ d
opposite_twice d h = eqb→eq (opposite (opposite d)) d (every_at (λ e. eqb (opposite (opposite e)) e) 8 tt d h)

-- the answers of the step back, turned round
module _ (f : Floor) (m : List ℕ) (v d : ℕ) where
  pub no_direction : 8 ≤ d → None ≡ into_of f m v d
  unfolding into_of
  no_direction h =
      let u = target f v (opposite d) in
      rw (not_T_false (allowed f m u d) (λ t. let l = direction_lt f d (allowed_is f m u d t).direction in omega arith))

  pub into_nothing : onward (step_of f m v (opposite d)) ≡ None → None ≡ into_of f m v d
  unfolding into_of
  into_nothing e =
      let u = target f v (opposite d) in
      rw (not_T_false (allowed f m u d && eqb (target f u d) v) (λ b.
      let s = T_and (allowed f m u d) (eqb (target f u d) v) b in
      nowhere f m v (opposite d) e (subst (λ (w : ℕ). T (allowed f m w (opposite d))) (eqb→eq (target f u d) v s.1) (step_back_allowed f m u d s.0))))

  pub into_from : (w c : ℕ) → d < 8 → onward (step_of f m v (opposite d)) ≡ Some (step w c) → Some (step w c) ≡ into_of f m v d
  unfolding into_of
  into_from w c h e =
      let l = enters f m v (opposite d) e in
      let back = there_and_back f m v (opposite d) (leads_to f m v (opposite d) l) in
      let there = leads f m w d (rw (opposite_twice d h) at back) in
      rw (← l.to, T_true (allowed f m w d) there.steps, eq-eqb (target f w d) v (sym there.to), there.costs, ← there.to)

  -- the step back, whatever it is
  pub into_back : d < 8 → onward (step_of f m v (opposite d)) ≡ into_of f m v d
  into_back h = go (onward (step_of f m v (opposite d))) refl
    where
      go : (o : Option Step) → onward (step_of f m v (opposite d)) ≡ o → o ≡ into_of f m v d
      go None e = into_nothing e
      go (Some s) e = into_from s.cell s.cost h e

  -- it leaves a cell of the floor
  pub into_inside : (u c : ℕ) → into_of f m v d ≡ Some (step u c) → (u ≡ target f v (opposite d)) × (u < cells f)
  unfolding into_of
  into_inside u c e =
      let w = target f v (opposite d) in
      let h = taken (allowed f m w d && eqb (target f w d) v) w (step_cost m d w v) e in
      let t = (T_and (allowed f m w d) (eqb (target f w d) v) h.0).0 in
      (h.1, rw h.1 (open_inside f m w (allowed_is f m w d t).here))
    where
      cell_in : Option Step → ℕ
      cell_in (Some s) = s.cell
      cell_in None = 0

      taken : (b : Bool) (w x : ℕ) → cond b (Some (step w x)) None ≡ Some (step u c) → T b × (u ≡ w)
      taken true w x e = (tt, sym (ap cell_in e))
      taken false w x e = let z : ◌≡◌ {A = ℕ} 0 1 = cc in absurd (omega arith)

-- the same of the step in, as code has it
pub into_cell : (f : Floor) (m : List ℕ) (v d : ℕ) (o : Option Step) (s : Step) → o ≡ into_of f m v d → o ≡ Some s → s.cell < cells f
into_cell f m v d o s h e = (into_inside f m v d s.cell s.cost (sym h ∙ e)).1

-- what the step into a cell offers it by a table: the table's value of the cell that it leaves, if that isn't MARK, plus its cost
abbrev pub offered : List ℕ → Option Step → Option ℕ
offered t (Some s) = cond (eqb (get_or t s.cell 0) MARK) None (Some (get_or t s.cell 0 + s.cost))
offered t None = None

pub offer_into : (f : Floor) (m t : List ℕ) (v d : ℕ) → offer (graph f m) t v d ≡ offered t (into_of f m v d)
unfolding offer into_of
offer_into f m t v d =
    let u = target f v (opposite d) in
    same u (step_cost m d u (target f u d)) (step_cost m d u v) (allowed f m u d) (eqb (target f u d) v) (λ b. rw (eqb→eq (target f u d) v b))
  where
    turned : (b : Bool) (x : Option ℕ) → cond (not b) x None ≡ cond b None x
    turned true x = refl
    turned false x = refl

    same : (u x y : ℕ) (a b : Bool) → (T b → x ≡ y)
        → cond (a && b && not (eqb (get_or t u 0) MARK)) (Some (get_or t u 0 + x)) None ≡ offered t (cond (a && b) (Some (step u y)) None)
    same u x y true true e = rw (e tt) (turned (eqb (get_or t u 0) MARK) (Some (get_or t u 0 + y)))
    same u x y true false e = refl
    same u x y false b e = refl
