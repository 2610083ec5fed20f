-- Each return decides by one of the weights that `Onwards` names.
use Rattle.std.specs.Prelude.{Option, Some}
use mathlib.Core.Path.{◌≡◌, sym, ◌∙◌}
use mathlib.Core.Bool.{true}
use Prim.Native.Nat.{ℕ, ◌+◌, ◌*◌, ◌<◌}
use native.Mathlib.Omega.{arith}
use borrow.Author.Rules.{rules}
use lib.ListN.{get_or}
use Rattle.paths.proofs.Bools.{true_T}
use Rattle.floor.specs.Direction.{row_of}
use Rattle.floor.specs.Place.{cells, place_of, cell_at, moved}
use Rattle.floor.specs.declared.Step.{Step}
use Rattle.floor.specs.Step.{step, is_direction}
use Rattle.floor.specs.Around.{weight_ahead}
use Rattle.floor.proofs.Passing.{MapFacts, facts, few_cells}
use Rattle.floor.proofs.Rows.{direction_lt}
use Rattle.floor.proofs.Onwards.{around_weight, weight_inside, no_direction_onward, blocked_onward, barred_onward, free_on_map, free_weight, free_onward}
use Rattle.floor.proofs.neighbours.step_onward.Statement.{statement}
use Rattle.floor.proofs.neighbours.step_onward.Tie as tie

passed : (c : tie.Start) → MapFacts c.args.f c.args.map.now
passed c = (facts c.args.f c.args.map.now c.requires.0).map

-- the weight that stands in `around` is the cell's
weight : (c : tie.Start) → c.args.around.weight ≡ get_or c.args.map.now c.args.cell 0
weight c = rw c.requires.1 (around_weight (passed c) c.args.cell)

is-direction-requires : tie.Need-is_direction-requires
is-direction-requires c κs = search rules

direction : (c : tie.Then-is_direction) → is_direction c.args.f c.args.direction ≡ true
direction c = sym c.is_direction.ensures ∙ c.if-is_direction.true

returns : tie.Need-returns-then-left-eq0
returns c =
    let t = c.before in
    let s = t.before.before.before in
    blocked_onward (passed s) s.args.cell s.args.direction (direction t) (sym (weight s) ∙ c.if-left-eq0.true)

-- the cell is open, and so on the map
module _ (c : tie.Else-left-eq0) where
  abbrev s : tie.Start
  s = c.before.before.before.before

  leaves : 0 < get_or s.args.map.now s.args.cell 0
  leaves = omega (arith, weight s)

  inside : s.args.cell < cells s.args.f
  inside = weight_inside (passed s) s.args.cell leaves

  below : s.args.direction < 8
  below = direction_lt s.args.f s.args.direction (true_T _ (direction c.before))

weight-ahead-requires : tie.Need-weight_ahead-entered-requires
weight-ahead-requires c κs = ((s c).requires.0, inside c, (s c).requires.1, below c)

returns-2 : tie.Need-returns-then-entered-eq0
returns-2 c =
    let e = c.before.before in
    barred_onward (passed (s e)) (s e).args.cell (s e).args.direction (direction e.before) (leaves e) (sym c.weight_ahead-entered.ensures ∙ c.if-entered-eq0.true)

-- the weight ahead is above 0
module _ (c : tie.Else-entered-eq0) where
  abbrev e : tie.Else-left-eq0
  e = c.before.before

  free : 0 < weight_ahead (s e).args.f (s e).args.map.now (s e).args.cell (s e).args.direction
  free = omega (arith, c.weight_ahead-entered.ensures)

direction-at-requires : tie.Need-direction_at-d-requires
direction-at-requires c κs = below (e c)

neighbour-requires : tie.Need-neighbour-to-requires
neighbour-requires c κs =
    let x = c.before in
    let k = passed (s (e x)) in
    let there = free_on_map k (s (e x)).args.cell (s (e x)).args.direction (direction (e x).before) (leaves (e x)) (free x) in
    (omega (arith, inside (e x), few_cells k, k.wide_top), c.direction_at-d.ensures.1, rw c.direction_at-d.ensures.0 there)

step-cost-requires : tie.Need-step_cost-requires
step-cost-requires c κs =
    let x = c.before.before in
    let z = s (e x) in
    let k = passed z in
    let ahead = x.weight_ahead-entered.ensures ∙ free_weight k z.args.cell z.args.direction (direction (e x).before) (leaves (e x)) (free x) in (
      omega (arith, weight z, k.weights z.args.cell),
      omega (arith, ahead, k.weights (cell_at z.args.f (moved (place_of z.args.f z.args.cell) z.args.direction))),
      c.direction_at-d.ensures.1,
    )

same_step : {w w' a a' b b' c : ℕ} {o : Option Step} (u : ℕ) → w ≡ w' → c ≡ u * (a + b) → a ≡ a' → b ≡ b' → Some (step w' (u * (a' + b'))) ≡ o → Some (step w c) ≡ o
same_step u e h p q o = rw (e, h, p, q) o

returns-3 : tie.Need-returns-then-is_direction
returns-3 c =
    let n = c.before in
    let row = n.direction_at-d.ensures.0 in
    let x = n.before.before in
    same_step (row_of (s (e x)).args.direction).unit (rw row at n.neighbour-to.ensures) (rw row at c.step_cost.ensures) (weight (s (e x))) x.weight_ahead-entered.ensures
    (free_onward (passed (s (e x))) (s (e x)).args.cell (s (e x)).args.direction (direction (e x).before) (leaves (e x)) (free x))

returns-4 : tie.Need-returns
returns-4 c =
    let s = c.before.before.before in
    no_direction_onward (passed s) s.args.cell s.args.direction (sym c.is_direction.ensures ∙ c.if-is_direction.false)

pub step_onward_spec : {M : Type 1} → statement M
step_onward_spec =
    tie.close
    (tie.spec
    is-direction-requires
    returns
    weight-ahead-requires
    returns-2
    direction-at-requires
    neighbour-requires
    step-cost-requires
    returns-3
    returns-4)
