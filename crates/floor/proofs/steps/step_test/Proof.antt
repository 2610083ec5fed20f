-- A cell of the map is for `step_at`, with its place; for any other the two tests of `step_of` that come before.
use mathlib.Core.Path.{sym, ◌∙◌}
use native.Mathlib.Omega.{arith}
use borrow.Author.Rules.{rules}
use borrow.Author.Tests.{le-ltb}
use Rattle.floor.specs.Place.{cells}
use Rattle.floor.specs.Step.{step_of}
use Rattle.floor.proofs.Passing.{MapFacts, facts, few_cells}
use Rattle.floor.proofs.steps.step_test.Statement.{statement}
use Rattle.floor.proofs.steps.step_test.Tie as tie

passed : (c : tie.Start) → MapFacts c.args.f c.args.map.now
passed c = (facts c.args.f c.args.map.now c.requires).map

place-of-requires : tie.Need-place_of-here-requires
place-of-requires c κs = let k = passed c.before.before in (k.wide, omega (arith, few_cells k, k.covers))

step-at-requires : tie.Need-step_at-requires
step-at-requires c κs =
    let s = c.before.before.before in
    (s.requires, omega (arith, (passed s).covers), c.place_of-here.ensures)

returns : tie.Need-returns-then-cell-map
returns c = search rules

is-direction-requires : tie.Need-is_direction-requires
is-direction-requires c κs = search rules

returns-2 : tie.Need-returns-then-is_direction
unfolding step_of
returns-2 c =
    let s = c.before.before.before.before in
    rw (sym c.is_direction.ensures ∙ c.if-is_direction.true, le-ltb s.args.cell (cells s.args.f) (omega (arith, (passed s).covers)))

returns-3 : tie.Need-returns
unfolding step_of
returns-3 c = rw (sym c.is_direction.ensures ∙ c.if-is_direction.false)

pub step_test_spec : {M : Type 1} → statement M
step_test_spec =
    tie.close
    (tie.spec place-of-requires step-at-requires returns is-direction-requires returns-2 returns-3)
