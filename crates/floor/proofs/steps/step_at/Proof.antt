-- Each return decides one of the tests of `step_of`, in their order, and what they leave is for `step_from`.
use mathlib.Core.Path.{◌≡◌, sym, ◌∙◌}
use mathlib.Core.Bool.{true}
use native.Mathlib.Omega.{arith}
use borrow.Author.Rules.{rules}
use borrow.Author.Tests.{lt-ltb}
use lib.ListN.{get_or}
use Rattle.floor.specs.Place.{cells}
use Rattle.floor.specs.Step.{is_direction, step_of}
use Rattle.paths.proofs.Bools.{true_T}
use Rattle.floor.proofs.Passing.{MapFacts, facts}
use Rattle.floor.proofs.Places.{place_open}
use Rattle.floor.proofs.steps.step_at.Statement.{statement}
use Rattle.floor.proofs.steps.step_at.Tie as tie

passed : (c : tie.Start) → MapFacts c.args.f c.args.map.now
passed c = (facts c.args.f c.args.map.now c.requires.0).map

is-direction-requires : tie.Need-is_direction-requires
is-direction-requires c κs = search rules

direction : (c : tie.Then-is_direction) → is_direction c.args.f c.args.direction ≡ true
direction c = sym c.is_direction.ensures ∙ c.if-is_direction.true

shared-slice-read-if2 : tie.Need-bounds-map-cell
shared-slice-read-if2 c = let s = c.before.before.before.before in omega (arith, s.requires.1, (passed s).covers)

returns : tie.Need-returns-then-map-cell-eq0
unfolding step_of
returns c =
    let t = c.before.before in
    let s = t.before.before.before in
    rw (direction t, lt-ltb s.args.cell (cells s.args.f) s.requires.1, place_open (passed s) s.args.cell s.requires.1, c.if-map-cell-eq0.true)

step-from-requires : tie.Need-step_from-requires
step-from-requires c κs =
    let t = c.before.before in
    let s = t in
    (s.requires.0, s.requires.1, s.requires.2, true_T _ (direction t))

returns-2 : tie.Need-returns-then-is_direction
unfolding step_of
returns-2 c =
    let t = c.before.before.before in
    let s = t.before.before.before in
    rw (direction t, lt-ltb s.args.cell (cells s.args.f) s.requires.1, place_open (passed s) s.args.cell s.requires.1, lt-ltb 0 (get_or s.args.map.now s.args.cell 0) (omega arith)) (rw s.requires.2 at c.step_from.ensures)

returns-3 : tie.Need-returns
unfolding step_of
returns-3 c = rw (sym c.is_direction.ensures ∙ c.if-is_direction.false)

pub step_at_spec : {M : Type 1} → statement M
step_at_spec =
    tie.close
    (tie.spec
    is-direction-requires
    shared-slice-read-if2
    returns
    step-from-requires
    returns-2
    returns-3)
