-- Off the map nothing stands around; on it each number is the weight that `around_of` names.
use Prim.Native.Nat.{◌<◌}
use native.Mathlib.Omega.{arith}
use borrow.Author.Rules.{rules}
use borrow.Author.Tests.{le-ltb}
use Rattle.floor.specs.Place.{cells}
use Rattle.floor.specs.Around.{around_of}
use Rattle.floor.proofs.Passing.{MapFacts, facts, few_cells}
use Rattle.floor.proofs.Beside.{looked}
use Rattle.floor.proofs.Onwards.{around_cell_lem}
use Rattle.floor.proofs.neighbours.around_of.Statement.{statement}
use Rattle.floor.proofs.neighbours.around_of.Tie as tie

passed : (c : tie.Start) → MapFacts c.args.f c.args.map.now
passed c = (facts c.args.f c.args.map.now c.requires).map

returns : tie.Need-returns-then-map-cell
unfolding around_of
returns c =
    let s = c.before.before in
    rw (le-ltb s.args.cell (cells s.args.f) (omega (arith, (passed s).covers)))

inside : (c : tie.Else-map-cell) → c.args.cell < cells c.args.f
inside c = omega (arith, (passed c.before.before).covers)

place-of-requires : tie.Need-place_of-here-requires
place-of-requires c κs = let k = passed c.before.before in (k.wide, omega (arith, inside c, few_cells k))

direction-at-requires : tie.Need-direction_at-north-requires
direction-at-requires c κs = search rules

direction-at-requires-2 : tie.Need-direction_at-east-requires
direction-at-requires-2 c κs = search rules

direction-at-requires-3 : tie.Need-direction_at-south-requires
direction-at-requires-3 c κs = search rules

direction-at-requires-4 : tie.Need-direction_at-west-requires
direction-at-requires-4 c κs = search rules

shared-slice-read-widened : tie.Need-bounds-map-cell
shared-slice-read-widened c = search rules

widened-requires : tie.Need-widened-requires
widened-requires c κs = search rules

-- the place is worked out before the four rows are read
abbrev place : tie.After-direction_at-west → tie.After-place_of-here
place c = c.before.before.before.before

weight-beside-requires : tie.Need-weight_beside-requires
weight-beside-requires c κs =
    let west = c.before.before in
    let p = place west in
    (p.before.before.before.requires, inside p.before, p.place_of-here.ensures, west.direction_at-north.ensures.1)

weight-beside-requires-2 : tie.Need-weight_beside-requires-2
weight-beside-requires-2 c κs =
    let west = c.before.before.before in
    let p = place west in
    (p.before.before.before.requires, inside p.before, p.place_of-here.ensures, west.direction_at-east.ensures.1)

weight-beside-requires-3 : tie.Need-weight_beside-requires-3
weight-beside-requires-3 c κs =
    let west = c.before.before.before.before in
    let p = place west in
    (p.before.before.before.requires, inside p.before, p.place_of-here.ensures, west.direction_at-south.ensures.1)

weight-beside-requires-4 : tie.Need-weight_beside-requires-4
weight-beside-requires-4 c κs =
    let west = c.before.before.before.before.before in
    let p = place west in
    (p.before.before.before.requires, inside p.before, p.place_of-here.ensures, west.direction_at-west.ensures.1)

returns-2 : tie.Need-returns
returns-2 c =
    let here = c.before.before.before.before in
    let west = here.before.before in
    let p = place west in
    let s = p.before.before.before in
    rw (
      around_cell_lem s.args.f s.args.map.now s.args.cell (inside p.before),
      here.widened.ensures.0,
      looked s.args.f s.args.map.now c.weight_beside.ensures p.place_of-here.ensures west.direction_at-north.ensures.0,
      looked s.args.f s.args.map.now c.weight_beside-2.ensures p.place_of-here.ensures west.direction_at-east.ensures.0,
      looked s.args.f s.args.map.now c.weight_beside-3.ensures p.place_of-here.ensures west.direction_at-south.ensures.0,
      looked s.args.f s.args.map.now c.weight_beside-4.ensures p.place_of-here.ensures west.direction_at-west.ensures.0,
    )

pub around_of_spec : {M : Type 1} → statement M
around_of_spec =
    tie.close
    (tie.spec
    returns
    place-of-requires
    direction-at-requires
    direction-at-requires-2
    direction-at-requires-3
    direction-at-requires-4
    shared-slice-read-widened
    widened-requires
    weight-beside-requires
    weight-beside-requires-2
    weight-beside-requires-3
    weight-beside-requires-4
    returns-2)
