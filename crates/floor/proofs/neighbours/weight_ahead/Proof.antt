-- A straight step returns at once; a diagonal one looks at the cells beside it, and then ahead.
use mathlib.Core.Path.{◌≡◌, sym, ◌∙◌}
use Prim.Native.Nat.{◌+◌, ◌-◌, ◌%◌, ◌<◌}
use native.Mathlib.Omega.{arith}
use borrow.Author.Rules.{rules}
use lib.Dec.{T}
use lib.ListN.{get_or}
use Rattle.floor.specs.Place.{place_of, cell_at, moved, on_map}
use Rattle.floor.specs.Around.{weight_beside, weight_ahead}
use Rattle.floor.proofs.Passing.{MapFacts, facts, few_cells}
use Rattle.floor.proofs.Places.{cell_lt}
use Rattle.floor.proofs.Onwards.{ahead_straight, ahead_before, ahead_after, ahead_on_map, ahead_diagonal}
use Rattle.floor.proofs.neighbours.weight_ahead.Statement.{statement}
use Rattle.floor.proofs.neighbours.weight_ahead.Tie as tie

passed : (c : tie.Start) → MapFacts c.args.f c.args.map.now
passed c = (facts c.args.f c.args.map.now c.requires.0).map

straight-requires : tie.Need-straight-requires
straight-requires c κs = search rules

returns : tie.Need-returns-then-direction-eq0
returns c =
    let s = c in
    c.straight.ensures ∙ sym (ahead_straight s.args.f s.args.map.now s.args.cell s.args.direction c.if-direction-eq0.true)

sub-straight : tie.Need-overflow_sub-direction
sub-straight c = search rules

straight-requires-2 : tie.Need-straight-requires-2
straight-requires-2 c κs = search rules

returns-2 : tie.Need-returns-then-straight-eq0
returns-2 c =
    let s = c in
    let beside = sym c.straight-2.ensures ∙ c.if-straight-eq0.true in
    sym (ahead_before s.args.f s.args.map.now s.args.cell s.args.direction s.requires.3 (omega arith) beside)

add-straight : tie.Need-overflow_add-direction
add-straight c = search rules

straight-requires-3 : tie.Need-straight-requires-3
straight-requires-3 c κs = search rules

returns-3 : tie.Need-returns-then-straight-eq0-2
returns-3 c =
    let s = c in
    let beside = sym c.straight-3.ensures ∙ c.if-straight-eq0-2.true in
    sym (ahead_after s.args.f s.args.map.now s.args.cell s.args.direction s.requires.3 (omega arith) beside)

-- both cells beside the step are open
module _ (c : tie.Else-straight-eq0-2) where
  abbrev s : tie.Start
  s = c.before.before.before.before.before.before

  odd : s.args.direction % 2 ≡ 1
  odd = omega arith

  one : 0 < weight_beside s.args.f s.args.map.now s.args.cell (s.args.direction - 1)
  one = omega (arith, c.straight-2.ensures)

  other : 0 < weight_beside s.args.f s.args.map.now s.args.cell ((s.args.direction + 1) % 8)
  other = omega (arith, c.straight-3.ensures)

  ahead : T (on_map s.args.f (moved (place_of s.args.f s.args.cell) s.args.direction))
  ahead = ahead_on_map s.args.f s.args.map.now s.args.cell s.args.direction s.requires.3 odd one other

  weighs : weight_ahead s.args.f s.args.map.now s.args.cell s.args.direction ≡ get_or s.args.map.now (cell_at s.args.f (moved (place_of s.args.f s.args.cell) s.args.direction)) 0
  weighs = ahead_diagonal s.args.f s.args.map.now s.args.cell s.args.direction s.requires.3 odd one other

direction-at-requires : tie.Need-direction_at-d-requires
direction-at-requires c κs = (s c).requires.3

neighbour-requires : tie.Need-neighbour-to-requires
neighbour-requires c κs =
    let e = c.before in
    let k = passed (s e) in
    (omega (arith, (s e).requires.1, few_cells k, k.wide_top), c.direction_at-d.ensures.1, rw c.direction_at-d.ensures.0 (ahead e))

-- the cell that the step enters
enters : (c : tie.After-neighbour-to) → let s = s c.before.before in c.neighbour-to.result ≡ cell_at s.args.f (moved (place_of s.args.f s.args.cell) s.args.direction)
enters c = rw c.direction_at-d.ensures.0 at c.neighbour-to.ensures

shared-slice-read-widened : tie.Need-bounds-map-to
shared-slice-read-widened c =
    let e = c.before.before.before in
    let l = cell_lt (s e).args.f (moved (place_of (s e).args.f (s e).args.cell) (s e).args.direction) (ahead e) in
    omega (arith, enters c.before, l, (passed (s e)).covers)

widened-requires : tie.Need-widened-requires
widened-requires c κs = search rules

returns-4 : tie.Need-returns
returns-4 c =
    let n = c.before.before in
    c.widened.ensures.0 ∙ rw (enters n) (sym (weighs n.before.before))

pub weight_ahead_spec : {M : Type 1} → statement M
weight_ahead_spec =
    tie.close
    (tie.spec
    straight-requires
    returns
    sub-straight
    straight-requires-2
    returns-2
    add-straight
    straight-requires-3
    returns-3
    direction-at-requires
    neighbour-requires
    shared-slice-read-widened
    widened-requires
    returns-4)
