-- `leads_to_map` decides the one test of `weight_at`; then the cell is one of the map's.
use mathlib.Core.Path.{sym, ◌∙◌}
use native.Mathlib.Omega.{arith}
use borrow.Author.Rules.{rules}
use lib.Dec.{T}
use Rattle.paths.proofs.Bools.{true_T}
use Rattle.floor.specs.Place.{place_of, moved_by, on_map}
use Rattle.floor.specs.Around.{weight_at}
use Rattle.floor.proofs.Passing.{MapFacts, facts, few_cells}
use Rattle.floor.proofs.Places.{on_map_test, place_on_map, cell_lt}
use Rattle.floor.proofs.Beside.{there_weighs}
use Rattle.floor.proofs.steps.weight_beside.Statement.{statement}
use Rattle.floor.proofs.steps.weight_beside.Tie as tie

passed : (c : tie.Start) → MapFacts c.args.f c.args.map.now
passed c = (facts c.args.f c.args.map.now c.requires.0).map

leads-to-map-requires : tie.Need-leads_to_map-requires
leads-to-map-requires c κs =
    let s = c.before in
    (rw s.requires.2 (on_map_test s.args.f (place_of s.args.f s.args.cell) (place_on_map (passed s) s.args.cell s.requires.1)), s.requires.3)

inside : (c : tie.Then-leads_to_map) → let s = c in T (on_map s.args.f (moved_by (place_of s.args.f s.args.cell) s.args.d))
inside c = let s = c in true_T _ (rw s.requires.2 at (sym c.leads_to_map.ensures ∙ c.if-leads_to_map.true))

neighbour-requires : tie.Need-neighbour-to-requires
neighbour-requires c κs =
    let s = c.before.before.before in
    let k = passed s in
    (omega (arith, s.requires.1, few_cells k, k.wide_top), s.requires.3, inside c)

shared-slice-read-widened : tie.Need-bounds-map-to
shared-slice-read-widened c =
    let s = c.before.before.before.before.before in
    let l = cell_lt s.args.f (moved_by (place_of s.args.f s.args.cell) s.args.d) (inside c.before.before) in
    omega (arith, c.neighbour-to.ensures, l, (passed s).covers)

widened-requires : tie.Need-widened-requires
widened-requires c κs = search rules

returns : tie.Need-returns-then-leads_to_map
returns c =
    let s = c in
    let weighs = there_weighs s.args.f s.args.map.now (moved_by (place_of s.args.f s.args.cell) s.args.d) (inside c.before.before.before) in
    c.widened.ensures.0 ∙ rw (c.neighbour-to.ensures, s.requires.2) (sym weighs)

returns-2 : tie.Need-returns
unfolding weight_at
returns-2 c = rw (sym c.leads_to_map.ensures ∙ c.if-leads_to_map.false)

pub weight_beside_spec : {M : Type 1} → statement M
weight_beside_spec =
    tie.close
    (tie.spec
    leads-to-map-requires
    neighbour-requires
    shared-slice-read-widened
    widened-requires
    returns
    returns-2)
