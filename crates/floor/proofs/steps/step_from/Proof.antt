-- Each return decides one of the tests of `entering`, in their order.
use mathlib.Core.Path.{◌≡◌, sym, ◌∙◌, ap, subst}
use mathlib.Core.Bool.{true}
use Prim.Native.Nat.{◌<◌}
use native.Mathlib.Omega.{arith}
use borrow.Author.Rules.{rules}
use borrow.Author.Tests.{lt-ltb}
use lib.Dec.{T}
use lib.ListN.{get_or}
use Rattle.paths.proofs.Bools.{true_T}
use Rattle.floor.specs.declared.Place.{Place}
use Rattle.floor.specs.Place.{place_of, cell_at, moved, on_map, is_open}
use Rattle.floor.specs.Step.{step_weight, step_cost, entering}
use Rattle.floor.proofs.Rows.{direction_lt}
use Rattle.floor.proofs.Passing.{MapFacts, facts, few_cells}
use Rattle.floor.proofs.Places.{on_map_test, place_on_map, cell_lt}
use Rattle.floor.proofs.steps.step_from.Statement.{statement}
use Rattle.floor.proofs.steps.step_from.Tie as tie

passed : (c : tie.Start) → MapFacts c.args.f c.args.map.now
passed c = (facts c.args.f c.args.map.now c.requires.0).map

below : (c : tie.Start) → c.args.direction < 8
below c = direction_lt c.args.f c.args.direction c.requires.3

direction-at-requires : tie.Need-direction_at-d-requires
direction-at-requires c κs = below c.before

leads-to-map-requires : tie.Need-leads_to_map-requires
leads-to-map-requires c κs =
    let s = c.before.before in
    (rw s.requires.2 (on_map_test s.args.f (place_of s.args.f s.args.cell) (place_on_map (passed s) s.args.cell s.requires.1)), c.direction_at-d.ensures.1)

-- where the code stands once the step leads onto the map, and once the weight there is read
abbrev start : tie.Then-leads_to_map → tie.Start
start c = c.before.before.before.before

abbrev row : tie.Then-leads_to_map → tie.After-direction_at-d
row c = c.before.before

abbrev ahead : tie.After-widened-entered → tie.Then-leads_to_map
ahead c = c.before.before.before

on_map_lem : (c : tie.Then-leads_to_map) → let s = start c in on_map s.args.f (moved s.args.here s.args.direction) ≡ true
on_map_lem c = rw (row c).direction_at-d.ensures.0 at (sym c.leads_to_map.ensures ∙ c.if-leads_to_map.true)

inside : (c : tie.Then-leads_to_map) → let s = start c in T (on_map s.args.f (moved (place_of s.args.f s.args.cell) s.args.direction))
inside c = let s = start c in subst (λ (p : Place). T (on_map s.args.f (moved p s.args.direction))) s.requires.2 (true_T _ (on_map_lem c))

neighbour-requires : tie.Need-neighbour-to-requires
neighbour-requires c κs =
    let s = start c in
    let k = passed s in
    let d = (row c).direction_at-d.ensures in
    (omega (arith, s.requires.1, few_cells k, k.wide_top), d.1, rw d.0 (inside c))

-- the cell that the code enters
enters : (c : tie.After-neighbour-to) → let s = start c.before in c.neighbour-to.result ≡ cell_at s.args.f (moved s.args.here s.args.direction)
enters c =
    let s = start c.before in
    rw (row c.before).direction_at-d.ensures.0 at c.neighbour-to.ensures ∙ ap (λ (p : Place). cell_at s.args.f (moved p s.args.direction)) (sym s.requires.2)

shared-slice-read-widened : tie.Need-bounds-map-to
shared-slice-read-widened c =
    let t = c.before.before in
    let s = start t in
    let l = cell_lt s.args.f (moved s.args.here s.args.direction) (true_T _ (on_map_lem t)) in
    omega (arith, enters c.before, l, (passed s).covers)

widened-requires : tie.Need-widened-entered-requires
widened-requires c κs = search rules

-- its weight, as the code reads it
reads : (c : tie.After-widened-entered) →
    let s = start (ahead c) in
    c.widened-entered.result ≡ get_or s.args.map.now (cell_at s.args.f (moved s.args.here s.args.direction)) 0
reads c = rw (enters c.before.before) at c.widened-entered.ensures.0

returns : tie.Need-returns-then-entered-eq0
unfolding entering is_open
returns c = rw (on_map_lem (ahead c.before), ← reads c.before, c.if-entered-eq0.true)

cuts-corner-requires : tie.Need-cuts_corner-requires
cuts-corner-requires c κs = let s = start (ahead c.before) in (s.requires.0, s.requires.1, s.requires.2, below s)

-- the cell is on the map and open
opens : (c : tie.Else-entered-eq0) → let s = start (ahead c.before) in is_open s.args.f s.args.map.now (moved s.args.here s.args.direction) ≡ true
unfolding is_open
opens c = rw (on_map_lem (ahead c.before), ← reads c.before) (lt-ltb 0 c.widened-entered.result (omega arith))

returns-2 : tie.Need-returns-then-cuts_corner
unfolding entering
returns-2 c =
    let e = c.before.before in
    rw (on_map_lem (ahead e.before), opens e, sym c.cuts_corner.ensures ∙ c.if-cuts_corner.true)

shared-slice-read-widened-2 : tie.Need-bounds-map-cell
shared-slice-read-widened-2 c =
    let s = start (ahead c.before.before.before.before) in
    omega (arith, s.requires.1, (passed s).covers)

widened-requires-2 : tie.Need-widened-left-requires
widened-requires-2 c κs = search rules

step-cost-requires : tie.Need-step_cost-requires
step-cost-requires c κs =
    let w = c.before.before.before.before.before in
    (c.widened-left.ensures.1, w.widened-entered.ensures.1, (row (ahead w)).direction_at-d.ensures.1)

returns-3 : tie.Need-returns-then-leads_to_map
unfolding entering step_cost step_weight
returns-3 c =
    let cuts = c.before.before.before.before in
    let w = cuts.before.before in
    let uncut = sym cuts.cuts_corner.ensures ∙ c.if-cuts_corner.false in
    let cost = rw (row (ahead w)).direction_at-d.ensures.0 at c.step_cost.ensures in
    rw (on_map_lem (ahead w), opens cuts.before, uncut, cost, c.widened-left.ensures.0, ← reads w, ← enters w.before.before)

returns-4 : tie.Need-returns
unfolding entering
returns-4 c = rw (rw c.direction_at-d.ensures.0 at (sym c.leads_to_map.ensures ∙ c.if-leads_to_map.false))

pub step_from_spec : {M : Type 1} → statement M
step_from_spec =
    tie.close
    (tie.spec
    direction-at-requires
    leads-to-map-requires
    neighbour-requires
    shared-slice-read-widened
    widened-requires
    returns
    cuts-corner-requires
    returns-2
    shared-slice-read-widened-2
    widened-requires-2
    step-cost-requires
    returns-3
    returns-4)
