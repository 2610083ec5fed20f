-- Each step is one of the walk over the graph (proofs/WalksBack.antt), which says what it weighs and that it leaves a cheaper cell.
use Rattle.std.proofs.Common.{ℕ, refl, arith, List, [], ◌++◌, reverse, drop}
use mathlib.Core.Path.{sym, ◌∙◌, ap}
use mathlib.Core.List.{reverse-reverse}
use Rattle.settling.proofs.Walking.{walking_ends}
use Rattle.floor.proofs.Passing.{facts}
use Rattle.walkback.proofs.WalksBack.{walk_begins, walk_finds, walk_goes, sums_fit, writes_on, walk_measured}
use Rattle.walkback.proofs.walks.write_back.Goals as goal

pub loop-cell-init : goal.loop-cell-init
loop-cell-init c =
    record { ds = []; counted = refl; summed = refl; within = omega arith; walking = walk_begins c.requires.0; written = refl; same_length = refl }

pub unwrap-back-requires : goal.unwrap-back-requires
unwrap-back-requires c = walk_finds c.requires.0 c.loop-cell.invariant.walking c.loop-cell-test.true _ c.last_step.ensures

pub step_weight-requires : goal.step_weight-requires
step_weight-requires c =
    let goes = walk_goes c.requires.0 c.loop-cell.invariant.walking c.loop-cell-test.true c.unwrap-back.ensures c.last_step.ensures in
    let whole = (facts c.args.f c.args.map.now c.requires.0.passed).map.covers in
    (omega (arith, goes.next.inside, whole), omega (arith, c.loop-cell.invariant.walking.inside, whole))

pub longer-length-requires : goal.longer-length-requires
longer-length-requires c =
    let z = c.loop-cell.invariant in
    let goes = walk_goes c.requires.0 z.walking c.loop-cell-test.true c.unwrap-back.ensures c.last_step.ensures in
    (omega (arith, goes.few, z.counted), omega (arith, c.step_weight.ensures, sums_fit c.requires.0 z goes))

pub loop-cell-smaller : goal.loop-cell-smaller
loop-cell-smaller c = (walk_goes c.requires.0 c.loop-cell.invariant.walking c.loop-cell-test.true c.unwrap-back.ensures c.last_step.ensures).less

pub loop-cell-preserved : goal.loop-cell-preserved
loop-cell-preserved c =
    let z = c.loop-cell.invariant in
    let goes = walk_goes c.requires.0 z.walking c.loop-cell-test.true c.unwrap-back.ensures c.last_step.ensures in
    rw c.longer-length.ensures (writes_on c.requires.0 z goes c.step_weight.ensures (omega (arith, goes.inside, z.counted, c.requires.1)))

pub returns-clause-measured : goal.returns-clause-measured
returns-clause-measured c =
    let z = c.loop-cell.invariant in
    walk_measured z c.loop-cell-test.false (walking_ends z.walking c.loop-cell-test.false)

pub returns-clause-written : goal.returns-clause-written
returns-clause-written c =
    let z = c.loop-cell.invariant in
    let back = ap reverse (walking_ends z.walking c.loop-cell-test.false) ∙ reverse-reverse z.ds in
    z.written ∙ ap (λ (l : List ℕ). l ++ drop c.loop-cell.length.steps c.args.route.now) (sym back)
