-- The cells below the bound stay as many while the band is looked at; after its last cell the list that waits is the next front.
use Rattle.std.proofs.Common.{◌≡◌, ◌+◌, ◌≤◌, arith}
use Rattle.wave.proofs.Visits.{band_same, band_done}
use Rattle.wave.proofs.bands.scan.Goals as goal

pub visit-end-requires : goal.visit-end-requires
visit-end-requires c =
    let p = c.requires in
    let b = c.loop-at.invariant p.s p.here in
    record { s = p.s; stop = _; other = _; here = b; before = c.loop-at-test.true; within = omega (arith, band_same p.here.band b, p.here.counted, p.within) }

pub loop-at-preserved : goal.loop-at-preserved
loop-at-preserved c = λ s x. c.visit-end.ensures s _ _ c.loop-at-test.true (c.loop-at.invariant s x)

pub returns : goal.returns
returns c = λ s x.
    let o = c.args.band.front in
    let up : o.from ≤ o.from + o.len = omega arith in
    let e : c.loop-at.at ≡ o.from + o.len = omega (arith, c.loop-at-test.false, c.loop-at.auto.at-end up) in
    band_done x (rw e at (c.loop-at.invariant s x)) c.loop-at.auto.work
