-- A look that wants no more ends the bands; one that wants more is scanned, and then the goal and the limit still lie beyond the front.
use Rattle.std.proofs.lemmas.Bool.{not-true, not-false}
use Rattle.wave.proofs.Rounds.{can_look, ended, round_scan, round_within, next_open, fewer_left}
use Rattle.wave.proofs.bands.go_on.Goals as goal

pub look-band-requires : goal.look-band-requires
look-band-requires c = let x = c.loop-f.invariant c.requires.s c.requires.here in can_look x.between c.args.goal x.inside

pub returns-then-not-band : goal.returns-then-not-band
returns-then-not-band c = λ s x. ended c.look-band.ensures (c.loop-f.invariant s x) (not-true _ c.if-not-band.true)

pub scan-front-requires : goal.scan-front-requires
scan-front-requires c =
    let s = c.requires.s in
    let x = c.loop-f.invariant s c.requires.here in
    let t = not-false _ c.if-not-band.false in
    record { s = s; here = round_scan c.look-band.ensures x t; within = round_within c.look-band.ensures x t }

pub loop-f-smaller : goal.loop-f-smaller
loop-f-smaller c =
    let s = c.requires.s in
    let x = c.loop-f.invariant s c.requires.here in
    let t = not-false _ c.if-not-band.false in
    fewer_left c.look-band.ensures x t (c.scan-front.ensures s (round_scan c.look-band.ensures x t))

pub loop-f-preserved : goal.loop-f-preserved
loop-f-preserved c = λ s h.
    let x = c.loop-f.invariant s h in
    let t = not-false _ c.if-not-band.false in
    next_open c.look-band.ensures x t (c.scan-front.ensures s (round_scan c.look-band.ensures x t))
