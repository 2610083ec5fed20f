-- Where the search begins, the goal and the limit lie beyond the front; the bands go on from there.
use Rattle.std.proofs.Common.{◌∙◌, arith}
use Rattle.floor.proofs.Laws.{lawful}
use Rattle.wave.proofs.Rounds.{begun_open}
use Rattle.wave.proofs.bands.settle.Goals as goal

pub begin-front-requires : goal.begin-front-requires
begin-front-requires c = let p = c.requires in (omega arith, omega arith, omega (arith, (lawful c.args.f c.args.map.now p.0).cells_fit))

pub go_on-requires : goal.go_on-requires
go_on-requires c =
    let p = c.requires in
    record { s = c.args.start; here = begun_open c.args.f c.args.map.now p.0 p.1 (rw p.3 at c.begin-front.ensures) (c.begin-front.auto.work ∙ p.4) c.args.goal c.args.limit p.2 }

pub returns : goal.returns
returns c =
    let p = c.requires in
    c.go_on.ensures c.args.start (begun_open c.args.f c.args.map.now p.0 p.1 (rw p.3 at c.begin-front.ensures) (c.begin-front.auto.work ∙ p.4) c.args.goal c.args.limit p.2)
