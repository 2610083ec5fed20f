-- The floor has passed, so that its width and its cells are in their bounds.
use Rattle.std.proofs.Common.{arith}
use Rattle.floor.proofs.Passing.{facts}
use Rattle.floor.proofs.Laws.{lawful}
use Rattle.astar.proofs.rooms.astar_rooms.Goals as goal

pub place_of-requires : goal.place_of-requires
place_of-requires c =
    let p = c.requires.has_passed in
    ((facts c.args.f c.args.map.now p.0).map.wide, omega (arith, (lawful c.args.f c.args.map.now p.0).cells_fit))
