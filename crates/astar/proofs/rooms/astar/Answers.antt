-- A refusal is given at once; else the parts that are lent are as long as the core asks.
use Rattle.std.proofs.Common.{◌≡◌, sym, refl, arith}
use Rattle.std.proofs.lemmas.Grind.{common_steps}
use Rattle.std.proofs.lemmas.Result.{err_from_is_err_and}
use Rattle.floor.specs.Screen.{Passed}
use Rattle.floor.specs.Refusal.{screen}
use Rattle.answering.specs.Rooms.{rooms, lent_lines}
use Rattle.astar.specs.Astar.{refused}
use Rattle.astar.proofs.Lending.{lent_lengths}
use Rattle.astar.proofs.rooms.astar.Goals as goal

pub returns-in_err-screen_lengths : goal.returns-in_err-screen_lengths
returns-in_err-screen_lengths c =
    let told = err_from_is_err_and c.from_residual.result c.from_residual.ensures.1 in
    refused _ _ (sym c.in_err-screen_lengths.ensures) (rw (told.1, told.2)) refl

pub astar_rooms-requires-clause-costs_len : goal.astar_rooms-requires-clause-costs_len
astar_rooms-requires-clause-costs_len c =
    let a = c.args in
    let lent = rooms a.costs.now a.work.now a.route.now in
    let passes : screen (lent_lines a.f a.map.now a.start a.goal lent) ≡ Passed = grind (arith, common_steps) in
    lent_lengths a.f a.map.now a.start a.goal lent passes
