-- Both offsets come back from their bits, and lead where `offsets` says.
use Rattle.std.proofs.Common.{◌≡◌, rules}
use mathlib.Core.Path.{◌∙◌}
use mir.Syntax.{w32}
use mir.Val.{of_z, to_z}
use Rattle.floor.proofs.Beside.{offsets}
use Rattle.floor.proofs.steps.neighbour.Goals as goal

pub returns : goal.returns
returns c =
    let east : to_z w32 (of_z w32 c.args.d.dx) ≡ c.args.d.dx = search rules in
    let south : to_z w32 (of_z w32 c.args.d.dy) ≡ c.args.d.dy = search rules in
    rw (c.shifted-southward.ensures, south, east) at c.shifted.ensures ∙ (offsets c.args.f c.args.cell c.args.d c.requires.2).there
