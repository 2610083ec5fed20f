-- What was read before stays.
use Rattle.std.proofs.Common.{◌≡◌, take}
use Rattle.streams.proofs.read_piece.Given as goal

abbrev pub invariant-loop : goal.invariant-loop
invariant-loop g l = take l.have l.room ≡ take l.have l.initial.room
