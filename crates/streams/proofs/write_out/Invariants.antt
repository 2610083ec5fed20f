-- No more was taken than there is.
use Rattle.std.proofs.Common.{◌≤◌, length}
use Rattle.streams.proofs.write_out.Given as goal

abbrev pub invariant-loop : goal.invariant-loop
invariant-loop g l = l.done ≤ length l.bytes
