-- Both sums have sixteen bits.
use Rattle.std.proofs.Common.{◌<◌}
use Rattle.calls.proofs.replies.adler.Given as goal

abbrev pub invariant-loop-byte : goal.invariant-loop-byte
invariant-loop-byte l = (l.low < 65536) × (l.high < 65536)
