-- The run, read on from n at the present byte, gives what the whole run gives.
use Rattle.std.proofs.Common.{◌≡◌, ◌<◌, drop}
use Rattle.textlines.specs.Working.{run_value}
use Rattle.textlines.proofs.lines.run_value.Given as goal

abbrev pub invariant-loop-byte : goal.invariant-loop-byte
invariant-loop-byte l = (l.n < 10000) × (run_value 0 (drop l.from l.text) ≡ run_value l.n (drop l.byte-index l.byte-items))
