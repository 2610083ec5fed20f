-- The cells of the band before this one are looked at, for any wave at hand.
use Rattle.std.proofs.Common.{ℕ, ◌+◌, ◌-◌, length}
use Rattle.wave.specs.Bands.{InBand, ScanAt}
use Rattle.wave.proofs.bands.scan.Given as goal

abbrev pub invariant-loop-at : goal.invariant-loop-at
invariant-loop-at l =
    (s : ℕ) → ScanAt l.f l.map s l.fn.costs l.fn.work l.band
    → InBand l.f l.map s l.costs l.work l.band.bound l.at (l.band.front.from + l.band.front.len) (length l.fn.costs - l.band.front.from) l.end
