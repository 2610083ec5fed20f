-- The first cell of the band: its steps are taken, or it waits for a later band; and the end of the band. The laws of the wave, put into the work room.
use mathlib.Core.Path.{◌≡◌, refl, sym, ◌∙◌}
use mathlib.Core.Logic.{inl, inr, ⊎_elim}
use mathlib.Core.List.{List}
use Prim.Native.Nat.{ℕ, ◌+◌, ◌-◌, ◌≤◌, ◌<◌}
use native.Mathlib.Omega.{arith}
use lib.ListN.{length, get_or, set}
use lib.Seq.{slice, slice_empty}
use Rattle.paths.specs.Graph.{Lawful}
use Rattle.settling.specs.Cut.{cheaper_than}
use Rattle.settling.proofs.Counts.{cheaper_same}
use Rattle.settling.proofs.Cuts.{settled_early}
use Rattle.settling.proofs.Waves.{occ_here, next_inside, next_done, next_kept, take_all}
use Rattle.floor.specs.declared.Floor.{Floor}
use Rattle.floor.specs.Place.{cells}
use Rattle.floor.specs.Step.{least_step, greatest_step, graph}
use Rattle.floor.proofs.Laws.{lawful}
use Rattle.wave.specs.declared.Front.{Front}
use Rattle.wave.specs.declared.Band.{Band}
use Rattle.wave.specs.Bands.{Halves, InBand, TakingAt, IsWithin, ScanAt, ScannedAt}
use Rattle.wave.proofs.Offers.{pushed, room_left, band_first}

-- the band without its first cell
next_halves : {n : ℕ} {work : List ℕ} {at stop other end : ℕ} → Halves n work at stop other end → at < stop → Halves n work (at + 1) stop other end
next_halves h l = record {
  ordered = omega arith;
  stop_in = h.stop_in;
  begun = h.begun;
  filled = h.filled;
  other_in = h.other_in;
  apart = ⊎_elim inl (λ a. inr (omega arith)) h.apart;
}

module _ {f : Floor} {m : List ℕ} {s : ℕ} {costs work : List ℕ} {bound at stop other end : ℕ} (b : InBand f m s costs work bound at stop other end) (l : at < stop) where
  abbrev law : Lawful (graph f m) least_step greatest_step
  law = lawful f m b.passed

  pub first_inside : get_or work at 0 < cells f
  first_inside = next_inside law s (band_first b l)

  -- before its first step
  pub first_taking : get_or costs (get_or work at 0) 0 < bound → TakingAt f m s bound at stop other costs work end (get_or work at 0) 0
  first_taking h = record { band = b; before = l; first = refl; taking = record { wave = b.wave; below = h; offered = λ d k t. absurd (omega arith) } }

  -- it is within the limit, if all cells below the bound are
  pub first_within : (limit : ℕ) → cheaper_than costs bound ≤ limit → get_or costs (get_or work at 0) 0 < bound → IsWithin f m s limit (get_or work at 0)
  first_within limit few h = λ t right. omega (arith, settled_early law s b.wave (get_or work at 0) first_inside h t right)

  -- it waits for a later band
  module _ (h : bound ≤ get_or costs (get_or work at 0) 0) where
    pub first_room : end < other + cells f
    first_room =
        let w = band_first b l in
        let u = get_or work at 0 in
        room_left b u first_inside (omega (arith, w.listed u first_inside h, occ_here u (slice (at + 1) stop work)))

    pub first_kept : InBand f m s costs (set work end (get_or work at 0)) bound (at + 1) stop other (end + 1)
    first_kept =
        let p = pushed (get_or work at 0) (next_halves b.halves l) first_room in
        record { passed = b.passed; starts = b.starts; halves = p.halves; wave = rw (p.band, p.later) (next_kept law s (band_first b l) h) }

-- after its last step
pub first_done : {f : Floor} {m : List ℕ} {s bound at stop other : ℕ} {costs work : List ℕ} {end cell : ℕ} → TakingAt f m s bound at stop other costs work end cell 8
    → InBand f m s costs work bound (at + 1) stop other end
first_done {f} {m} {s} x =
    let law = lawful f m x.band.passed in
    record {
      passed = x.band.passed;
      starts = x.band.starts;
      halves = next_halves x.band.halves x.before;
      wave = next_done law s (rw x.first at (band_first x.band x.before)) x.taking.below (take_all law s x.taking);
    }

-- the cells below the bound stay as many while the band is looked at
pub band_same : {f : Floor} {m : List ℕ} {s : ℕ} {costs work costs' work' : List ℕ} {bound at stop other end at' stop' other' end' : ℕ}
    → InBand f m s costs work bound at stop other end → InBand f m s costs' work' bound at' stop' other' end' → cheaper_than costs' bound ≡ cheaper_than costs bound
band_same {f} {m} {s} x y = cheaper_same (lawful f m y.passed) s x.wave y.wave

-- after the last cell
abbrev front_after : ℕ → Band → ℕ → Front
front_after n b end = record { from = n - b.front.from; len = end - (n - b.front.from); bound = b.bound; settled = b.front.settled + b.below }

pub band_done : {f : Floor} {m : List ℕ} {s : ℕ} {costs work costs' work' : List ℕ} {b : Band} {end : ℕ} → ScanAt f m s costs work b
    → InBand f m s costs' work' b.bound (b.front.from + b.front.len) (b.front.from + b.front.len) (length costs - b.front.from) end
    → length work' ≡ length work → ScannedAt f m s b costs' work' (front_after (length costs) b end)
band_done {f} {m} {s} {costs} {work' = work'} {b} {end} x y e =
    let other = length costs - b.front.from in
    let n = x.band.wave.covers in
    let z : other + (end - other) ≡ end = omega (arith, y.halves) in
    record {
      between = record {
        passed = y.passed;
        starts = y.starts;
        half = ⊎_elim (λ h. inr (omega arith)) (λ h. inl (omega arith)) x.between.half;
        room = e ∙ x.between.room;
        few = omega (arith, y.halves);
        wave = rw (z, ← slice_empty (b.front.from + b.front.len) work') y.wave;
        settled = x.counted ∙ sym (band_same x.band y);
      };
      bound = refl;
      counted = refl;
    }
