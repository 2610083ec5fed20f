-- One step from a cell of the band: where it leads is put into the laws of the wave, and the lists into the work room.
use Rattle.std.specs.Prelude.{Some, None}
use mathlib.Core.Path.{◌≡◌, ◌∙◌}
use mathlib.Core.Logic.{inl, inr, ⊎_elim}
use mathlib.Core.List.{List, [], ◌∷◌, ◌++◌}
use Prim.Native.Nat.{ℕ, suc, ◌+◌, ◌≤◌, ◌<◌}
use native.Mathlib.Numerals.{add-one}
use native.Mathlib.Omega.{arith}
use lib.Dec.{T}
use lib.ListN.{get_or, set, length-set}
use lib.Seq.{slice, slice-cons, length-slice, get_or-set_other}
use Rattle.paths.specs.Graph.{Lawful, MARK}
use Rattle.settling.specs.Wave.{occ, Wave, Taking}
use Rattle.settling.proofs.Waves.{mark_is, below_least, least_fits, next_inside, next_near, offer_known, offer_new, take_none, take_falls}
use Rattle.floor.specs.declared.Floor.{Floor}
use Rattle.floor.specs.Place.{cells}
use Rattle.floor.specs.Step.{step, target, step_cost, least_step, greatest_step, step_of, onward, allowed, graph}
use Rattle.floor.proofs.Allowed.{enters, nowhere}
use Rattle.floor.proofs.Laws.{lawful}
use Rattle.wave.specs.Bands.{CanSee, Seen, no_less, known, new, Halves, InBand, TakingAt}
use Rattle.settling.proofs.Slices.{slice_push, slice_apart}
use Rattle.settling.proofs.Counts.{later_room}

-- A cell is written at the end of the list that waits: that list has it at its end, and the list of the band is as it was
pub record Pushed (n : ℕ) (work : List ℕ) (at stop other end v : ℕ) : Type 0 where
  pub halves : Halves n (set work end v) at stop other (end + 1)
  pub band : slice at stop (set work end v) ≡ slice at stop work
  pub later : slice other (end + 1) (set work end v) ≡ slice other end work ++ (v ∷ [])
  pub first : at < stop → get_or (set work end v) at 0 ≡ get_or work at 0

pub pushed : {n : ℕ} {work : List ℕ} {at stop other end : ℕ} (v : ℕ) → Halves n work at stop other end → end < other + n
    → Pushed n work at stop other end v
pushed {work = work} {at} {stop} {other} {end} v h r =
    let e = length-set work end v in
    record {
      halves = record {
        ordered = h.ordered;
        stop_in = omega arith;
        begun = omega arith;
        filled = omega arith;
        other_in = omega arith;
        apart = h.apart;
      };
      band = slice_apart at stop end v work (⊎_elim (λ a. inl (omega arith)) (λ a. inr (omega arith)) h.apart);
      later = slice_push other end v work h.begun (omega arith);
      first = λ b. get_or-set_other work end at v 0 (⊎_elim (λ a e. omega arith) (λ a e. omega arith) h.apart);
    }

-- where a cell does not wait, the list that waits ends before its half does
pub room_left : {f : Floor} {m : List ℕ} {s : ℕ} {costs work : List ℕ} {bound at stop other end : ℕ} → InBand f m s costs work bound at stop other end
    → (v : ℕ) → v < cells f → occ v (slice other end work) ≡ 0 → end < other + cells f
room_left {work = work} {other = other} {end} b v h e =
    omega (arith, later_room b.wave v h e, length-slice other end work (omega (arith, b.halves)), b.halves)

-- the list of the band, with its first cell in front
pub band_first : {f : Floor} {m : List ℕ} {s : ℕ} {costs work : List ℕ} {bound at stop other end : ℕ} → InBand f m s costs work bound at stop other end
    → at < stop → Wave (graph f m) least_step s costs bound (get_or work at 0 ∷ slice (at + 1) stop work) (slice other end work)
band_first {work = work} {at = at} {stop} b h =
    rw (add-one, ← slice-cons at stop work 0 h b.halves.stop_in) b.wave

module _ {f : Floor} {m : List ℕ} {s bound at stop other : ℕ} {costs work : List ℕ} {end cell d : ℕ} (x : TakingAt f m s bound at stop other costs work end cell d) where
  abbrev law : Lawful (graph f m) least_step greatest_step
  law = lawful f m x.band.passed

  pub cell_inside : cell < cells f
  cell_inside = rw x.first at (next_inside law s (band_first x.band x.before))

  near : bound ≤ get_or costs cell 0 + least_step
  near = rw x.first at (next_near law s (band_first x.band x.before))

  -- nothing changes
  stays : Taking (graph f m) least_step s cell (suc d) costs bound (slice at stop work) (slice other end work)
      → TakingAt f m s bound at stop other costs work end cell (d + 1)
  stays k = record { band = x.band; before = x.before; first = x.first; taking = rw add-one k }

  -- the step is not allowed
  pub barred : onward (step_of f m cell d) ≡ None → TakingAt f m s bound at stop other costs work end cell (d + 1)
  barred e = stays (take_none law s x.taking (λ t. absurd (nowhere f m cell d e t)))

  module _ (t : T (allowed f m cell d)) where
    abbrev there : ℕ
    there = target f cell d

    abbrev price : ℕ
    price = get_or costs cell 0 + step_cost m d cell (target f cell d)

    price_fits : price < MARK
    price_fits =
        let l = least_fits law s x.band.starts cell (get_or costs cell 0) (below_least law s x.band.wave cell cell_inside x.taking.below) in
        omega (arith, l, law.at_most cell d t)

    -- a cell that is new finds room
    free : get_or costs there 0 ≡ MARK → end < other + cells f
    free e =
        let w = x.band.wave in
        let i = law.enters cell d t in
        room_left x.band there i (omega (arith, w.listed there i (omega (arith, w.top)), mark_is (get_or costs there 0) e))

    can_see : CanSee costs work end there price
    can_see = record {
      inside = omega (arith, law.enters cell d t, x.band.wave.covers);
      small = omega (arith, law.enters cell d t, law.cells_fit);
      fits = price_fits;
      room = λ e. omega (arith, free e, x.band.halves);
    }

    -- the cost of the cell entered falls
    lowered : {work' : List ℕ} {end' : ℕ} → Halves (cells f) work' at stop other end' → get_or work' at 0 ≡ cell
        → Taking (graph f m) least_step s cell (suc d) (set costs there price) bound (slice at stop work') (slice other end' work')
        → TakingAt f m s bound at stop other (set costs there price) work' end' cell (d + 1)
    lowered h e k = record {
      band = record { passed = x.band.passed; starts = x.band.starts; halves = h; wave = k.wave };
      before = x.before;
      first = e;
      taking = rw add-one k;
    }

    seen_there : {costs' work' : List ℕ} {end' : ℕ} → Seen costs work end there price costs' work' end'
        → TakingAt f m s bound at stop other costs' work' end' cell (d + 1)
    seen_there (no_less h) = stays (take_none law s x.taking (λ t. h))
    seen_there (known h e) =
        let w = offer_known law s x.taking.wave cell d t near h e in
        lowered x.band.halves x.first (take_falls law s x.taking t near h (slice other end work) w)
    seen_there (new h e) =
        let p = pushed there x.band.halves (free e) in
        let w = offer_new law s x.taking.wave cell d t near h e in
        let k = take_falls law s x.taking t near h (slice other end work ++ (there ∷ [])) w in
        lowered p.halves (p.first x.before ∙ x.first) (rw (p.band, p.later) k)

  -- the step leads to a cell, which sees it
  module _ (to cost : ℕ) (e : onward (step_of f m cell d) ≡ Some (step to cost)) where
    pub sees : CanSee costs work end to (get_or costs cell 0 + cost)
    sees = let l = enters f m cell d e in rw (← l.costs, ← l.to) at (can_see l.steps)

    pub seen : {costs' work' : List ℕ} {end' : ℕ} → Seen costs work end to (get_or costs cell 0 + cost) costs' work' end'
        → TakingAt f m s bound at stop other costs' work' end' cell (d + 1)
    seen z = let l = enters f m cell d e in seen_there l.steps (rw (← l.costs, ← l.to) z)
