-- Between two bands: where the search begins, what a look needs, and how a look that wants more makes the next band. Places of the list are occurrences in it.
use mathlib.Core.Path.{◌≡◌, sym, ◌∙◌, ap, subst}
use mathlib.Core.Logic.{inl, inr, ⊎_elim}
use mathlib.Core.Bool.{true, false}
use mathlib.Core.List.{List, [], ◌∷◌}
use Prim.Native.Nat.{ℕ, ◌+◌, ◌-◌, ◌*◌, ◌≤◌, ◌<◌}
use native.Mathlib.Decide.{dec_lt}
use native.Mathlib.Omega.{arith}
use borrow.Author.Tests.{lt-ltb}
use Rattle.std.proofs.lemmas.Slice.{between_is}
use lib.Dec.{ltb}
use lib.ListN.{length, get_or, set, replicate, length-set, length-replicate, get_or-replicate}
use lib.Seq.{slice, slice-cons, slice_empty, get_or-set_same, get_or-set_other}
use Rattle.paths.specs.Graph.{Lawful, MARK}
use Rattle.settling.specs.Cut.{cheaper_than, tally}
use Rattle.settling.specs.Wave.{occ, Wave}
use Rattle.settling.proofs.Waves.{begin, waits, low_fits, advance}
use Rattle.settling.proofs.Fronts.{front_cheaper}
use Rattle.floor.specs.declared.Floor.{Floor}
use Rattle.floor.specs.Place.{cells}
use Rattle.floor.specs.Step.{least_step, greatest_step, graph}
use Rattle.floor.specs.Refusal.{HasPassed}
use Rattle.floor.proofs.Laws.{lawful}
use Rattle.floor.proofs.Passing.{facts, few_cells}
use Rattle.wave.specs.declared.Front.{Front}
use Rattle.wave.specs.declared.Band.{Band}
use Rattle.ranks.specs.Listed.{AreCells, IsLeast, below_in}
use Rattle.wave.specs.Bands.{Begun, Halves, Between, ScanAt, ScannedAt, CanLook, IsBand, Looked, none_open, is_last, is_next, OpenAt, listed, Rounds}
use Rattle.settling.proofs.Slices.{occ_place, place_occ, tally_some}
use Rattle.settling.proofs.Counts.{cheaper_none, cheaper_most, below_same}

-- where the search begins
module _ (f : Floor) (m : List ℕ) {s : ℕ} {costs work : List ℕ} {o : Front} (passed : HasPassed f m) (starts : s < cells f) (b : Begun (cells f) s costs work o) where
  begun_wave : Wave (graph f m) least_step s costs 0 [] (s ∷ [])
  begun_wave =
      let l = length-replicate {A = ℕ} (cells f) MARK in
      rw b.costs_are
      (begin (lawful f m passed) s (set (replicate (cells f) MARK) s 0) (length-set (replicate (cells f) MARK) s 0 ∙ l) starts
      (get_or-set_same (replicate (cells f) MARK) s 0 0 (omega arith))
      (λ v h e. get_or-set_other (replicate (cells f) MARK) s v 0 0 e ∙ get_or-replicate (cells f) v MARK 0 h))

  begun_between : length work ≡ 2 * cells f → Between f m s costs work o
  begun_between room =
      let l : slice 0 1 work ≡ s ∷ [] = slice-cons 0 1 work 0 (omega arith) (omega arith) ∙ rw (b.first, slice_empty 1 work) in
      record {
        passed = passed;
        starts = starts;
        half = inl b.from;
        room = room;
        few = omega (arith, b.len);
        wave = rw (b.from, b.len, b.bound, l) begun_wave;
        settled = rw (b.bound, b.settled) (sym (cheaper_none costs));
      }

  pub begun_open : length work ≡ 2 * cells f → (goal limit : ℕ) → goal < cells f → OpenAt f m s costs work goal limit o
  begun_open room goal limit h = record { between = begun_between room; inside = h; goal_open = omega (arith, b.bound); within = omega (arith, b.settled) }

module _ {f : Floor} {m : List ℕ} {s : ℕ} {costs work : List ℕ} {o : Front} (x : Between f m s costs work o) where
  abbrev law : Lawful (graph f m) least_step greatest_step
  law = lawful f m x.passed

  abbrev later : List ℕ
  later = slice o.from (o.from + o.len) work

  in_room : o.from + o.len ≤ length work
  in_room = ⊎_elim (λ h. omega (arith, x.room, x.few)) (λ h. omega (arith, x.room, x.few)) x.half

  -- it is the part of the room that the front lists
  the_list : listed work o ≡ later
  the_list = between_is work o.from (o.from + o.len)

  -- the list as the band, and the other half empty
  band_halves : Halves (cells f) work o.from (o.from + o.len) (length costs - o.from) (length costs - o.from)
  band_halves =
      let n = x.wave.covers in
      record {
        ordered = omega arith;
        stop_in = in_room;
        begun = omega arith;
        filled = omega arith;
        other_in = omega (arith, x.room);
        apart = ⊎_elim (λ h. inl (omega (arith, x.few))) (λ h. inr (omega arith)) x.half;
      }

  -- what is known of the least cost of the list
  least_of_list : {low : ℕ} → IsLeast costs (listed work o) low → IsLeast costs later low
  least_of_list {low} l = subst (λ (v : List ℕ). IsLeast costs v low) the_list l

  module _ {low : ℕ} (l : IsLeast costs later low) where
    lowest : (v : ℕ) → 1 ≤ occ v later → low ≤ get_or costs v 0
    lowest v m = let r = place_occ v later m in subst (λ (u : ℕ). low ≤ get_or costs u 0) r.2 (l.least r.0 r.1)

    low_waits : 1 ≤ occ (get_or later l.place 0) later
    low_waits = occ_place later l.place l.place_in

    low_small : low ≤ MARK
    low_small = omega (arith, l.there, x.wave.small (get_or later l.place 0))

    low_room : low + greatest_step ≤ MARK
    low_room = omega (arith, low_fits law s x.wave low lowest low_small x.starts (get_or later l.place 0) low_waits l.there)

    low_rises : o.bound ≤ low
    low_rises = omega (arith, (waits law s x.wave (get_or later l.place 0) low_waits).1, l.there)

  -- the list is the next band, and some of it is below the bound
  module _ {b : Band} (k : IsBand costs work o b) where
    least : IsLeast costs later k.low
    least = least_of_list k.least

    below : b.below ≡ tally (λ v. ltb (get_or costs v 0) b.bound) later
    unfolding below_in
    below = k.below ∙ ap (λ (l : List ℕ). below_in costs l b.bound) the_list

    pub band_top : b.bound ≤ MARK
    band_top = omega (arith, k.narrow, low_room least)

    pub band_rises : o.bound ≤ b.bound
    band_rises = omega (arith, k.above, low_rises least)

    pub band_wave : Wave (graph f m) least_step s costs b.bound later []
    band_wave = advance law s x.wave k.low (lowest least) (low_small least) (low_rises least) b.bound k.above k.narrow band_top

    pub band_counted : o.settled + b.below ≡ cheaper_than costs b.bound
    band_counted = omega (arith, x.settled, below, front_cheaper x.wave b.bound band_rises band_top)

    band_some : 1 ≤ b.below
    band_some =
        let i = least in
        let p = tally_some (λ v. ltb (get_or costs v 0) b.bound) later i.place i.place_in (rw i.there (lt-ltb k.low b.bound k.above)) in
        omega (arith, p, below)

  pub can_look : (goal : ℕ) → goal < cells f → CanLook costs work goal o
  can_look goal h = record {
    inside = omega (arith, x.wave.covers);
    room = in_room;
    are_cells = subst (AreCells (length costs)) (sym the_list) (λ k l. omega (arith, (waits law s x.wave (get_or later k 0) (occ_place later k l)).0, x.wave.covers));
    fits = λ low l. low_room (least_of_list l);
    small = omega (arith, x.settled, cheaper_most costs o.bound, x.wave.covers, x.few, few_cells (facts f m x.passed).map);
  }

-- a look that wants more: it says which band is next, and that neither the goal nor the limit falls in it
record Wants (costs work : List ℕ) (goal limit : ℕ) (o : Front) (b : Band) : Type 0 where
  band : IsBand costs work o b
  beyond : b.bound ≤ get_or costs goal 0
  within : o.settled + b.below ≤ limit

wants : {costs work : List ℕ} {goal limit : ℕ} {o : Front} {b : Band} → Looked costs work goal limit o b → b.more ≡ true → Wants costs work goal limit o b
wants (none_open z e n) t = let c : ◌≡◌ {A = ℕ} 0 1 = cc in absurd (omega arith)
wants (is_last k n r) t = let c : ◌≡◌ {A = ℕ} 0 1 = cc in absurd (omega arith)
wants (is_next k n r l) t = record { band = k; beyond = r; within = l }

looked_front : {costs work : List ℕ} {goal limit : ℕ} {o : Front} {b : Band} → Looked costs work goal limit o b → o ≡ b.front
looked_front (none_open z e n) = sym e
looked_front (is_last k n r) = sym k.front
looked_front (is_next k n r l) = sym k.front

-- a look from a front that the goal and the limit lie beyond
module _ {f : Floor} {m : List ℕ} {s goal limit : ℕ} {costs work : List ℕ} {o : Front} {b : Band} (l : Looked costs work goal limit o b) (here : OpenAt f m s costs work goal limit o) where
  at_front : OpenAt f m s costs work goal limit b.front
  at_front = subst (OpenAt f m s costs work goal limit) (looked_front l) here

  looked : Looked costs work goal limit b.front b
  looked = subst (λ (o : Front). Looked costs work goal limit o b) (looked_front l) l

  -- it wants no more
  pub ended : b.more ≡ false → Rounds f m s goal limit costs work b
  ended e = record { between = at_front.between; goal_open = at_front.goal_open; within = at_front.within; looked = looked; ended = e }

  -- it wants more, so the band is scanned
  module _ (t : b.more ≡ true) where
    abbrev x : Between f m s costs work b.front
    x = at_front.between

    abbrev q : Wants costs work goal limit b.front b
    q = wants looked t

    pub round_scan : ScanAt f m s costs work b
    round_scan = record {
      between = x;
      counted = band_counted x q.band;
      band = record { passed = x.passed; starts = x.starts; halves = band_halves x; wave = rw (slice_empty (length costs - b.front.from) work) (band_wave x q.band) };
    }

    pub round_within : b.front.settled + b.below ≤ limit
    round_within = q.within

    -- after that the goal and the limit are still not reached, and at least one cell more is settled
    module _ {costs' work' : List ℕ} {o' : Front} (y : ScannedAt f m s b costs' work' o') where
      beyond : o'.bound ≤ get_or costs' goal 0
      beyond = go (dec_lt (get_or costs' goal 0) b.bound)
        where
          go : Dec (get_or costs' goal 0 < b.bound) → o'.bound ≤ get_or costs' goal 0
          go (no k) = omega (arith, y.bound)
          go (yes k) = absurd (omega (arith, q.beyond, below_same (lawful f m x.passed) s (rw y.bound at y.between.wave) round_scan.band.wave goal here.inside k))

      pub next_open : OpenAt f m s costs' work' goal limit o'
      next_open = record { between = y.between; inside = here.inside; goal_open = beyond; within = omega (arith, y.counted, q.within) }

      pub fewer_left : cells f - o'.settled < cells f - o.settled
      fewer_left =
          omega (arith, band_some x q.band, ap (λ (o : Front). o.settled) (looked_front l), y.counted, y.between.settled, cheaper_most costs' o'.bound, y.between.wave.covers)
