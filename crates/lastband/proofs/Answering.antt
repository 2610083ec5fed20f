-- The last band as the promise asks: what the calls of the last band need, and their answers as rows of 01's table.
use mathlib.Core.Path.{◌≡◌, sym, ◌∙◌, ap}
use mathlib.Core.Logic.{◌⊎◌, ⊎_elim}
use mathlib.Core.List.{List, ◌++◌}
use Prim.Native.Nat.{ℕ, suc, ◌+◌, ◌-◌, ◌*◌, ◌≤◌, ◌<◌}
use native.Mathlib.Omega.{arith}
use lib.ListN.{length, get_or, drop}
use Rattle.paths.specs.Graph.{MARK}
use Rattle.paths.specs.First.{first_route}
use Rattle.settling.specs.Order.{key}
use Rattle.settling.specs.Answer.{Row, costs_left}
use Rattle.settling.specs.Cut.{cheaper_than, Agree}
use Rattle.settling.proofs.Cuts.{wave_agrees, key_to, rank_bound, place_rank, place_early}
use Rattle.settling.proofs.Walking.{plain, agree_plain, near_plain}
use Rattle.floor.specs.declared.Floor.{Floor}
use Rattle.floor.specs.Place.{cells}
use Rattle.floor.specs.Step.{graph}
use Rattle.floor.specs.Length.{route_length}
use Rattle.floor.proofs.Laws.{lawful}
use Rattle.answering.specs.Answer.{Answer, Found, None}
use Rattle.wave.specs.declared.Band.{Band}
use Rattle.ranks.specs.Listed.{AreCells, key_below}
use Rattle.wave.specs.Bands.{IsBand, listed, Looked, none_open, is_last, is_next, Rounds}
use Rattle.walkback.specs.Walks.{CanWalk}
use Rattle.answering.specs.Answers.{answer_by}
use Rattle.answering.specs.declared.Question.{Question}
use Rattle.lastband.specs.Last.{CanStop, StoppedAt, Arrived, CanFinish, Finished}
use Rattle.wave.proofs.Rounds.{band_top, band_rises, band_wave, band_counted, can_look}
use Rattle.settling.proofs.Counts.{cheaper_most}
use Rattle.lastband.proofs.Ranks.{can_find}
use Rattle.lastband.proofs.Finishing.{table, right, row_none, left_all, goal_rank, row_found, left_goal, row_stopped, left_limit}

module _ {f : Floor} {m : List ℕ} {q : Question} {costs work route : List ℕ} {b : Band} (c : CanFinish f m q costs work route b) where
  abbrev r : Rounds f m q.start q.goal q.limit costs work b
  r = c.rounds

  -- the list holds cells of the floor, whose numbers fit 32 bits
  pub in_room : b.front.from + b.front.len ≤ length work
  in_room = (can_look r.between q.goal c.inside).room

  pub are_cells : AreCells (length costs) (listed work b.front)
  are_cells = (can_look r.between q.goal c.inside).are_cells

  pub few : cells f ≤ MARK
  few = (lawful f m r.between.passed).cells_fit

  pub covers : length costs ≡ cells f
  covers = r.between.wave.covers

  -- no cell is open
  pub finished_none : b.front.len ≡ 0 → Finished f m q route (None b.front.settled) costs route
  finished_none z =
      let x = r.between in
      let e = row_none f m q costs work b.front x c.inside z r.goal_open r.within in
      record {
        table = table f m q costs work b.front x;
        right = right f m q costs work b.front x;
        answer = sym (ap (answer_by f m q.start) e);
        costs_left = sym (ap (λ (a : Row). costs_left (table f m q costs work b.front x) a.settled) e ∙ left_all f m q costs work b.front x c.inside z r.goal_open r.within);
        route_left = sym (ap (λ (a : Row). a.route ++ drop (length a.route) route) e);
      }

  -- some cell is open: the costs are right below the band's bound
  module _ (n : b.front.len ≡ 0 → ⊥) where
    -- the band was looked at, and the goal or the limit falls in it
    record Last : Type 0 where
      band : IsBand costs work b.front b
      falls : (get_or costs q.goal 0 < b.bound) ⊎ (q.limit < b.front.settled + b.below)

    last : Last
    last = go r.looked
      where
        go : Looked costs work q.goal q.limit b.front b → Last
        go (none_open z e t) = absurd (n z)
        go (is_last k t h) = record { band = k; falls = h }
        go (is_next k t g l) = let e = r.ended in let z : ◌≡◌ {A = ℕ} 0 1 = cc in absurd (omega arith)

    top : b.bound ≤ MARK
    top = band_top r.between last.band

    agrees : Agree (table f m q costs work b.front r.between) costs b.bound
    agrees =
        wave_agrees (lawful f m r.between.passed) q.start (table f m q costs work b.front r.between) (right f m q costs work b.front r.between)
        (band_wave r.between last.band)

    abbrev pub goal_place : ℕ
    goal_place = b.front.settled + key_below costs (listed work b.front) (key costs q.goal)

    -- the code counts the goal's place in the list by the goal's key
    pub counted : {k i : ℕ} → k ≡ get_or costs q.goal 0 * 4294967296 + q.goal → i ≡ key_below costs (listed work b.front) k → b.front.settled + i ≡ goal_place
    unfolding key
    counted e h = ap (λ (n : ℕ). b.front.settled + n) (h ∙ ap (key_below costs (listed work b.front)) e)

    -- the limit falls in the band
    pub can_stop : q.limit < cheaper_than costs b.bound → CanStop costs work q.limit b
    can_stop l = record {
      room = in_room;
      are_cells = are_cells;
      small = omega (arith, covers, few);
      within = r.within;
      find = can_find r.between b.bound (band_rises r.between last.band) top (q.limit - b.front.settled) (omega (arith, r.within));
    }

    pub finished_stopped : (get_or costs q.goal 0 < b.bound → q.limit ≤ goal_place) → {a : Answer} {costs' : List ℕ}
        → StoppedAt costs work q.limit b a costs' → Finished f m q route a costs' route
    finished_stopped later {a} {costs'} s =
        let x = r.between in
        let t = table f m q costs work b.front x in
        let i = s.next in
        let e = row_stopped f m q costs work b.front x b.bound agrees top c.inside s.k i.from_low i.to_high (omega (arith, i.before, r.within))
        (omega (arith, i.after, r.within)) r.goal_open later in
        let l = left_limit f m q costs work b.front x b.bound agrees top c.inside s.k i.from_low i.to_high (omega (arith, i.before, r.within))
        (omega (arith, i.after, r.within)) r.goal_open later in
        record {
          table = t;
          right = right f m q costs work b.front x;
          answer = s.answer ∙ sym (ap (answer_by f m q.start) e);
          costs_left = s.left ∙ sym (ap (λ (a : Row). costs_left t a.settled) e ∙ l);
          route_left = sym (ap (λ (a : Row). a.route ++ drop (length a.route) route) e);
        }

    -- the goal is not below the band's bound: the band was the last because of the limit
    pub limit_falls : b.bound ≤ get_or costs q.goal 0 → q.limit < cheaper_than costs b.bound
    limit_falls h = ⊎_elim (λ g. absurd (omega arith)) (λ l. omega (arith, band_counted r.between last.band)) last.falls

    -- the goal is below it
    module _ (below : get_or costs q.goal 0 < b.bound) where
      pub can_walk : CanWalk f m q.start q.goal costs
      can_walk = record {
        passed = r.between.passed;
        starts = r.between.starts;
        inside = c.inside;
        covers = covers;
        t = table f m q costs work b.front r.between;
        right = right f m q costs work b.front r.between;
        h = λ v. 0;
        consistent = plain (graph f m);
        top = b.bound - 1;
        agrees = agree_plain (right f m q costs work b.front r.between).covers top (omega arith) agrees;
        near = near_plain top below;
      }

      pub goal_before : goal_place < cheaper_than costs b.bound
      goal_before =
          let t = table f m q costs work b.front r.between in
          let g = (right f m q costs work b.front r.between).covers in
          let k = key_to costs q.goal b.bound (omega (arith, few, c.inside)) below in
          let p = place_rank t costs b.bound agrees top (omega (arith, g, few)) q.goal (omega (arith, g, c.inside)) below in
          let d = place_early t costs b.bound agrees top (omega (arith, g, few)) (b.bound * 4294967296) (omega arith) q.goal (omega (arith, g, c.inside)) k in
          omega (arith, p, d, goal_rank f m q costs work b.front r.between b.bound agrees top c.inside below r.goal_open, rank_bound costs (omega (arith, covers, few)) b.bound)

      pub place_small : goal_place < MARK
      place_small = omega (arith, goal_before, cheaper_most costs b.bound, covers, few)

      pub finished_found : {i : ℕ} → i ≡ goal_place → goal_place < q.limit → {a : Answer} {costs' route' : List ℕ}
          → Arrived f m q.start q.goal i costs route a costs' route' → Finished f m q route a costs' route'
      finished_found {i} p w {a} y =
          let x = r.between in
          let t = table f m q costs work b.front x in
          let e = row_found f m q costs work b.front x b.bound agrees top c.inside below r.goal_open w in
          let l = left_goal f m q costs work b.front x b.bound agrees top c.inside below r.goal_open w in
          record {
            table = t;
            right = right f m q costs work b.front x;
            answer =
                y.answer ∙ ap (λ (n : ℕ). Found (suc n) (get_or costs q.goal 0) (route_length f m q.start (first_route (graph f m) q.start costs q.goal))) p
                ∙ sym (ap (answer_by f m q.start) e);
            costs_left = y.left ∙ sym (ap (λ (a : Row). costs_left t a.settled) e ∙ l);
            route_left = y.written ∙ sym (ap (λ (a : Row). a.route ++ drop (length a.route) route) e);
          }
