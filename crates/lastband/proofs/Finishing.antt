-- The row of 01's table after the last band: no cell is open, or the wave's bound rises once more and ranks by key are places in L.
use mathlib.Core.Path.{◌≡◌, sym, ◌∙◌, ap, subst}
use mathlib.Core.List.{List, []}
use Prim.Native.Nat.{ℕ, suc, ◌+◌, ◌*◌, ◌/◌, ◌≤◌, ◌<◌}
use native.Mathlib.Nat.{add-zero}
use native.Mathlib.Omega.{arith}
use native.Mathlib.Decide.{ℕ_discrete, dec_lt}
use lib.Dec.{ltb, ltb→lt, lt→ltb}
use lib.ListN.{length, get_or}
use lib.Seq.{slice, slice_empty}
use Rattle.paths.specs.Graph.{MARK}
use Rattle.paths.specs.First.{first_route}
use Rattle.paths.specs.Table.{Right}
use Rattle.settling.specs.Order.{key}
use Rattle.settling.specs.Answer.{Kind, costs_left}
use Rattle.settling.specs.Wave.{Wave}
use Rattle.settling.specs.Cut.{cheaper_than, rank, cut, Agree}
use Rattle.paths.proofs.Below.{count_same}
use Rattle.paths.proofs.Meaning.{one_right_table}
use Rattle.settling.proofs.Waves.{mark_not, occ_none}
use Rattle.settling.proofs.Cuts.{done_agrees, key_from, key_to, key_cost}
use Rattle.settling.proofs.Answers.{answer_found, left_found, next, answer_stopped, left_stopped, answer_none, left_none}
use Rattle.floor.specs.declared.Floor.{Floor}
use Rattle.floor.specs.Place.{cells}
use Rattle.floor.specs.Step.{least_step, graph}
use Rattle.floor.proofs.Laws.{lawful}
use Rattle.wave.specs.declared.Front.{Front}
use Rattle.wave.specs.Bands.{Between, listed}
use Rattle.ranks.specs.Listed.{key_below}
use Rattle.answering.specs.declared.Question.{Question}
use Rattle.answering.specs.Answers.{row_of}
use Rattle.lastband.proofs.Ranks.{rank_listed}

module _ (f : Floor) (m : List ℕ) (q : Question) (costs work : List ℕ) (o : Front) (x : Between f m q.start costs work o) where
  -- the right table of the start
  abbrev pub table : List ℕ
  table = (one_right_table (lawful f m x.passed) q.start x.starts).0

  abbrev pub right : Right (graph f m) q.start table
  right = (one_right_table (lawful f m x.passed) q.start x.starts).1

  -- no cell is open
  module _ (inside : q.goal < cells f) (nothing : o.len ≡ 0) (later : o.bound ≤ get_or costs q.goal 0) (within : o.settled ≤ q.limit) where
    empty_wave : Wave (graph f m) least_step q.start costs o.bound [] []
    empty_wave = subst (λ (l : List ℕ). Wave (graph f m) least_step q.start costs o.bound [] l)
        (ap (λ (n : ℕ). slice o.from (o.from + n) work) nothing ∙ ap (λ (n : ℕ). slice o.from n work) (add-zero o.from) ∙ slice_empty o.from work) x.wave

    agrees : Agree table costs MARK
    agrees = done_agrees (lawful f m x.passed) q.start table right empty_wave

    -- a cell from the bound on has no cost
    past_bound : (v : ℕ) → v < cells f → o.bound ≤ get_or costs v 0 → get_or costs v 0 ≡ MARK
    past_bound v h b = go (ℕ_discrete (get_or costs v 0) MARK)
      where
        go : Dec (get_or costs v 0 ≡ MARK) → get_or costs v 0 ≡ MARK
        go (yes e) = e
        go (no n) = absurd (omega (arith, empty_wave.listed v h b, occ_none v, mark_not (get_or costs v 0) n))

    all_below_lem : cheaper_than costs MARK ≡ o.settled
    unfolding cheaper_than
    all_below_lem =
        count_same (λ v. ltb (get_or costs v 0) MARK) (λ v. ltb (get_or costs v 0) o.bound) (length costs)
        (λ v h l. lt→ltb (get_or costs v 0) o.bound (below v h (ltb→lt (get_or costs v 0) MARK l) (dec_lt (get_or costs v 0) o.bound)))
        (λ v h l. let k = ltb→lt (get_or costs v 0) o.bound l in lt→ltb (get_or costs v 0) MARK (omega (arith, empty_wave.top)))
        ∙ sym x.settled
      where
        below : (v : ℕ) → v < length costs → get_or costs v 0 < MARK → Dec (get_or costs v 0 < o.bound) → get_or costs v 0 < o.bound
        below v h l (yes b) = b
        below v h l (no b) = absurd (omega (arith, past_bound v (omega (arith, empty_wave.covers)) (omega arith)))

    pub row_none : row_of f m q table ≡ record { kind = Kind.none; settled = o.settled; number = MARK; route = [] }
    row_none =
        answer_none (lawful f m x.passed) q.start x.starts table right costs agrees empty_wave.small q.goal q.limit inside
        (past_bound q.goal inside later) (omega (arith, all_below_lem))
        ∙ rw all_below_lem

    pub left_all : costs_left table o.settled ≡ costs
    left_all = ap (costs_left table) (sym all_below_lem) ∙ (left_none (lawful f m x.passed) q.start x.starts table right costs agrees empty_wave.small)

  -- the bound can rise to `bound`: the costs are right below it
  module _ (bound : ℕ) (a : Agree table costs bound) (top : bound ≤ MARK) (inside : q.goal < cells f) where
    covers : length table ≡ cells f
    covers = right.covers

    fewer : cells f ≤ MARK
    fewer = (lawful f m x.passed).cells_fit

    -- the goal is below the bound, and open: its place is counted in the list
    abbrev goal_place : ℕ
    goal_place = o.settled + key_below costs (listed work o) (key costs q.goal)

    pub goal_rank : get_or costs q.goal 0 < bound → o.bound ≤ get_or costs q.goal 0 → rank costs (key costs q.goal) ≡ goal_place
    goal_rank b l =
        let k = key_to costs q.goal bound (omega (arith, fewer)) b in
        rank_listed x (key costs q.goal) (key_from costs q.goal o.bound l) (omega arith)

    module _ (below : get_or costs q.goal 0 < bound) (later : o.bound ≤ get_or costs q.goal 0) (within : goal_place < q.limit) where
      pub row_found : row_of f m q table ≡ record
          { kind = Kind.found; settled = suc goal_place; number = get_or costs q.goal 0; route = first_route (graph f m) q.start costs q.goal }
      row_found =
          let e = goal_rank below later in
          answer_found (lawful f m x.passed) q.start x.starts table right costs bound a top q.goal q.limit inside below (omega (arith, e))
          ∙ ap (λ (i : ℕ). record { kind = Kind.found; settled = suc i; number = get_or costs q.goal 0; route = first_route (graph f m) q.start costs q.goal }) e

      pub left_goal : costs_left table (suc goal_place) ≡ cut costs (suc (key costs q.goal))
      left_goal =
          let e = goal_rank below later in
          ap (λ (i : ℕ). costs_left table (suc i)) (sym e)
          ∙ left_found (lawful f m x.passed) q.start x.starts table right costs bound a top q.goal q.limit inside below (omega (arith, e))

    -- the limit falls before the cell with key k
    module _ (k : ℕ) (from_front : o.bound * 4294967296 ≤ k) (fits : k < bound * 4294967296)
        (before : o.settled + key_below costs (listed work o) k ≤ q.limit)
        (past : q.limit < o.settled + key_below costs (listed work o) (suc k))
        (open-goal : o.bound ≤ get_or costs q.goal 0)
        (later : get_or costs q.goal 0 < bound → q.limit ≤ goal_place) where
      rank_from : rank costs k ≤ q.limit
      rank_from = omega (arith, rank_listed x k from_front (omega arith))

      rank_past : q.limit < rank costs (suc k)
      rank_past = omega (arith, rank_listed x (suc k) (omega arith) (omega arith))

      rank_later : get_or costs q.goal 0 < bound → q.limit ≤ rank costs (key costs q.goal)
      rank_later b = omega (arith, goal_rank b open-goal, later b)

      pub row_stopped : row_of f m q table ≡ record { kind = Kind.stopped; settled = q.limit; number = k / 4294967296; route = [] }
      row_stopped =
          let law = lawful f m x.passed in
          let n = next law q.start x.starts table right costs bound a top q.goal q.limit inside k fits rank_from rank_past rank_later in
          let e : get_or costs n.cell 0 ≡ k / 4294967296 = sym (key_cost costs n.cell (omega (arith, n.inside, covers, fewer))) ∙ ap (λ (j : ℕ). j / 4294967296) n.has in
          answer_stopped law q.start x.starts table right costs bound a top q.goal q.limit inside k fits rank_from rank_past rank_later
          ∙ ap (λ (c : ℕ). record { kind = Kind.stopped; settled = q.limit; number = c; route = [] }) e

      pub left_limit : costs_left table q.limit ≡ cut costs k
      left_limit =
          left_stopped (lawful f m x.passed) q.start x.starts table right costs bound a top q.goal q.limit inside k fits rank_from rank_past rank_later
