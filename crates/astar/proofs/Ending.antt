-- The end of the search as the promise asks: up to the goal's cost the costs are those of the right table, so both give the same row and the same costs left.
use mathlib.Core.Path.{◌≡◌, refl, sym, ◌∙◌, ap}
use mathlib.Core.Logic.{◌≢◌}
use mathlib.Core.List.{List, [], ◌++◌}
use Prim.Native.Nat.{ℕ, ◌<◌}
use native.Mathlib.Omega.{arith}
use lib.ListN.{length, get_or, drop}
use Rattle.paths.specs.Graph.{Lawful, MARK}
use Rattle.paths.specs.Table.{Right}
use Rattle.paths.specs.First.{first_route}
use Rattle.paths.proofs.Bools.{T_true, not_T_false}
use Rattle.paths.proofs.Meaning.{one_right_table}
use Rattle.settling.specs.Order.{known}
use Rattle.settling.specs.Answer.{Kind, Row}
use Rattle.settling.specs.Estimate.{Consistent}
use Rattle.settling.specs.Aimed.{settled_count, settled_costs, aimed_of}
use Rattle.settling.proofs.Orders.{known_is, is_known}
use Rattle.settling.proofs.Waves.{value_fits}
use Rattle.settling.proofs.Spreads.{stepping}
use Rattle.settling.proofs.Aims.{agrees, near, costs_settled, aimed_same}
use Rattle.floor.specs.Place.{cells}
use Rattle.floor.specs.declared.RouteLength.{RouteLength}
use Rattle.floor.specs.Step.{least_step, greatest_step, graph}
use Rattle.floor.specs.Length.{route_length}
use Rattle.floor.specs.Estimate.{estimate}
use Rattle.floor.proofs.Laws.{lawful}
use Rattle.floor.proofs.Estimating.{estimate_consistent, estimate_home}
use Rattle.answering.specs.Answer.{Answer, Found, None}
use Rattle.answering.specs.Answers.{answer_by}
use Rattle.walkback.specs.Walks.{CanWalk}
use Rattle.spread.specs.declared.Aim.{Aim}
use Rattle.spread.proofs.Passing.{can_aim}
use Rattle.astar.specs.Astar.{aimed_row}
use Rattle.astar.specs.Ends.{CanKeep, CanFinish, Finished}

module _ {a : Aim} {m : List ℕ} {s : ℕ} {costs route : List ℕ} (c : CanFinish a m s costs route) where
  abbrev h : ℕ → ℕ
  h = estimate a.floor a.goal

  law : Lawful (graph a.floor m) least_step greatest_step
  law = lawful a.floor m c.passed

  covers : length costs ≡ cells a.floor
  covers = c.ends.spread.covers

  -- the right table of the start
  abbrev table : List ℕ
  table = (one_right_table law s c.starts).0

  abbrev right : Right (graph a.floor m) s table
  right = (one_right_table law s c.starts).1

  fits : (v : ℕ) → v < cells a.floor → get_or table v 0 ≢ MARK → get_or table v 0 < MARK
  fits = value_fits law s c.starts table right

  consistent : Consistent (graph a.floor m) h
  consistent = record { falls = estimate_consistent a.floor m a.goal c.passed }

  home : h a.goal ≡ 0
  home = estimate_home a.floor a.goal

  pub can_keep : CanKeep a costs
  can_keep = record {
    aims = can_aim a m c.passed c.inside c.place;
    place = c.place;
    inside = omega (arith, c.inside, covers);
    small = omega (arith, covers, law.cells_fit);
  }

  -- a row of the costs is the row of the right table
  finished : (r : Row) → aimed_of (graph a.floor m) s costs h a.goal ≡ r → {n : Answer} {costs' route' : List ℕ} → n ≡ answer_by a.floor m s r
      → costs' ≡ settled_costs h costs a.goal → route' ≡ r.route ++ drop (length r.route) route → Finished a.floor m s a.goal route n costs' route'
  finished r e n left written =
      let k = aimed_same (stepping law) s c.starts h consistent a.goal c.inside home c.ends table right fits law in
      let same : r ≡ aimed_row a.floor m s a.goal table = sym e ∙ k in
      record {
        table = table;
        right = right;
        answer = n ∙ ap (answer_by a.floor m s) same;
        costs_left = left ∙ costs_settled (stepping law) s c.starts h consistent a.goal c.inside home c.ends table right fits;
        route_left = written ∙ ap (λ (r : Row). r.route ++ drop (length r.route) route) same;
      }

  pub finished_none : get_or costs a.goal 0 ≡ MARK → {n : ℕ} {costs' : List ℕ} → n ≡ settled_count h costs a.goal → costs' ≡ settled_costs h costs a.goal
      → Finished a.floor m s a.goal route (None n) costs' route
  unfolding aimed_of
  finished_none z {n} e left =
      finished (record { kind = Kind.none; settled = settled_count h costs a.goal; number = MARK; route = [] })
      (rw (not_T_false (known costs a.goal) (λ k. known_is costs a.goal k z))) (ap None e) left refl

  module _ (has : get_or costs a.goal 0 ≢ MARK) where
    pub can_walk : CanWalk a.floor m s a.goal costs
    can_walk = record {
      passed = c.passed;
      starts = c.starts;
      inside = c.inside;
      covers = covers;
      t = table;
      right = right;
      h = h;
      consistent = consistent;
      top = get_or costs a.goal 0;
      agrees = agrees (stepping law) s c.starts h consistent a.goal c.inside home c.ends table right fits;
      near = near (stepping law) s c.starts h consistent a.goal c.inside home c.ends table right fits has;
    }

    abbrev way : List ℕ
    way = first_route (graph a.floor m) s costs a.goal

    pub finished_found : {n : ℕ} {k : RouteLength} {costs' route' : List ℕ} → n ≡ settled_count h costs a.goal → k ≡ route_length a.floor m s way
        → costs' ≡ settled_costs h costs a.goal → route' ≡ way ++ drop k.steps route
        → Finished a.floor m s a.goal route (Found n (get_or costs a.goal 0) k) costs' route'
    unfolding aimed_of
    finished_found e l left written =
        finished (record { kind = Kind.found; settled = settled_count h costs a.goal; number = get_or costs a.goal 0; route = way })
        (rw (T_true (known costs a.goal) (is_known costs a.goal has))) (rw (e, l)) left (written ∙ rw l)
