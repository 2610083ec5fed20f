-- Every number of an answer has room in its field: settled counts and routes are no longer than the floor has cells, costs are at most MARK, P and Q no more than
-- the cost that they sum to, and a stopped search has settled as many cells as the question's limit, which came from four bytes.
use mathlib.Core.Path.{◌≡◌, sym, ◌∙◌}
use mathlib.Core.Bool.{◌&&◌}
use mathlib.Core.List.{List}
use Prim.Native.Nat.{ℕ, ◌+◌, ◌*◌, ◌≤◌, ◌<◌}
use native.Mathlib.Decide.{ℕ_discrete, dec_lt}
use native.Mathlib.Omega.{arith}
use lib.Dec.{eqb, leb, ltb, ltb→lt}
use lib.ListN.{length, get_or, get_or-eq_default}
use Rattle.paths.specs.Graph.{MARK}
use Rattle.paths.specs.First.{first_route}
use Rattle.paths.specs.Table.{Right}
use Rattle.settling.specs.Order.{known, L, place}
use Rattle.settling.specs.Answer.{Row, answer_of}
use Rattle.paths.proofs.Bools.{T_and, by_cond}
use Rattle.paths.proofs.Below.{count_le}
use Rattle.settling.proofs.Orders.{known_is, in_known, place_absent, length_sorted}
use Rattle.paths.proofs.Meaning.{reachable_known, one_first_route, first_route_cost, least_cost_route_short}
use Rattle.floor.specs.declared.Floor.{Floor}
use Rattle.floor.specs.Place.{cells}
use Rattle.floor.specs.Refusal.{HasPassed}
use Rattle.floor.specs.declared.RouteLength.{RouteLength}
use Rattle.floor.specs.Step.{graph}
use Rattle.floor.specs.Length.{route_length}
use Rattle.floor.proofs.Passing.{facts, few_cells}
use Rattle.floor.proofs.Laws.{lawful, least_cost_bound}
use Rattle.floor.proofs.Lengths.{cost_parts}
use Rattle.floor.proofs.Questions.{question_passed, start_inside, goal_inside}
use Rattle.answering.specs.Answer.{Answer}
use Rattle.answering.specs.Answers.{answer_by, numbers_of}
use Rattle.answering.specs.Rooms.{Rooms}
use Rattle.answering.specs.declared.Question.{Question}
use Rattle.search.specs.Search.{Searched, refused, passed}
use Rattle.search.proofs.Lending.{search_question}
use Rattle.search.proofs.Promise.{search_numbers}
use Rattle.recordlayout.specs.Record.{question_in}
use Rattle.recordlayout.specs.Fields.{InRecord}
use Rattle.recordlayout.proofs.Records.{number_small, refusal_in_record}
use Rattle.desk.specs.Desk.{Asked, no_zeros, searched}

abbrev RowFits : Floor → List ℕ → ℕ → Row → Type 0
RowFits f m s a = InRecord (numbers_of (answer_by f m s a))

module _ (f : Floor) (m : List ℕ) (passed : HasPassed f m) (s : ℕ) (start : s < cells f) (t : List ℕ) (right : Right (graph f m) s t) where
  few : cells f < MARK
  few = omega (arith, few_cells (facts f m passed).map)

  entry_fits : (v : ℕ) → get_or t v 0 ≤ MARK
  entry_fits v = elim (dec_lt v (cells f)) [
    | yes h ↦ elim (ℕ_discrete (get_or t v 0) MARK) [
      | yes e ↦ omega arith
      | no n ↦ omega (arith, least_cost_bound f m passed s v (get_or t v 0) start (right.reached v h n))
    ]
    | no h ↦ omega (arith, get_or-eq_default t 0 {n = v} (omega (arith, right.covers)))
  ]

  listed : length (L t) ≤ cells f
  listed = omega (arith, length_sorted t (length t), count_le (known t) (length t), right.covers)

  -- the first route to a cell that is listed: its steps, P and Q
  record RouteFits (goal : ℕ) (l : RouteLength) : Type 0 where
    steps : l.steps < cells f
    sums : 70 * l.p + 99 * l.q ≡ get_or t goal 0

  route_fits : (goal : ℕ) → goal < cells f → place goal (L t) < length (L t) → RouteFits goal (route_length f m s (first_route (graph f m) s t goal))
  route_fits goal h p = elim (ℕ_discrete (get_or t goal 0) MARK) [
    | yes e ↦ absurd (omega (arith, place_absent goal (L t) (λ i. known_is t goal (in_known t goal (length t) i).1 e)))
    | no n ↦
        let law = lawful f m passed in
        let x = (reachable_known law s start t right goal h).1 n in
        let route = first_route (graph f m) s t goal in
        let first = (one_first_route law s start t right goal x).0.route in
        let cost = first_route_cost law s start t right goal x in
        record {
          steps = least_cost_route_short law s start goal (get_or t goal 0) (right.reached goal h n) route first cost;
          sums = sym (cost_parts f m s route first.allowed) ∙ cost;
        }
  ]

  row_fits : (goal k : ℕ) → goal < cells f → k ≤ MARK → RowFits f m s (answer_of (graph f m) s t goal k)
  unfolding answer_of
  row_fits goal k h small =
      let n = length (L t) in
      let i = place goal (L t) in
      by_cond (RowFits f m s) (ltb i n && ltb i k) _ _
      (λ b.
      let below = ltb→lt i n (T_and (ltb i n) (ltb i k) b).0 in
      let route = route_fits goal h below in
      record {
        kind_fits = omega arith;
        refusal_fits = omega arith;
        settled_fits = omega (arith, few, listed, below);
        number_fits = entry_fits goal;
        length_fits = omega (arith, few, route.steps);
        p_fits = omega (arith, route.sums, entry_fits goal);
        q_fits = omega (arith, route.sums, entry_fits goal);
      })
      (λ b.
      by_cond (RowFits f m s) (eqb i n && leb n k) _ _
      (λ c.
      record {
        kind_fits = omega arith;
        refusal_fits = omega arith;
        settled_fits = omega (arith, few, listed);
        number_fits = omega arith;
        length_fits = omega arith;
        p_fits = omega arith;
        q_fits = omega arith;
      })
      (λ c.
      record {
        kind_fits = omega arith;
        refusal_fits = omega arith;
        settled_fits = small;
        number_fits = entry_fits (get_or (L t) k 0);
        length_fits = omega arith;
        p_fits = omega arith;
        q_fits = omega arith;
      }))

searched_fits : (f : Floor) (m : List ℕ) (q : Question) (r : Rooms) {a : Answer} {r' : Rooms} → q.limit ≤ MARK → Searched f m q r a r'
    → InRecord (numbers_of a)
searched_fits f m q r small (refused n p e b l) = rw b (refusal_in_record n p (omega (arith, (search_numbers f m q r e).1)))
searched_fits f m q r small (passed e x) =
    let p = search_question f m q r e in
    rw x.answer
    (row_fits f m (question_passed f m q.start q.goal p) q.start (start_inside f m q.start q.goal p) x.table x.right
    q.goal
    q.limit
    (goal_inside f m q.start q.goal p)
    small)

-- the numbers of every answer to a question fit their fields
pub answers_fit : (f : Floor) (m question : List ℕ) (r : Rooms) {a : Answer} {r' : Rooms} → ((v : ℕ) → get_or question v 0 < 256) → Asked f m question r a r'
    → InRecord (numbers_of a)
answers_fit f m question r small (no_zeros z e l) = rw e (refusal_in_record 13 0 (omega arith))
answers_fit f m question r small (searched z x) = searched_fits _ m (question_in question) r (number_small question 8 small) x
