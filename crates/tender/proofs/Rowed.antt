-- From the search's promise to the row of 01's table that an answer comes from: the number of its kind tells which, and the row's meaning is known.
use mathlib.Core.Path.{◌≡◌, refl, sym, ◌∙◌, ap}
use mathlib.Core.Logic.{◌↔◌}
use mathlib.Core.Bool.{cond}
use mathlib.Core.List.{List, ◌++◌}
use Prim.Native.Nat.{ℕ, ◌≤◌, ◌<◌}
use native.Mathlib.Omega.{arith}
use lib.Dec.{eqb}
use lib.ListN.{length, take, drop}
use lib.Seq.{take-append_seam}
use Rattle.paths.specs.Graph.{Lawful}
use Rattle.paths.specs.Route.{cost_of, Route}
use Rattle.paths.specs.First.{First}
use Rattle.settling.specs.Answer.{Kind, Row}
use Rattle.settling.proofs.Outcomes.{code, found_first, found_cost, stopped_floor}
use Rattle.floor.specs.declared.Floor.{Floor}
use Rattle.floor.specs.Screen.{Passed}
use Rattle.floor.specs.Length.{surd, length_of, route_length}
use Rattle.floor.specs.Place.{cells}
use Rattle.floor.specs.Step.{least_step, greatest_step, graph}
use Rattle.floor.specs.Refusal.{screen, question_lines}
use Rattle.floor.proofs.Laws.{lawful}
use Rattle.floor.proofs.Questions.{question_passed, start_inside, goal_inside}
use Rattle.answering.specs.Answer.{Answer}
use Rattle.answering.specs.declared.AnswerNumbers.{AnswerNumbers}
use Rattle.answering.specs.Answers.{row_of, answered, answer_by, numbers_of}
use Rattle.answering.specs.Rooms.{Rooms}
use Rattle.answering.specs.declared.Question.{Question}
use Rattle.search.specs.Search.{search_lines, ByTable, Searched, refused, passed}
use Rattle.search.proofs.Lending.{search_question}

-- a kind from its number in 01's table
abbrev kind_of : ℕ → Kind
kind_of n = cond (eqb n 1) Kind.found (cond (eqb n 2) Kind.none Kind.stopped)

kind_back : (k : Kind) → kind_of (code k) ≡ k
kind_back Kind.found = refl
kind_back Kind.none = refl
kind_back Kind.stopped = refl

zero_no_code : (k : Kind) → 0 ≡ code k → ⊥
zero_no_code Kind.found e = omega arith
zero_no_code Kind.none e = omega arith
zero_no_code Kind.stopped e = omega arith

-- of a found answer's numbers and route room: the first part of the room is the first least-cost route, at that cost and with that P and Q
pub record FoundWay (f : Floor) (m : List ℕ) (start goal : ℕ) (n : AnswerNumbers) (room : List ℕ) : Type 0 where
  pub first : First (graph f m) start goal (take n.length room)
  pub cost : cost_of (graph f m) start (take n.length room) ≡ n.number
  pub sums : surd n.p n.q ≡ length_of f m start (take n.length room)

-- an answer that comes from a row, of either engine, from that start
module _ (f : Floor) (m : List ℕ) (s : ℕ) where
  abbrev pub told : Kind → Row → Answer
  told = answered (route_length f m s)

  code_told : (k : Kind) (w : Row) → (numbers_of (told k w)).kind ≡ code k
  code_told Kind.found w = refl
  code_told Kind.none w = refl
  code_told Kind.stopped w = refl

  settled_told : (k : Kind) (w : Row) → (numbers_of (told k w)).settled ≡ w.settled
  settled_told Kind.found w = refl
  settled_told Kind.none w = refl
  settled_told Kind.stopped w = refl

  -- no more of the route room is told of than the row's route
  pub told_length : (k : Kind) (w : Row) → (numbers_of (told k w)).length ≤ length w.route
  told_length Kind.found w = omega arith
  told_length Kind.none w = omega arith
  told_length Kind.stopped w = omega arith

  none_refused : (k : Kind) (w : Row) → ((numbers_of (told k w)).refusal ≡ 0) × ((numbers_of (told k w)).place ≡ 0)
  none_refused Kind.found w = (refl, refl)
  none_refused Kind.none w = (refl, refl)
  none_refused Kind.stopped w = (refl, refl)

  module _ {a : Answer} (w : Row) (e : a ≡ answer_by f m s w) where
    pub row_answer : (k : Kind) → w.kind ≡ k → a ≡ told k w
    row_answer k h = e ∙ ap (λ (k : Kind). told k w) h

    pub row_kind : (k : Kind) → ((numbers_of a).kind ≡ code k) ↔ (w.kind ≡ k)
    row_kind k = (
      λ h. sym (kind_back w.kind) ∙ ap kind_of (sym (code_told w.kind w) ∙ sym (ap (λ (b : Answer). (numbers_of b).kind) e) ∙ h) ∙ kind_back k,
      λ h. ap (λ (b : Answer). (numbers_of b).kind) (row_answer k h) ∙ code_told k w,
    )

    pub row_settled : (numbers_of a).settled ≡ w.settled
    row_settled = ap (λ (b : Answer). (numbers_of b).settled) e ∙ settled_told w.kind w

    pub row_no_refusal : ((numbers_of a).refusal ≡ 0) × ((numbers_of a).place ≡ 0)
    row_no_refusal = rw e (none_refused w.kind w)

module _ {f : Floor} {m : List ℕ} {q : Question} {r : Rooms} {a : Answer} {r' : Rooms} (x : ByTable f m q r a r') where
  abbrev pub given : Row
  given = row_of f m q x.table

  -- an answer of kind k comes from a row of that kind
  pub record FromRow (k : Kind) : Type 0 where
    pub kind : given.kind ≡ k
    pub answer : a ≡ told f m q.start k given
    pub route : r'.route ≡ given.route ++ drop (length given.route) r.route

  -- an answer of that kind
  pub as_row : (k : Kind) → given.kind ≡ k → a ≡ told f m q.start k given
  as_row = row_answer f m q.start given x.answer

  pub from_row : (k : Kind) → (numbers_of a).kind ≡ code k → FromRow k
  from_row k e =
      let h = (row_kind f m q.start given x.answer k).0 e in
      record { kind = h; answer = as_row k h; route = ap (λ (z : Rooms). z.route) x.leaves }

  -- the settled count is the row's
  pub settled_is : (numbers_of a).settled ≡ given.settled
  settled_is = row_settled f m q.start given x.answer

  -- what a question that passed gives
  module _ (p : screen (search_lines f m q r) ≡ Passed) where
    abbrev asked : screen (question_lines f m q.start q.goal) ≡ Passed
    asked = search_question f m q r p

    abbrev pub law : Lawful (graph f m) least_step greatest_step
    law = lawful f m (question_passed f m q.start q.goal asked)

    abbrev pub starts : q.start < cells f
    starts = start_inside f m q.start q.goal asked

    abbrev pub ends : q.goal < cells f
    ends = goal_inside f m q.start q.goal asked

  module _ (p : screen (search_lines f m q r) ≡ Passed) where
    found_by_table : (numbers_of a).kind ≡ 1 → FoundWay f m q.start q.goal (numbers_of a) r'.route
    found_by_table e =
        let w = from_row Kind.found e in
        let b = ap numbers_of w.answer in
        let n : (numbers_of a).length ≡ length given.route = ap (λ (n : AnswerNumbers). n.length) b in
        let way : take (numbers_of a).length r'.route ≡ given.route = rw (w.route, n) (take-append_seam given.route (drop (length given.route) r.route)) in
        record {
          first = rw way (found_first (law p) q.start (starts p) x.table x.right q.goal (ends p) q.limit w.kind);
          cost =
              rw way
              (found_cost (law p) q.start (starts p) x.table x.right q.goal (ends p) q.limit w.kind ∙ sym (ap (λ (n : AnswerNumbers). n.number) b));
          sums = rw way (ap (λ (n : AnswerNumbers). surd n.p n.q) b);
        }

    stopped_by_table : (numbers_of a).kind ≡ 3 → (ds : List ℕ) → Route (graph f m) q.start q.goal ds → (numbers_of a).number ≤ cost_of (graph f m) q.start ds
    stopped_by_table e ds w =
        let y = from_row Kind.stopped e in
        rw (ap (λ (b : Answer). (numbers_of b).number) y.answer)
        (stopped_floor (law p) q.start (starts p) x.table x.right q.goal (ends p) q.limit y.kind ds w)

module _ {f : Floor} {m : List ℕ} {q : Question} {r : Rooms} {a : Answer} {r' : Rooms} where
  pub found_route : Searched f m q r a r' → (numbers_of a).kind ≡ 1 → FoundWay f m q.start q.goal (numbers_of a) r'.route
  found_route (refused n w h b k) e = absurd (zero_no_code Kind.found (sym (ap (λ (b : Answer). (numbers_of b).kind) b) ∙ e))
  found_route (passed p x) e = found_by_table x p e

  -- no route to the goal costs less than the floor
  pub stopped_below : Searched f m q r a r' → (numbers_of a).kind ≡ 3 → (ds : List ℕ) → Route (graph f m) q.start q.goal ds
      → (numbers_of a).number ≤ cost_of (graph f m) q.start ds
  stopped_below (refused n w h b k) e ds y = absurd (zero_no_code Kind.stopped (sym (ap (λ (b : Answer). (numbers_of b).kind) b) ∙ e))
  stopped_below (passed p x) e ds y = stopped_by_table x p e ds y
