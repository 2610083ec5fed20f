-- 01's table of a search's answer: the goal's place in L decides the row's kind, the kind fixes the row, and the answer's numbers are the row's columns.
use mathlib.Core.Path.{◌≡◌, refl, sym, ◌∙◌, ap}
use mathlib.Core.Logic.Iff
use mathlib.Core.Logic.{◌↔◌, ◌≢◌}
use mathlib.Core.List.{List, [], ◌++◌}
use Prim.Native.Nat.{ℕ, ◌+◌, ◌≤◌, ◌<◌}
use native.Mathlib.Decide.{ℕ_discrete, dec_lt}
use native.Mathlib.Omega.{arith}
use lib.ListN.{length, get_or, drop}
use Rattle.paths.specs.Graph.{MARK}
use Rattle.paths.specs.Route.{Reachable, Least}
use Rattle.paths.specs.First.{first_route}
use Rattle.settling.specs.Answer.{Kind, Row, costs_left}
use Rattle.settling.specs.List.{At}
use Rattle.settling.specs.Order.{L, place}
use Rattle.paths.proofs.Meaning.{ends_inside, reachable_known}
use Rattle.settling.proofs.Lists.{L-members}
use Rattle.settling.proofs.OneList.{at_in, in_place, reached_value, computed_is_L, L-is-computed, one_place}
use Rattle.settling.proofs.Outcomes.{code, found_exactly, none_exactly, stopped_exactly, found_is, none_is, stopped_is, found_first, settled_left, unsettled_left}
use Rattle.floor.specs.declared.Floor.{Floor}
use Rattle.floor.specs.Screen.{Passed}
use Rattle.floor.specs.Place.{cells}
use Rattle.floor.specs.Step.{graph}
use Rattle.floor.specs.Length.{surd}
use Rattle.floor.specs.Refusal.{screen}
use Rattle.answering.specs.Answer.{Answer}
use Rattle.answering.specs.declared.AnswerNumbers.{AnswerNumbers}
use Rattle.answering.specs.Answers.{numbers_of}
use Rattle.answering.specs.Rooms.{Rooms}
use Rattle.answering.specs.declared.Question.{Question}
use Rattle.search.specs.Search.{search_lines, ByTable}
use Rattle.tender.specs.SearchTable.{GoalWithin, GoalMissing, Otherwise, BeginsWithRoute, NoRoute, Answers, TableHolds}
use Rattle.tender.proofs.Rowed.{told, row_kind, row_no_refusal, given, law, starts, ends, settled_is, as_row}
use Rattle.tender.proofs.Leaving.{search_left, route_left, lengths_stay}

kinds_apart : {k l : Kind} → k ≡ l → code k ≢ code l → ⊥
kinds_apart e n = n (ap code e)

module _ {f : Floor} {m : List ℕ} {q : Question} {r : Rooms} {a : Answer} {r' : Rooms} (x : ByTable f m q r a r')
    (p : screen (search_lines f m q r) ≡ Passed) where
  abbrev t : List ℕ
  t = x.table

  abbrev l : List ℕ
  l = L t

  -- a cell stands in L exactly when it is reachable, at the place that the definitions compute
  standing : (i v : ℕ) → At l i v → Reachable (graph f m) q.start v × (place v l ≡ i)
  standing i v s = (
    (L-members (law x p) q.start (starts x p) t x.right v).0 (at_in l i v s),
    one_place (law x p) q.start (starts x p) t x.right i v s,
  )

  stands : (v : ℕ) → Reachable (graph f m) q.start v → At l (place v l) v
  stands v w = in_place l v ((L-members (law x p) q.start (starts x p) t x.right v).1 w)

  when_found : ((given x).kind ≡ Kind.found) ↔ GoalWithin l q
  when_found = Iff.trans (found_exactly (law x p) q.start (starts x p) t x.right q.goal (ends x p) q.limit) (
    λ w. record { i = place q.goal l; place = stands q.goal w.0; within = w.1 },
    λ w. let s = standing w.i q.goal w.place in (s.0, omega (arith, s.1, w.within)),
  )

  when_none : ((given x).kind ≡ Kind.none) ↔ GoalMissing l q
  when_none = Iff.trans (none_exactly (law x p) q.start (starts x p) t x.right q.goal (ends x p) q.limit) (
    λ w. record { nowhere = λ i s. w.0 (standing i q.goal s).0; covered = w.1 },
    λ w. (λ s. w.nowhere (place q.goal l) (stands q.goal s), w.covered),
  )

  when_stopped : ((given x).kind ≡ Kind.stopped) ↔ Otherwise l q
  when_stopped = (
    λ k. record {
      not_found = λ w. kinds_apart (sym k ∙ when_found.1 w) (omega arith);
      not_none = λ w. kinds_apart (sym k ∙ when_none.1 w) (omega arith);
    },
    go (given x).kind refl,
  )
    where
      go : (k : Kind) → (given x).kind ≡ k → Otherwise l q → (given x).kind ≡ Kind.stopped
      go Kind.found e o = absurd (o.not_found (when_found.0 e))
      go Kind.none e o = absurd (o.not_none (when_none.0 e))
      go Kind.stopped e o = e

  -- the kind fixes the row
  row_found : (given x).kind ≡ Kind.found
      → given x ≡ record { kind = Kind.found; settled = place q.goal l + 1; number = get_or t q.goal 0; route = first_route (graph f m) q.start t q.goal }
  row_found k =
      found_is (law x p) q.start (starts x p) t x.right q.goal (ends x p) q.limit
      ((found_exactly (law x p) q.start (starts x p) t x.right q.goal (ends x p) q.limit).0 k)

  row_none : (given x).kind ≡ Kind.none → given x ≡ record { kind = Kind.none; settled = length l; number = MARK; route = [] }
  row_none k =
      none_is (law x p) q.start (starts x p) t x.right q.goal (ends x p) q.limit
      ((none_exactly (law x p) q.start (starts x p) t x.right q.goal (ends x p) q.limit).0 k)

  further : (given x).kind ≡ Kind.stopped → q.limit < length l
  further k = ((stopped_exactly (law x p) q.start (starts x p) t x.right q.goal (ends x p) q.limit).0 k).0

  row_stopped : (given x).kind ≡ Kind.stopped
      → given x ≡ record { kind = Kind.stopped; settled = q.limit; number = get_or t (get_or l q.limit 0) 0; route = [] }
  row_stopped k =
      stopped_is (law x p) q.start (starts x p) t x.right q.goal (ends x p) q.limit
      ((stopped_exactly (law x p) q.start (starts x p) t x.right q.goal (ends x p) q.limit).0 k)

  -- the numbers of an answer of that kind, when its row is known
  columns : (k : Kind) {w : Row} → (given x).kind ≡ k → given x ≡ w → numbers_of a ≡ numbers_of (told f m q.start k w)
  columns k h e = ap numbers_of (as_row x k h ∙ ap (told f m q.start k) e)

  -- the route room of a row without a route
  route_kept : {w : Row} → given x ≡ w → w.route ≡ [] → r'.route ≡ r.route
  route_kept e z = route_left x p ∙ ap (λ (ds : List ℕ). ds ++ drop (length ds) r.route) (ap (λ (w : Row). w.route) e ∙ z)

  no_route_lem : {k : Kind} {w : Row} → (given x).kind ≡ k → (e : given x ≡ w) → w.route ≡ [] → (numbers_of (told f m q.start k w)).length ≡ 0
      → surd (numbers_of (told f m q.start k w)).p (numbers_of (told f m q.start k w)).q ≡ surd 0 0 → NoRoute (numbers_of a) r.route r'.route
  no_route_lem {k} h e z n l = record {
    steps = ap (λ (b : AnswerNumbers). b.length) (columns k h e) ∙ n;
    sums = ap (λ (b : AnswerNumbers). surd b.p b.q) (columns k h e) ∙ l;
    leaves = route_kept e z;
  }

  value_least : (v : ℕ) → Reachable (graph f m) q.start v → Least (graph f m) q.start v (get_or t v 0)
  value_least = reached_value (law x p) q.start (starts x p) t x.right

  begins : (given x).kind ≡ Kind.found → BeginsWithRoute f m q.start q.goal (numbers_of a) r.route r'.route
  begins k =
      let n : (numbers_of a).length ≡ length (given x).route = ap (λ (b : AnswerNumbers). b.length) (columns Kind.found k refl) in
      record {
        way = (given x).route;
        first = found_first (law x p) q.start (starts x p) t x.right q.goal (ends x p) q.limit k;
        steps = n;
        sums = ap (λ (b : AnswerNumbers). surd b.p b.q) (columns Kind.found k refl);
        leaves = rw n (route_left x p);
      }

  next_cost : (given x).kind ≡ Kind.stopped → (v : ℕ) × At l q.limit v × Least (graph f m) q.start v (numbers_of a).number
  next_cost k =
      let v = get_or l q.limit 0 in
      let here : At l q.limit v = record { within = further k; cell = refl } in
      let number = ap (λ (b : AnswerNumbers). b.number) (columns Kind.stopped k (row_stopped k)) in
      (v, here, rw number (value_least v (standing q.limit v here).0))

  -- a cell of the map in the costs room
  cell_left : (v : ℕ) → v < cells f → get_or r'.costs v 0 ≡ get_or (costs_left t (numbers_of a).settled) v 0
  cell_left v h = (search_left x p).cell v h ∙ ap (λ (k : ℕ). get_or (costs_left t k) v 0) (sym (settled_is x))

  settled_cost : (i v : ℕ) → At l i v → i < (numbers_of a).settled → Least (graph f m) q.start v (get_or r'.costs v 0)
  settled_cost i v s h =
      let w = standing i v s in
      let inside = ends_inside (law x p) q.start (starts x p) v w.0 in
      let e = cell_left v inside ∙ settled_left t (numbers_of a).settled v (omega (arith, x.right.covers)) (omega (arith, w.1)) in
      rw e (value_least v w.0)

  other_mark : (v : ℕ) → v < cells f → ((i : ℕ) → At l i v → (numbers_of a).settled ≤ i) → get_or r'.costs v 0 ≡ MARK
  other_mark v h out = go (dec_lt (place v l) (numbers_of a).settled) (ℕ_discrete (get_or t v 0) MARK)
    where
      go : Dec (place v l < (numbers_of a).settled) → Dec (get_or t v 0 ≡ MARK) → get_or r'.costs v 0 ≡ MARK
      go (no k) c = cell_left v h ∙ unsettled_left t (numbers_of a).settled v (omega (arith, x.right.covers)) (omega arith)
      go (yes k) (yes c) = cell_left v h ∙ settled_left t (numbers_of a).settled v (omega (arith, x.right.covers)) k ∙ c
      go (yes k) (no c) =
          let w = (reachable_known (law x p) q.start (starts x p) t x.right v h).1 c in
          absurd (omega (arith, out (place v l) (stands v w)))

  pub answers : Answers f m q l (numbers_of a) r r'
  answers = record {
    not_refused = row_no_refusal f m q.start (given x) x.answer;
    found = Iff.trans (row_kind f m q.start (given x) x.answer Kind.found) when_found;
    found_settled = λ w.
        let k = when_found.1 w in
        omega (arith, ap (λ (b : AnswerNumbers). b.settled) (columns Kind.found k (row_found k)), (standing w.i q.goal w.place).1);
    found_number = λ w.
        let k = when_found.1 w in
        rw (ap (λ (b : AnswerNumbers). b.number) (columns Kind.found k (row_found k))) (value_least q.goal (standing w.i q.goal w.place).0);
    found_route = λ w. begins (when_found.1 w);
    none = Iff.trans (row_kind f m q.start (given x) x.answer Kind.none) when_none;
    none_settled = λ w. let k = when_none.1 w in ap (λ (b : AnswerNumbers). b.settled) (columns Kind.none k (row_none k));
    none_number = λ w. let k = when_none.1 w in ap (λ (b : AnswerNumbers). b.number) (columns Kind.none k (row_none k));
    none_route = λ w.
        let k = when_none.1 w in
        no_route_lem k (row_none k) refl refl refl;
    stopped = Iff.trans (row_kind f m q.start (given x) x.answer Kind.stopped) when_stopped;
    stopped_settled = λ w. let k = when_stopped.1 w in ap (λ (b : AnswerNumbers). b.settled) (columns Kind.stopped k (row_stopped k));
    stopped_number = λ w. next_cost (when_stopped.1 w);
    stopped_route = λ w.
        let k = when_stopped.1 w in
        no_route_lem k (row_stopped k) refl refl refl;
    costs = settled_cost;
    marks = other_mark;
    zeros = (search_left x p).zeros;
    costs_beyond = (search_left x p).costs_beyond;
    work_beyond = (search_left x p).work_beyond;
    lengths = lengths_stay x p;
  }

  pub table_holds : TableHolds f m q (numbers_of a) r r'
  table_holds = (
    l,
    computed_is_L (law x p) q.start (starts x p) t x.right,
    L-is-computed (law x p) q.start (starts x p) t x.right,
    answers,
  )
