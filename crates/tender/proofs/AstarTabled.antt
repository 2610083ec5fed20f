-- R-4 in its own words, from A*'s promise: the kind tells whether the goal is reachable, and a cell of the costs room whether it is settled.
use mathlib.Core.Path.{◌≡◌, refl, sym, ◌∙◌, ap}
use mathlib.Core.Logic.Iff
use mathlib.Core.Logic.{◌↔◌, ◌≢◌}
use mathlib.Core.Bool.{not}
use mathlib.Core.List.{List, [], ◌++◌}
use Prim.Native.Nat.{ℕ, ◌≤◌, ◌<◌}
use native.Mathlib.Omega.{arith}
use lib.Dec.{T, eqb}
use lib.ListN.{length, get_or, take, drop}
use lib.Seq.{take-append_seam}
use Rattle.paths.specs.Below.{count}
use Rattle.paths.specs.Graph.{Lawful, MARK}
use Rattle.paths.specs.Route.{cost_of, Reachable, Least}
use Rattle.paths.specs.First.{First}
use Rattle.paths.proofs.Below.{count_same}
use Rattle.paths.proofs.Bools.{dec_T, ne_not_eqb, not_eqb_ne}
use Rattle.paths.proofs.Exists.{least_unique}
use Rattle.paths.proofs.Meaning.{ends_inside}
use Rattle.settling.specs.Answer.{Kind, Row}
use Rattle.settling.specs.Aimed.{is_settled, settled_count, settled_costs}
use Rattle.settling.proofs.OneList.{reached_value}
use Rattle.settling.proofs.AimedPlain.{length_settled, left_settled, left_unsettled, aimed_found, aimed_none, aimed_first, aimed_cost, aimed_count, aimed_never, aimed_empty, settled_words}
use Rattle.floor.specs.declared.Floor.{Floor}
use Rattle.floor.specs.Screen.{Passed}
use Rattle.floor.specs.Place.{cells}
use Rattle.floor.specs.Step.{least_step, greatest_step, graph}
use Rattle.floor.specs.Length.{surd}
use Rattle.floor.specs.Estimate.{estimate}
use Rattle.floor.specs.Refusal.{HasPassed, screen, question_lines}
use Rattle.floor.proofs.Laws.{lawful}
use Rattle.floor.proofs.Questions.{question_passed, start_inside, goal_inside}
use Rattle.answering.specs.Answer.{Answer}
use Rattle.answering.specs.declared.AnswerNumbers.{AnswerNumbers}
use Rattle.answering.specs.Answers.{numbers_of}
use Rattle.answering.specs.Rooms.{Rooms, lent_lines}
use Rattle.answering.proofs.Lending.{asked_well, enough_costs, enough_work, enough_route}
use Rattle.astar.specs.Astar.{aimed_row, AimedTable, Aimed, refused, passed}
use Rattle.tender.specs.SearchTable.{BeginsWithRoute, SameLengths}
use Rattle.tender.specs.AstarTable.{Settles, AstarAnswers}
use Rattle.tender.proofs.Rowed.{FoundWay, told, told_length, row_answer, row_kind, row_settled, row_no_refusal}
use Rattle.tender.proofs.Leaving.{first_least, first_short, Left, left_rooms, lengths_kept, way_kept}

module _ {f : Floor} {m : List ℕ} {start goal : ℕ} {r : Rooms} {a : Answer} {r' : Rooms} (x : AimedTable f m start goal r a r')
    (p : screen (lent_lines f m start goal r) ≡ Passed) where
  abbrev pub row : Row
  row = aimed_row f m start goal x.table

  abbrev asked : screen (question_lines f m start goal) ≡ Passed
  asked = asked_well f m start goal r p

  abbrev pub has_passed : HasPassed f m
  has_passed = question_passed f m start goal asked

  abbrev law : Lawful (graph f m) least_step greatest_step
  law = lawful f m has_passed

  abbrev pub starts : start < cells f
  starts = start_inside f m start goal asked

  abbrev pub ends : goal < cells f
  ends = goal_inside f m start goal asked

  abbrev h : ℕ → ℕ
  h = estimate f goal

  abbrev left : List ℕ
  left = settled_costs h x.table goal

  cover : length left ≡ cells f
  cover = length_settled h x.table goal ∙ x.right.covers

  rooms_left : Left f left r r'
  rooms_left = left_rooms f left row.route r r' x.leaves cover

  when_found : (row.kind ≡ Kind.found) ↔ Reachable (graph f m) start goal
  when_found = aimed_found law start starts x.table x.right goal ends h

  when_none : (row.kind ≡ Kind.none) ↔ (Reachable (graph f m) start goal → ⊥)
  when_none = aimed_none law start starts x.table x.right goal ends h

  first : row.kind ≡ Kind.found → First (graph f m) start goal row.route
  first = aimed_first law start starts x.table x.right goal ends h

  cost : row.kind ≡ Kind.found → cost_of (graph f m) start row.route ≡ row.number
  cost = aimed_cost law start starts x.table x.right goal ends h

  empty : row.kind ≡ Kind.none → row.route ≡ []
  empty = aimed_empty (graph f m) start x.table h goal

  -- the numbers of an answer of that kind
  numbers : (k : Kind) → row.kind ≡ k → numbers_of a ≡ numbers_of (told f m start k row)
  numbers k e = ap numbers_of (row_answer f m start row x.answer k e)

  route_left : r'.route ≡ row.route ++ drop (length row.route) r.route
  route_left = ap (λ (z : Rooms). z.route) x.leaves

  least : (e : row.kind ≡ Kind.found) → Least (graph f m) start goal (numbers_of a).number
  least e = rw (ap (λ (n : AnswerNumbers). n.number) (numbers Kind.found e), ← cost e) (first_least (first e))

  begins : row.kind ≡ Kind.found → BeginsWithRoute f m start goal (numbers_of a) r.route r'.route
  begins e =
      let n : (numbers_of a).length ≡ length row.route = ap (λ (n : AnswerNumbers). n.length) (numbers Kind.found e) in
      record {
        way = row.route;
        first = first e;
        steps = n;
        sums = ap (λ (n : AnswerNumbers). surd n.p n.q) (numbers Kind.found e);
        leaves = rw n route_left;
      }

  -- which cells are settled
  settles : (v : ℕ) → v < cells f → T (is_settled h x.table goal v) ↔ Settles f m start goal v
  settles v i =
      let w = settled_words law start starts x.table x.right goal ends h v i in (
        λ t. let s = w.0 t in record { reachable = s.0; near = λ b c u z. s.1 c z b u },
        λ s. w.1 (s.reachable, λ c z b u. s.near b c u z),
      )

  -- a cell of the costs room: the value of a settled cell, MARK of any other
  pub settled_value : (v : ℕ) → v < cells f → T (is_settled h x.table goal v) → get_or r'.costs v 0 ≡ get_or x.table v 0
  settled_value v i t = rooms_left.cell v i ∙ left_settled h x.table goal v (omega (arith, x.right.covers)) t

  unsettled_mark : (v : ℕ) → v < cells f → (T (is_settled h x.table goal v) → ⊥) → get_or r'.costs v 0 ≡ MARK
  unsettled_mark v i n = rooms_left.cell v i ∙ left_unsettled h x.table goal v (omega (arith, x.right.covers)) n

  -- so where it has a cost, the cell is settled
  pub cost_settled : (v : ℕ) → v < cells f → get_or r'.costs v 0 ≢ MARK → T (is_settled h x.table goal v)
  cost_settled v i m = elim (dec_T (is_settled h x.table goal v)) [
    | yes t ↦ t
    | no n ↦ absurd (m (unsettled_mark v i n))
  ]

  settled_cost : (v : ℕ) → Settles f m start goal v → Least (graph f m) start v (get_or r'.costs v 0)
  settled_cost v s =
      let i = ends_inside law start starts v s.reachable in
      rw (settled_value v i ((settles v i).1 s)) (reached_value law start starts x.table x.right v s.reachable)

  other_mark : (v : ℕ) → v < cells f → (Settles f m start goal v → ⊥) → get_or r'.costs v 0 ≡ MARK
  other_mark v i n = unsettled_mark v i (λ t. n ((settles v i).0 t))

  -- the answer's count
  pub settled_row : (numbers_of a).settled ≡ settled_count h x.table goal
  settled_row = row_settled f m start row x.answer ∙ aimed_count (graph f m) start x.table h goal

  counted : (numbers_of a).settled ≡ count (λ v. not (eqb (get_or r'.costs v 0) MARK)) (cells f)
  unfolding settled_count
  counted =
      settled_row
      ∙ rw x.right.covers
      (count_same (is_settled h x.table goal) (λ v. not (eqb (get_or r'.costs v 0) MARK)) (cells f)
      (λ v i t. ne_not_eqb (get_or r'.costs v 0) MARK (known v i t))
      (λ v i t. cost_settled v i (not_eqb_ne (get_or r'.costs v 0) MARK t)))
    where
      known : (v : ℕ) → v < cells f → T (is_settled h x.table goal v) → get_or r'.costs v 0 ≢ MARK
      known v i t e = let r = ((settles v i).0 t).reachable in x.right.closed v i (sym (settled_value v i t) ∙ e) r.0 r.1

  route_fits : length row.route ≤ length r.route
  route_fits = go row.kind refl
    where
      go : (k : Kind) → row.kind ≡ k → length row.route ≤ length r.route
      go Kind.found e = omega (arith, first_short law start starts goal row.route (first e), enough_route f m start goal r p)
      go Kind.none e = omega (arith, ap length (empty e))
      go Kind.stopped e = absurd (aimed_never (graph f m) start x.table h goal e)

  pub astar_lengths : SameLengths r r'
  astar_lengths =
      lengths_kept f left row.route r r' x.leaves cover (enough_costs f m start goal r p) (enough_work f m start goal r p) route_fits

  -- as much of the route room as the answer tells of is the row's route
  pub astar_written : take (numbers_of a).length r'.route ≡ take (numbers_of a).length row.route
  astar_written =
      let short : (numbers_of a).length ≤ length row.route = rw x.answer (told_length f m start row.kind row) in
      way_kept f left row.route r r' x.leaves cover (numbers_of a).length short

  pub astar_answers : AstarAnswers f m start goal (numbers_of a) r r'
  astar_answers = record {
    not_refused = row_no_refusal f m start row x.answer;
    found = Iff.trans (row_kind f m start row x.answer Kind.found) when_found;
    found_number = λ w. least (when_found.1 w);
    found_route = λ w. begins (when_found.1 w);
    none = Iff.trans (row_kind f m start row x.answer Kind.none) when_none;
    none_number = λ w. ap (λ (n : AnswerNumbers). n.number) (numbers Kind.none (when_none.1 w));
    none_route = λ w.
        let e = when_none.1 w in
        record {
          steps = ap (λ (n : AnswerNumbers). n.length) (numbers Kind.none e);
          sums = ap (λ (n : AnswerNumbers). surd n.p n.q) (numbers Kind.none e);
          leaves = route_left ∙ ap (λ (ds : List ℕ). ds ++ drop (length ds) r.route) (empty e);
        };
    costs = settled_cost;
    marks = other_mark;
    settled = counted;
    zeros = rooms_left.zeros;
    costs_beyond = rooms_left.costs_beyond;
    work_beyond = rooms_left.work_beyond;
    lengths = astar_lengths;
  }

-- a route room that begins with a route
way_told : (n : ℕ) (way room room' : List ℕ) → n ≡ length way → room' ≡ way ++ drop n room → take n room' ≡ way
way_told n way room room' e h = rw (h, e) (take-append_seam way (drop (length way) room))

module _ {f : Floor} {m : List ℕ} {start goal : ℕ} {r : Rooms} {a : Answer} {r' : Rooms} where
  -- A* never stops short
  pub astar_no_stop : Aimed f m start goal r a r' → (numbers_of a).kind ≡ 3 → ⊥
  astar_no_stop (refused n p e b l) k = omega (arith, ap (λ (z : Answer). (numbers_of z).kind) b)
  astar_no_stop (passed p x) k =
      aimed_never (graph f m) start x.table (estimate f goal) goal ((row_kind f m start (aimed_row f m start goal x.table) x.answer Kind.stopped).0 k)

  -- what an answer found tells
  pub astar_found : Aimed f m start goal r a r' → (numbers_of a).kind ≡ 1 → HasPassed f m × (start < cells f) × Least (graph f m) start goal (numbers_of a).number
  astar_found (refused n p e b l) k = absurd (omega (arith, ap (λ (z : Answer). (numbers_of z).kind) b))
  astar_found (passed p x) k = let w = astar_answers x p in (has_passed x p, starts x p, w.found_number (w.found.0 k))

  pub astar_way : Aimed f m start goal r a r' → (numbers_of a).kind ≡ 1
      → FoundWay f m start goal (numbers_of a) r'.route
  astar_way (refused n p e b l) k = absurd (omega (arith, ap (λ (z : Answer). (numbers_of z).kind) b))
  astar_way (passed p x) k =
      let w = astar_answers x p in
      let reach = w.found.0 k in
      let b = w.found_route reach in
      let same = way_told (numbers_of a).length b.way r.route r'.route b.steps b.leaves in
      record {
        first = rw same b.first;
        cost = rw same (least_unique (graph f m) start goal _ _ (first_least b.first) (w.found_number reach));
        sums = rw same b.sums;
      }
