-- 01's words leave nothing open: the goal's place in L decides the kind, least costs and first routes are unique, and each room is its written part and the rest.
use mathlib.Core.Path.{◌≡◌, sym, ◌∙◌, ap}
use mathlib.Core.Logic.{◌↔◌, ◌≢◌}
use mathlib.Core.List.{List, ◌++◌}
use Prim.Native.Nat.{ℕ, ◌*◌, ◌≤◌, ◌<◌}
use native.Mathlib.Decide.{ℕ_discrete, dec_lt}
use native.Mathlib.Omega.{arith}
use lib.ListN.{length, get_or, take, drop, take-append-drop}
use lib.Seq.{ext_get_or, length-take-le, get_or-take}
use Rattle.paths.specs.Graph.{MARK, Lawful}
use Rattle.paths.specs.Route.{Reachable}
use Rattle.paths.specs.Table.{Right}
use Rattle.settling.specs.List.{At, IsL}
use Rattle.paths.proofs.Exists.{least_unique, right_exists}
use Rattle.paths.proofs.Firsts.{first_unique}
use Rattle.paths.proofs.Meaning.{reachable_known}
use Rattle.settling.proofs.OneList.{stands_once}
use Rattle.floor.specs.declared.Floor.{Floor}
use Rattle.floor.specs.Screen.{Passed}
use Rattle.floor.specs.Place.{cells}
use Rattle.floor.specs.Step.{least_step, greatest_step, graph}
use Rattle.floor.specs.Length.{Surd, surd, length_of}
use Rattle.floor.specs.Refusal.{screen, question_lines}
use Rattle.floor.proofs.Laws.{lawful}
use Rattle.floor.proofs.Questions.{question_passed, start_inside}
use Rattle.answering.specs.declared.AnswerNumbers.{AnswerNumbers}
use Rattle.answering.specs.Rooms.{Rooms, rooms}
use Rattle.answering.specs.declared.Question.{Question}
use Rattle.search.specs.Search.{search_lines}
use Rattle.search.proofs.Lending.{search_question, long_costs}
use Rattle.tender.specs.SearchTable.{GoalWithin, GoalMissing, Otherwise, Answers, TableHolds}

-- two lists that agree up to n and beyond
two_parts : (n : ℕ) (a b : List ℕ) → take n a ≡ take n b → drop n a ≡ drop n b → a ≡ b
two_parts n a b e h = sym (take-append-drop n a) ∙ ap (λ (x : List ℕ). x ++ drop n a) e ∙ ap (λ (x : List ℕ). take n b ++ x) h ∙ take-append-drop n b

abbrev numbers : ℕ → ℕ → ℕ → ℕ → ℕ → ℕ → Surd → AnswerNumbers
numbers a b c d e h l = record { kind = a; refusal = b; place = c; settled = d; number = e; length = h; p = l.whole; q = l.root }

-- an answer's numbers one by one, P and Q together
same_fields : (n k : AnswerNumbers) → n.kind ≡ k.kind → n.refusal ≡ k.refusal → n.place ≡ k.place → n.settled ≡ k.settled
    → n.number ≡ k.number → n.length ≡ k.length → surd n.p n.q ≡ surd k.p k.q → n ≡ k
same_fields n k a b c d e h l =
    let z : numbers n.kind n.refusal n.place n.settled n.number n.length (surd n.p n.q)
    ≡ numbers k.kind k.refusal k.place k.settled k.number k.length (surd k.p k.q) = cc in
    z

record SameColumns (n k : AnswerNumbers) : Type 0 where
  kind : n.kind ≡ k.kind
  settled : n.settled ≡ k.settled
  number : n.number ≡ k.number
  length : n.length ≡ k.length
  sums : surd n.p n.q ≡ surd k.p k.q

module _ {f : Floor} {m : List ℕ} {q : Question} {l : List ℕ} {r : Rooms} {n k : AnswerNumbers} {r' p' : Rooms}
    (a : Answers f m q l n r r') (b : Answers f m q l k r p') where
  -- the columns and the route room, row by row
  same_found : GoalWithin l q → SameColumns n k × (r'.route ≡ p'.route)
  same_found w =
      let x = a.found_route w in
      let y = b.found_route w in
      let way = first_unique (graph f m) q.start q.goal x.way y.way x.first y.first in
      let long : n.length ≡ k.length = x.steps ∙ ap length way ∙ sym y.steps in (
        record {
          kind = a.found.1 w ∙ sym (b.found.1 w);
          settled = a.found_settled w ∙ sym (b.found_settled w);
          number = least_unique (graph f m) q.start q.goal n.number k.number (a.found_number w) (b.found_number w);
          length = long;
          sums = x.sums ∙ ap (length_of f m q.start) way ∙ sym y.sums;
        },
        x.leaves ∙ rw (way, long) (sym y.leaves),
      )

  same_none : GoalMissing l q → SameColumns n k × (r'.route ≡ p'.route)
  same_none w = (
    record {
      kind = a.none.1 w ∙ sym (b.none.1 w);
      settled = a.none_settled w ∙ sym (b.none_settled w);
      number = a.none_number w ∙ sym (b.none_number w);
      length = (a.none_route w).steps ∙ sym (b.none_route w).steps;
      sums = (a.none_route w).sums ∙ sym (b.none_route w).sums;
    },
    (a.none_route w).leaves ∙ sym (b.none_route w).leaves,
  )

  same_stopped : Otherwise l q → SameColumns n k × (r'.route ≡ p'.route)
  same_stopped w =
      let x = a.stopped_number w in
      let y = b.stopped_number w in
      let v : x.0 ≡ y.0 = sym x.1.cell ∙ y.1.cell in (
        record {
          kind = a.stopped.1 w ∙ sym (b.stopped.1 w);
          settled = a.stopped_settled w ∙ sym (b.stopped_settled w);
          number = least_unique (graph f m) q.start y.0 n.number k.number (rw v at x.2) y.2;
          length = (a.stopped_route w).steps ∙ sym (b.stopped_route w).steps;
          sums = (a.stopped_route w).sums ∙ sym (b.stopped_route w).sums;
        },
        (a.stopped_route w).leaves ∙ sym (b.stopped_route w).leaves,
      )

  same_row : SameColumns n k × (r'.route ≡ p'.route)
  same_row = go (ℕ_discrete n.kind 1) (ℕ_discrete n.kind 2)
    where
      go : Dec (n.kind ≡ 1) → Dec (n.kind ≡ 2) → SameColumns n k × (r'.route ≡ p'.route)
      go (yes e) h = same_found (a.found.0 e)
      go (no e) (yes h) = same_none (a.none.0 h)
      go (no e) (no h) = same_stopped (record { not_found = λ w. e (a.found.1 w); not_none = λ w. h (a.none.1 w) })

  same_numbers : n ≡ k
  same_numbers =
      let c = same_row.0 in
      let x = a.not_refused in
      let y = b.not_refused in
      same_fields n k c.kind (x.0 ∙ sym y.0) (x.1 ∙ sym y.1) c.settled c.number c.length c.sums

  module _ (passed : screen (search_lines f m q r) ≡ Passed) (is : IsL (graph f m) q.start l) where
    asked : screen (question_lines f m q.start q.goal) ≡ Passed
    asked = search_question f m q r passed

    law : Lawful (graph f m) least_step greatest_step
    law = lawful f m (question_passed f m q.start q.goal asked)

    start : q.start < cells f
    start = start_inside f m q.start q.goal asked

    t : (t : List ℕ) × Right (graph f m) q.start t
    t = right_exists law q.start start

    -- a settled cell has its least cost in both rooms, any other MARK
    standing : (v : ℕ) → v < cells f → (i : ℕ) → At l i v → Dec (i < n.settled) → get_or r'.costs v 0 ≡ get_or p'.costs v 0
    standing v h i s (yes e) =
        least_unique (graph f m) q.start v (get_or r'.costs v 0) (get_or p'.costs v 0) (a.costs i v s e)
        (b.costs i v s (omega (arith, same_row.0.settled)))
    standing v h i s (no e) =
        let only : (j : ℕ) → At l j v → i ≡ j = λ j z. stands_once law q.start start t.0 t.1 l is i j v s z in
        a.marks v h (λ j z. omega (arith, only j z)) ∙ sym (b.marks v h (λ j z. omega (arith, only j z, same_row.0.settled)))

    same_cell : (v : ℕ) → v < cells f → get_or r'.costs v 0 ≡ get_or p'.costs v 0
    same_cell v h = go (ℕ_discrete (get_or t.0 v 0) MARK)
      where
        known : Reachable (graph f m) q.start v ↔ (get_or t.0 v 0 ≢ MARK)
        known = reachable_known law q.start start t.0 t.1 v h

        nowhere : get_or t.0 v 0 ≡ MARK → (c : ℕ) (i : ℕ) → At l i v → c ≤ i
        nowhere e c i s = absurd (known.0 ((is.reachable v).0 (i, s)) e)

        go : Dec (get_or t.0 v 0 ≡ MARK) → get_or r'.costs v 0 ≡ get_or p'.costs v 0
        go (yes e) = a.marks v h (nowhere e n.settled) ∙ sym (b.marks v h (nowhere e k.settled))
        go (no e) = let s = (is.reachable v).1 (known.1 e) in standing v h s.0 s.1 (dec_lt s.0 n.settled)

    same_costs : r'.costs ≡ p'.costs
    same_costs =
        let x : length (take (cells f) r'.costs) ≡ cells f = length-take-le (cells f) r'.costs (omega (arith, a.lengths.costs, long_costs f m q r passed)) in
        let y : length (take (cells f) p'.costs) ≡ cells f = length-take-le (cells f) p'.costs (omega (arith, b.lengths.costs, long_costs f m q r passed)) in
        two_parts (cells f) r'.costs p'.costs
        (ext_get_or 0 (take (cells f) r'.costs) (take (cells f) p'.costs) (x ∙ sym y) λ v h.
        let i : v < cells f = omega arith in
        get_or-take (cells f) r'.costs v 0 i ∙ same_cell v i ∙ sym (get_or-take (cells f) p'.costs v 0 i))
        (a.costs_beyond ∙ sym b.costs_beyond)

    same_work : r'.work ≡ p'.work
    same_work = two_parts (2 * cells f) r'.work p'.work (a.zeros ∙ sym b.zeros) (a.work_beyond ∙ sym b.work_beyond)

    same_rooms : r' ≡ p'
    same_rooms =
        let x = same_costs in
        let y = same_work in
        let z = same_row.1 in
        let all : rooms r'.costs r'.work r'.route ≡ rooms p'.costs p'.work p'.route = cc in
        all

-- A second answer with rooms for which 01's table holds is equal
pub one_table : (f : Floor) (m : List ℕ) (q : Question) (r : Rooms) → screen (search_lines f m q r) ≡ Passed
    → {n k : AnswerNumbers} {r' p' : Rooms} → TableHolds f m q n r r' → TableHolds f m q k r p' → (n ≡ k) × (r' ≡ p')
one_table f m q r passed {n} {k} {r'} {p'} x y =
    let b : Answers f m q x.0 k r p' = rw (y.2 x.0 x.1) y.3 in
    (same_numbers x.3 b, same_rooms x.3 b passed x.1)
