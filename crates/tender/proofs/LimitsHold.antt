-- Limits from 1 on: 15 is the last line and the only one of its number; L begins with the start, so that each row of 01's table settles it, and every cell after it in L is at least a step away.
use mathlib.Core.Path.{◌≡◌, refl, sym, ◌∙◌, subst}
use mathlib.Core.Logic.{◌↔◌, ⊎_elim, ◌≢◌}
use mathlib.Core.List.{List, [], ◌∷◌}
use Prim.Native.Nat.{ℕ, ◌≤◌}
use native.Mathlib.Decide.{ℕ_discrete}
use native.Mathlib.Omega.{arith}
use borrow.Author.Tests.{ne_eqb}
use lib.ListN.{length, get_or}
use Rattle.paths.specs.Graph.{Lawful}
use Rattle.paths.specs.Route.{Least}
use Rattle.paths.proofs.Loops.{step_away}
use Rattle.paths.proofs.Walks.{stay}
use Rattle.settling.specs.List.{At, IsL}
use Rattle.floor.specs.declared.Floor.{Floor}
use Rattle.floor.specs.Screen.{Screen, Passed, Refused}
use Rattle.floor.specs.Refusal.{Line, screen}
use Rattle.floor.specs.Step.{least_step, greatest_step, graph}
use Rattle.floor.proofs.Screens.{and_then, screen_append}
use Rattle.floor.proofs.Lines.{lowest_line, number_between}
use Rattle.answering.specs.Answer.{Answer, Found, None, Stopped}
use Rattle.answering.specs.declared.AnswerNumbers.{AnswerNumbers}
use Rattle.answering.specs.Answers.{numbers_of}
use Rattle.answering.specs.Rooms.{Rooms, length_lines}
use Rattle.answering.specs.declared.Question.{Question}
use Rattle.search.specs.Search.{limit_line, search_lines, Searched, refused, passed}
use Rattle.search.proofs.Lending.{some_limit}
use Rattle.tender.specs.SearchTable.{Answers}
use Rattle.tender.specs.Limits.{Tells, LimitsFromOne}
use Rattle.tender.proofs.FirstHolds.{first_condition}
use Rattle.tender.proofs.Rowed.{law}
use Rattle.tender.proofs.Tabled.{table_holds}
use Rattle.tender.proofs.Records.{each_record}

-- an answer for which 01's table holds, to a question with a limit from 1 on
module _ (f : Floor) (m : List ℕ) (q : Question) (l : List ℕ) (lawful : Lawful (graph f m) least_step greatest_step) (is : IsL (graph f m) q.start l)
    (some : 1 ≤ q.limit) where
  some_cell : 1 ≤ length l
  some_cell = let s = (is.reachable q.start).1 ([], stay (graph f m) q.start) in omega (arith, s.1.within)

  settles_start : {r r' : Rooms} (a : Answer) → Answers f m q l (numbers_of a) r r' → (numbers_of a).kind ≢ 0 → 1 ≤ (numbers_of a).settled
  settles_start (Answer.Refused n p) w k = absurd (k refl)
  settles_start (Found s c d) w k = omega (arith, w.found_settled (w.found.0 refl))
  settles_start (None s) w k = omega (arith, w.none_settled (w.none.0 refl), some_cell)
  settles_start (Stopped s c) w k = omega (arith, w.stopped_settled (w.stopped.0 refl), some)

  module _ {r r' : Rooms} (n : AnswerNumbers) (w : Answers f m q l n r r') (stop : n.kind ≡ 3) where
    -- the cell at place 0 of L costs nothing to reach, and so it is the start: no later one is
    not_again : At l q.limit q.start → {c : ℕ} → Least (graph f m) q.start q.start c → ⊥
    not_again again {c} back =
        let u = get_or l 0 0 in
        let front : At l 0 u = record { within = some_cell; cell = refl } in
        let first = w.costs 0 u front (omega (arith, w.stopped_settled (w.stopped.0 stop), some)) in
        let nothing = back.none_less [] (stay (graph f m) q.start) in
        ⊎_elim (λ h. omega arith) (λ h. ⊎_elim (λ e. omega (arith, h.1)) (λ k. omega (arith, h.0, lawful.positive)) (step_away lawful first))
        (is.sorted 0 q.limit u q.start _ c (omega (arith, some)) front again first back)

    floor_away : least_step ≤ n.number
    floor_away =
        let next = w.stopped_number (w.stopped.0 stop) in
        ⊎_elim
        (λ e. absurd (not_again (subst (λ (v : ℕ). At l q.limit v) e next.1) (subst (λ (v : ℕ). Least (graph f m) q.start v n.number) e next.2)))
        (λ h. h)
        (step_away lawful next.2)

refusal_tells : (q : Question) (n p : ℕ) → Tells q (numbers_of (Answer.Refused n p))
refusal_tells q n p = record { limit_0 = λ z. refl; settles = λ k. absurd (k refl); floor = λ k. absurd (omega arith) }

searched_tells : {f : Floor} {m : List ℕ} {q : Question} {r : Rooms} {a : Answer} {r' : Rooms} → Searched f m q r a r' → Tells q (numbers_of a)
searched_tells {q = q} (refused n p e b k) = rw b (refusal_tells q n p)
searched_tells {f} {m} {q} {r} {a} (passed p x) =
    let some = some_limit f m q r p in
    let t = table_holds x p in
    record {
      limit_0 = λ z. absurd (omega (arith, some));
      settles = settles_start f m q t.0 (law x p) t.1 some a t.3;
      floor = floor_away f m q t.0 (law x p) t.1 some (numbers_of a) t.3;
    }

-- the limit's line alone
zero_given : (k : ℕ) → screen (limit_line k ∷ []) ≡ Refused 15 0 → k ≡ 0
zero_given k e = go (ℕ_discrete k 0)
  where
    go : Dec (k ≡ 0) → k ≡ 0
    go (yes z) = z
    go (no n) = let p : Passed ≡ Refused 15 0 = rw (ne_eqb k 0 n) at e in let z : ◌≡◌ {A = ℕ} 0 1 = cc in absurd (omega arith)

-- no line before it has the number 15
module _ (f : Floor) (m : List ℕ) (q : Question) (r : Rooms) where
  abbrev earlier : List Line
  earlier = length_lines f m q.start q.goal (length r.costs) (length r.work) (length r.route)

  late : (s : Screen) → screen earlier ≡ s → and_then s (screen (limit_line q.limit ∷ [])) ≡ Refused 15 0 → (q.limit ≡ 0) × (screen earlier ≡ Passed)
  late Passed e k = (zero_given q.limit k, e)
  late (Refused n p) e k = let same : n ≡ 15 = cc in absurd (omega (arith, (number_between 0 12 earlier tt tt e).1))

  limit_last : (screen (search_lines f m q r) ≡ Refused 15 0) ↔ ((q.limit ≡ 0) × (screen earlier ≡ Passed))
  limit_last =
      let tried = screen_append earlier (limit_line q.limit ∷ []) in
      (λ e. late (screen earlier) refl (sym tried ∙ e), λ w. tried ∙ rw (w.1, w.0) refl)

  fifteen_exactly : (a : Answer) (r' : Rooms) → Searched f m q r a r' → (a ≡ Answer.Refused 15 0) ↔ ((q.limit ≡ 0) × (screen earlier ≡ Passed))
  fifteen_exactly a r' x =
      let given = (first_condition.search f m q r a r' x).exactly 15 0 in
      let lowest = lowest_line (search_lines f m q r) 0 tt 15 0 in
      (λ e. limit_last.0 (lowest.1 (given.0 e)), λ w. given.1 (lowest.0 (limit_last.1 w)))

pub limits_from_one : LimitsFromOne
limits_from_one = record {
  fifteen = fifteen_exactly;
  passed = some_limit;
  search = λ f m q r a r' x. searched_tells x;
  call = λ f m q r n r' x. rw x.numbers (searched_tells x.searched);
  records = λ f m bytes r k bytes' r' x i h.
      let y = each_record (λ f m q n room. Tells q n) (λ f m q r a r' x. searched_tells x) (λ f m q n p room. refusal_tells q n p) f m bytes r k bytes' r' x i h in
      (y.0, y.1, y.2.1);
}
