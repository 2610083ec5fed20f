-- Two searches of one question: the refusals look at the rooms' lengths alone, the right table is one, and the written parts are computed from it.
use mathlib.Core.Path.{◌≡◌, refl, sym, ◌∙◌, ap}
use mathlib.Core.List.{List}
use Prim.Native.Nat.{ℕ, ◌≤◌}
use lib.ListN.{length, take}
use Rattle.settling.specs.Answer.{costs_left}
use Rattle.paths.proofs.Exists.{right_unique, right_exists}
use Rattle.floor.specs.declared.Floor.{Floor}
use Rattle.floor.specs.Screen.{Screen, Passed, Refused}
use Rattle.floor.specs.Step.{graph}
use Rattle.floor.specs.Refusal.{screen}
use Rattle.floor.proofs.Laws.{lawful}
use Rattle.floor.proofs.Questions.{question_passed, start_inside}
use Rattle.answering.specs.Answer.{Answer}
use Rattle.answering.specs.Answers.{row_of, answer_by, numbers_of}
use Rattle.answering.specs.Rooms.{Rooms}
use Rattle.answering.specs.declared.Question.{Question}
use Rattle.search.specs.Search.{search_lines, ByTable, Searched, refused, passed}
use Rattle.search.proofs.Lending.{search_question, searched_refused}
use Rattle.search.proofs.Promise.{by_table, by_refusal}
use Rattle.tender.specs.SearchTable.{SameLengths}
use Rattle.tender.specs.Alone.{SameWritten}
use Rattle.tender.proofs.Rowed.{told_length, given, as_row}
use Rattle.tender.proofs.Leaving.{search_left, costs_written, search_way, lengths_stay}

-- there is an answer to every question
pub a_search : (f : Floor) (m : List ℕ) (q : Question) (r : Rooms) → (a : Answer) × (r' : Rooms) × Searched f m q r a r'
a_search f m q r = go (screen (search_lines f m q r)) refl
  where
    go : (s : Screen) → screen (search_lines f m q r) ≡ s → (a : Answer) × (r' : Rooms) × Searched f m q r a r'
    go Passed e =
        let asked = search_question f m q r e in
        let t = right_exists (lawful f m (question_passed f m q.start q.goal asked)) q.start (start_inside f m q.start q.goal asked) in
        (_, _, passed e (record { table = t.0; right = t.1; answer = refl; leaves = refl }))
    go (Refused n w) e = (Answer.Refused n w, r, searched_refused f m q r n w e)

-- the rooms keep their lengths, also when the question is refused
pub search_lengths : {f : Floor} {m : List ℕ} {q : Question} {r : Rooms} {a : Answer} {r' : Rooms} → Searched f m q r a r' → SameLengths r r'
search_lengths (refused n w e b l) = rw l (record { costs = refl; work = refl; route = refl })
search_lengths (passed e x) = lengths_stay x e

module _ {f : Floor} {m : List ℕ} {q : Question} {r : Rooms} {a : Answer} {r' : Rooms} (x : ByTable f m q r a r')
    (e : screen (search_lines f m q r) ≡ Passed) where
  pub route_written : take (numbers_of a).length r'.route ≡ take (numbers_of a).length (given x).route
  route_written =
      let told : (numbers_of a).length ≤ length (given x).route = rw (as_row x (given x).kind refl) (told_length f m q.start (given x).kind (given x)) in
      search_way x e (numbers_of a).length told

-- rooms of the same lengths are refused alike
pub same_screen : (f : Floor) (m : List ℕ) (q : Question) {r p : Rooms} → SameLengths r p → screen (search_lines f m q p) ≡ screen (search_lines f m q r)
same_screen f m q same = rw (same.costs, same.work, same.route) refl

module _ {f : Floor} {m : List ℕ} {q : Question} {r p : Rooms} (same : SameLengths r p) {a b : Answer} {r' p' : Rooms} where
  same_table : (x : ByTable f m q r a r') (y : ByTable f m q p b p') → x.table ≡ y.table
  same_table x y = right_unique (graph f m) q.start x.table y.table x.right y.right

  -- an answer is that of its row, or the refusal
  pub same_answer : Searched f m q r a r' → Searched f m q p b p' → a ≡ b
  same_answer (refused n w e c l) y = c ∙ sym (by_refusal y n w (same_screen f m q same ∙ e)).0
  same_answer (passed e x) z =
      let y = by_table z (same_screen f m q same ∙ e) in
      x.answer ∙ ap (λ (t : List ℕ). answer_by f m q.start (row_of f m q t)) (same_table x y) ∙ sym y.answer

  pub same_written : Searched f m q r a r' → Searched f m q p b p' → screen (search_lines f m q r) ≡ Passed → SameWritten f (numbers_of a).length r' p'
  same_written v w e =
      let k = same_screen f m q same ∙ e in
      let x = by_table v e in
      let y = by_table w k in
      let t = same_table x y in
      record {
        costs = costs_written x e ∙ ap (λ (t : List ℕ). costs_left t (row_of f m q t).settled) t ∙ sym (costs_written y k);
        work = (search_left x e).zeros ∙ sym (search_left y k).zeros;
        route = route_written x e ∙ ap (λ (t : List ℕ). take (numbers_of a).length (row_of f m q t).route) t
            ∙ rw (same_answer v w) (sym (route_written y k));
      }
