-- The first condition: every entry's promise begins with its lines, and an answer that is a refusal comes from them.
use mathlib.Core.Path.{◌≡◌, refl, sym, ap, ◌∙◌}
use mathlib.Core.Logic.Iff
use mathlib.Core.Logic.{◌↔◌, inl, ⊎_elim}
use mathlib.Core.Bool.{true}
use mathlib.Core.List.{List, [], ◌∷◌}
use Prim.Native.Nat.{ℕ, ◌≤◌, ◌<◌}
use native.Mathlib.Omega.{arith}
use lib.Dec.{T}
use lib.ListN.{length, get_or}
use Rattle.paths.specs.Graph.{MARK}
use Rattle.settling.specs.Answer.{Kind, Row}
use Rattle.floor.specs.declared.Floor.{Floor}
use Rattle.std.specs.Prelude.{Result}
use Rattle.floor.specs.declared.refusals.Refusal.{Refusal}
use Rattle.floor.specs.Screen.{Screen, Passed, Refused, screened}
use Rattle.floor.specs.declared.RouteLength.{RouteLength}
use Rattle.floor.specs.Length.{route_length}
use Rattle.floor.specs.Refusal.{Line, line, screen, map_lines, floor_lines, question_lines}
use Rattle.floor.specs.LowestLine.{IsLowestLine}
use Rattle.floor.specs.Numbers.{Numbers, refused, fault, gives, after_screen, numbers_of, written_as}
use Rattle.floor.proofs.Lines.{rising, above, below, lowest_line, refused_lines, by_lines}
use Rattle.maptext.specs.Text.{text_of, write_lines, text_left, IsWritten}
use Rattle.maptext.proofs.Calls.{judge_call_refused, read_call_same, write_call_refused, write_call_same}
use Rattle.claims.specs.Route.{Claim, claim_lines, route_verdict, packed}
use Rattle.claims.specs.Faults.{step_faults, end_faults, stands_at, IsFault, of_step, of_end}
use Rattle.claims.specs.Table.{table_lines, table_verdict, as_fault}
use Rattle.claims.proofs.Claims.{route_refused_exactly, table_refused_exactly}
use Rattle.claims.proofs.Faults.{fault_exactly}
use Rattle.claims.proofs.Collecting.{told_exactly}
use Rattle.claims.proofs.TableCalls.{other_refused}
use Rattle.answering.specs.Answer.{Answer, Found, None, Stopped}
use Rattle.answering.specs.declared.AnswerNumbers.{AnswerNumbers}
use Rattle.answering.specs.Answers as answer
use Rattle.answering.specs.Answers.{row_of, answered}
use Rattle.answering.specs.Rooms.{Rooms, lent_lines}
use Rattle.answering.specs.declared.Question.{Question}
use Rattle.search.specs.Search.{search_lines, Searched}
use Rattle.search.proofs.Promise.{by_table, by_refusal}
use Rattle.astar.specs.Astar.{aimed_row, Aimed}
use Rattle.astar.proofs.Promise.{aimed_by_table, aimed_by_refusal}
use Rattle.recordlayout.specs.Record.{question_in, ways_in, record_of}
use Rattle.desk.specs.Desk.{with_ways, Asked, no_zeros, searched, whole_records, record_at, IsAnswered}
use Rattle.tender.specs.SearchTable.{SameLengths}
use Rattle.tender.specs.FirstCondition.{Refuses, SaysRefused, IsRefusable, zeros_missing, not_searched, FirstCondition}
use Rattle.tender.proofs.Unread.{reader_refuses, judge_refuses, program_refuses}
use Rattle.tender.proofs.Unlogged.{log_reader_refuses, log_reader_call_refuses, log_writer_refuses, log_writer_call_refuses}
use Rattle.tender.proofs.Records.{same_length, alike, answered_each}

-- an answer that is a row of 01's table is no refusal
row_no_refusal : (measure : List ℕ → RouteLength) (k : Kind) (w : Row) (n p : ℕ) → answered measure k w ≡ Answer.Refused n p → ⊥
row_no_refusal measure Kind.found w n p e = let z : ◌≡◌ {A = ℕ} 0 1 = cc in omega arith
row_no_refusal measure Kind.none w n p e = let z : ◌≡◌ {A = ℕ} 0 1 = cc in omega arith
row_no_refusal measure Kind.stopped w n p e = let z : ◌≡◌ {A = ℕ} 0 1 = cc in omega arith

-- an engine's answer: the refusal that its lines give, which alters nothing, or a row of its table
module _ (ls : List Line) (rises : T (rising 0 ls)) {a : Answer} {same : Type 0} (by : (n p : ℕ) → screen ls ≡ Refused n p → (a ≡ Answer.Refused n p) × same)
    (measure : List ℕ → RouteLength) (row : screen ls ≡ Passed → (w : Row) × (a ≡ answered measure w.kind w)) where
  refused_by : (n p : ℕ) (s : Screen) → screen ls ≡ s → a ≡ Answer.Refused n p → screen ls ≡ Refused n p
  refused_by n p Passed e h = let w = row e in absurd (row_no_refusal measure w.0.kind w.0 n p (sym w.1 ∙ h))
  refused_by n p (Refused i j) e h = let k = sym (by i j e).0 ∙ h in e ∙ cc

  engine_refuses : Refuses (IsLowestLine ls) (λ n p. a ≡ Answer.Refused n p) same
  engine_refuses = record {
    exactly = λ n p. Iff.trans (refused_by n p (screen ls) refl, λ e. (by n p e).0) (lowest_line ls 0 rises n p);
    alters_nothing = λ n p h. (by n p (refused_by n p (screen ls) refl h)).1;
  }

search_refuses : (f : Floor) (m : List ℕ) (q : Question) (r : Rooms) (a : Answer) (r' : Rooms) → Searched f m q r a r'
    → Refuses (IsLowestLine (search_lines f m q r)) (λ n p. a ≡ Answer.Refused n p) (r' ≡ r)
search_refuses f m q r a r' x = engine_refuses (search_lines f m q r) tt (by_refusal x) (route_length f m q.start) (λ e. let y = by_table x e in (row_of f m q y.table, y.answer))

astar_refuses : (f : Floor) (m : List ℕ) (start goal : ℕ) (r : Rooms) (a : Answer) (r' : Rooms) → Aimed f m start goal r a r'
    → Refuses (IsLowestLine (lent_lines f m start goal r)) (λ n p. a ≡ Answer.Refused n p) (r' ≡ r)
astar_refuses f m start goal r a r' x = engine_refuses (lent_lines f m start goal r) tt (aimed_by_refusal x) (route_length f m start) (λ e. let y = aimed_by_table x e in (aimed_row f m start goal y.table, y.answer))

-- the numbers of an answer that gives values tell the screen before it
abbrev screen_in : Numbers → Screen
screen_in (refused n p) = Refused n p
screen_in (fault n p) = Passed
screen_in (gives vs) = Passed

screen_back : (vs : List ℕ) (s : Screen) → screen_in (after_screen s (gives vs)) ≡ s
screen_back vs Passed = refl
screen_back vs (Refused n p) = refl

screen_refuses : (ls : List Line) → T (rising 0 ls) → (x : Screen) → x ≡ screen ls → (n p : ℕ) → (numbers_of x ≡ refused n p) ↔ IsLowestLine ls n p
screen_refuses ls r x e = by_lines (λ s. after_screen s (gives [])) screen_in (screen_back []) ls (ap numbers_of e) r

writer_refuses : (f : Floor) (m room : List ℕ) (w : Result ℕ Refusal) (room' : List ℕ) → IsWritten f m room w room'
    → Refuses (IsLowestLine (write_lines f m (length room))) (λ n p. written_as w ≡ refused n p) (room' ≡ room)
writer_refuses f m room w room' x =
    let vs : List ℕ = length (text_of f.width f.height m) ∷ [] in
    record {
      exactly = by_lines (λ s. after_screen s (gives vs)) screen_in (screen_back vs) (write_lines f m (length room)) x.answers tt;
      alters_nothing = λ n p e.
          x.leaves
          ∙ ap (text_left (text_of f.width f.height m) room)
          (refused_lines (λ s. after_screen s (gives vs)) screen_in (screen_back vs) (write_lines f m (length room)) x.answers n p e);
    }

-- the numbers of a verdict are what is promised
same_numbers : {a b c : Numbers} → a ≡ b → (a ≡ c) ↔ (b ≡ c)
same_numbers e = (λ k. sym e ∙ k, λ k. e ∙ k)

-- a question record: 13, or what the search refuses
question_refuses : (f : Floor) (m question : List ℕ) (r : Rooms) (a : Answer) (r' : Rooms) → Asked f m question r a r'
    → Refuses (IsRefusable f m question r) (λ n p. a ≡ Answer.Refused n p) (r' ≡ r)
question_refuses f m question r a r' (no_zeros z e l) = record {
  exactly = λ n p. (λ g. let h = sym e ∙ g in zeros_missing z (number h) (place h), to n p);
  alters_nothing = λ n p g. l;
}
  where
    number : {n p : ℕ} → Answer.Refused 13 0 ≡ Answer.Refused n p → n ≡ 13
    number h = cc

    place : {n p : ℕ} → Answer.Refused 13 0 ≡ Answer.Refused n p → p ≡ 0
    place h = cc

    to : (n p : ℕ) → IsRefusable f m question r n p → a ≡ Answer.Refused n p
    to n p (zeros_missing y f g) = rw (f, g) e
    to n p (not_searched y x) = let z : ◌≡◌ {A = ℕ} 0 1 = cc in absurd (omega arith)
question_refuses f m question r a r' (searched z x) =
    let s = search_refuses (with_ways f (ways_in question)) m (question_in question) r a r' x in
    record {
      exactly = λ n p. (λ g. not_searched z ((s.exactly n p).0 g), to s n p);
      alters_nothing = s.alters_nothing;
    }
  where
    to : Refuses (IsLowestLine (search_lines (with_ways f (ways_in question)) m (question_in question) r)) (λ n p. a ≡ Answer.Refused n p) (r' ≡ r)
        → (n p : ℕ) → IsRefusable f m question r n p → a ≡ Answer.Refused n p
    to s n p (zeros_missing y f g) = let z : ◌≡◌ {A = ℕ} 0 1 = cc in absurd (omega arith)
    to s n p (not_searched y x) = (s.exactly n p).1 x

-- the numbers of an answer are those of a refusal exactly when it is that refusal
refusal_numbers : (a : Answer) (n p : ℕ) → answer.numbers_of a ≡ answer.numbers_of (Answer.Refused n p) → a ≡ Answer.Refused n p
refusal_numbers (Answer.Refused i j) n p e =
    let number : i ≡ n = ap (λ (x : AnswerNumbers). x.refusal) e in let place : j ≡ p = ap (λ (x : AnswerNumbers). x.place) e in rw (number, place)
refusal_numbers (Found s c l) n p e = absurd (omega (arith, ap (λ (x : AnswerNumbers). x.kind) e))
refusal_numbers (None s) n p e = absurd (omega (arith, ap (λ (x : AnswerNumbers). x.kind) e))
refusal_numbers (Stopped s c) n p e = absurd (omega (arith, ap (λ (x : AnswerNumbers). x.kind) e))

-- and so for an engine's call
call_refuses : {due : ℕ → ℕ → Type 0} {same : Type 0} (a : Answer) (x : AnswerNumbers) → x ≡ answer.numbers_of a → Refuses due (λ n p. a ≡ Answer.Refused n p) same
    → Refuses due (λ n p. x ≡ answer.numbers_of (Answer.Refused n p)) same
call_refuses a x e s =
    let back : (n p : ℕ) → x ≡ answer.numbers_of (Answer.Refused n p) → a ≡ Answer.Refused n p = λ n p h. refusal_numbers a n p (sym e ∙ h) in
    record {
      exactly = λ n p. (λ h. (s.exactly n p).0 (back n p h), λ h. e ∙ ap answer.numbers_of ((s.exactly n p).1 h));
      alters_nothing = λ n p h. s.alters_nothing n p (back n p h);
    }

-- the collector's number
module _ (f : Floor) (m : List ℕ) (c : Claim) (fits : c.cost ≤ MARK) (x : ℕ) (promised : x ≡ packed (route_verdict f m c)) (n p : ℕ) where
  fault_high : IsFault f m c n p → 41 ≤ n
  fault_high (of_step h t low) = above 40 (step_faults f m (stands_at f m c p) (get_or c.route p 0) p) tt (line n true p) low.applies
  fault_high (of_end t low) = above 40 (end_faults f m c) tt (line n true p) low.applies

  call_says : SaysRefused x n p ↔ IsLowestLine (claim_lines f m c) n p
  call_says = (
    λ s. ⊎_elim
        (λ e. (lowest_line (claim_lines f m c) 0 tt n p).0 ((route_refused_exactly f m c n p).0 e))
        (λ e. absurd (omega (arith, fault_high ((fault_exactly f m c n p).0 e).1, s.no_fault)))
        ((told_exactly f m c fits x promised n p s.not_held).0 (s.number, s.place)),
    λ low.
        let not_held = above 0 (claim_lines f m c) tt (line n true p) low.applies in
        let told = (told_exactly f m c fits x promised n p not_held).1 (inl ((route_refused_exactly f m c n p).1 ((lowest_line (claim_lines f m c) 0 tt n p).1 low))) in
        record { number = told.0; place = told.1; no_fault = omega (arith, below 40 (claim_lines f m c) tt (line n true p) low.applies); not_held = not_held },
  )

-- the number of the table check's call
table_says : (f : Floor) (m : List ℕ) (s : ℕ) (t : List ℕ) (x : ℕ) → x ≡ packed (as_fault (table_verdict f m s t))
    → (n p : ℕ) → SaysRefused x n p ↔ IsLowestLine (table_lines f m s t) n p
table_says f m s t x promised n p = (
  λ said. lines.0 ((other_refused f m s t x promised n p said.not_held said.no_fault).0 (said.number, said.place)),
  λ low.
      let not_held = above 0 (table_lines f m s t) tt (line n true p) low.applies in
      let no_fault = below 40 (table_lines f m s t) tt (line n true p) low.applies in
      let told = (other_refused f m s t x promised n p not_held no_fault).1 (lines.1 low) in
      record { number = told.0; place = told.1; no_fault = omega (arith, no_fault); not_held = not_held },
)
  where
    lines : (screen (table_lines f m s t) ≡ Refused n p) ↔ IsLowestLine (table_lines f m s t) n p
    lines = lowest_line (table_lines f m s t) 0 tt n p

-- what is refused of a record does not depend on what the rooms hold
same_refusable : {f : Floor} {m question : List ℕ} {r s : Rooms} {n p : ℕ} → SameLengths r s → IsRefusable f m question r n p → IsRefusable f m question s n p
same_refusable same (zeros_missing z e l) = zeros_missing z e l
same_refusable same (not_searched z low) = not_searched z (rw (same.costs, same.work, same.route) low)

-- a record is a refusal's exactly when its answer is that refusal, at some place
refusal_record : (a : Answer) (n p : ℕ) → record_of a ≡ record_of (Answer.Refused n p) → (k : ℕ) × (a ≡ Answer.Refused n k)
unfolding record_of
refusal_record (Answer.Refused i j) n p e = let number : i ≡ n = ap (λ (bytes : List ℕ). get_or bytes 1 0) e in (j, rw number)
refusal_record (Found s c l) n p e = absurd (omega (arith, ap (λ (bytes : List ℕ). get_or bytes 0 0) e))
refusal_record (None s) n p e = absurd (omega (arith, ap (λ (bytes : List ℕ). get_or bytes 0 0) e))
refusal_record (Stopped s c) n p e = absurd (omega (arith, ap (λ (bytes : List ℕ). get_or bytes 0 0) e))

records_refuse : (f : Floor) (m bytes : List ℕ) (r : Rooms) (k : ℕ) (bytes' : List ℕ) (r' : Rooms) → IsAnswered f m bytes r k bytes' r'
    → (i : ℕ) → i < whole_records bytes → (n : ℕ)
    → ((p : ℕ) × (record_at i bytes' ≡ record_of (Answer.Refused n p))) ↔ ((p : ℕ) × IsRefusable f m (record_at i bytes) r n p)
records_refuse f m bytes r k bytes' r' x i h n =
    let y = answered_each f m (whole_records bytes) bytes r bytes' r' x.records i h in
    let s = question_refuses f m (record_at i bytes) y.rooms y.answer y.left y.asked in (
      λ e. let a = refusal_record y.answer n e.0 (sym y.leaves ∙ e.1) in (a.0, same_refusable (alike y.lengths same_length) ((s.exactly n a.0).0 a.1)),
      λ e. (e.0, y.leaves ∙ ap record_of ((s.exactly n e.0).1 (same_refusable y.lengths e.1))),
    )

-- The first condition of the tender, of refusals
pub first_condition : FirstCondition
first_condition = record {
  search = search_refuses;
  search_call = λ f m q r x r' c. call_refuses c.answer x c.numbers (search_refuses f m q r c.answer r' c.searched);
  astar = astar_refuses;
  astar_call = λ f m start goal r x r' c. call_refuses c.answer x c.numbers (astar_refuses f m start goal r c.answer r' c.aimed);
  route_call = call_says;
  table_call = table_says;
  reader_call = λ text room x room' c.
      record { exactly = judge_call_refused text (length room) x c.numbers; alters_nothing = read_call_same text room x room' c };
  judge_call = judge_call_refused;
  writer_call = λ f m room x room' c.
      record { exactly = write_call_refused f m room x room' c; alters_nothing = write_call_same f m room x room' c };
  judge = judge_refuses;
  program_records = records_refuse;
  route_check = λ f m c v e n p.
      Iff.trans (same_numbers e) (Iff.trans (route_refused_exactly f m c n p) (lowest_line (claim_lines f m c) 0 tt n p));
  table_check = λ f m s t v e n p.
      Iff.trans (same_numbers e) (Iff.trans (table_refused_exactly f m s t n p) (lowest_line (table_lines f m s t) 0 tt n p));
  writer = writer_refuses;
  reader = reader_refuses;
  program_map = program_refuses;
  program_question = question_refuses;
  map_screen = λ f m x. screen_refuses (map_lines f m) tt (screened x);
  floor_screen = λ f m x. screen_refuses (floor_lines f m) tt (screened x);
  question_screen = λ f m s g x. screen_refuses (question_lines f m s g) tt (screened x);
  log_reader = λ rest room r room'. log_reader_refuses rest room room' r;
  log_reader_call = λ rest room x room'. log_reader_call_refuses rest room room' x;
  log_writer = λ e room w room'. log_writer_refuses e room room' w;
  log_writer_call = λ e room x room'. log_writer_call_refuses e room room' x;
}
