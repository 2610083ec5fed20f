-- The second condition: 01's table holds of every search and call (Tabled), R-4's sentence of A* (AstarTabled); claims and map text have their own theorems.
use mathlib.Core.Path.{◌≡◌, refl, sym, ◌∙◌, ap}
use mathlib.Core.Bool.{Bool, true, false, cond, ◌||◌}
use mathlib.Core.Logic.{◌↔◌}
use mathlib.Core.List.{List}
use Prim.Native.Nat.{ℕ, ◌<◌}
use native.Mathlib.Decide.{ℕ_discrete}
use native.Mathlib.Omega.{arith}
use lib.Dec.{ltb}
use lib.ListN.{length, get_or}
use Rattle.paths.specs.Graph.{MARK}
use Rattle.paths.specs.Route.{Reachable}
use Rattle.floor.specs.declared.Floor.{Floor}
use Rattle.floor.specs.Place.{cells}
use Rattle.floor.specs.Screen.{Passed}
use Rattle.floor.specs.Refusal.{screen}
use Rattle.floor.specs.Step.{graph}
use Rattle.std.specs.Prelude.{Option, Some, None, Result, Ok, Err}
use Rattle.floor.specs.declared.refusals.Refusal.{Refusal}
use Rattle.maptext.specs.Reading as reading
use Rattle.maptext.specs.Reading.{Reading, refused, read, reading_of, read_for, cells_left, IsRead}
use Rattle.maptext.proofs.Texts.{reads_back, one_reading}
use Rattle.maptext.proofs.Calls.{calls_back}
use Rattle.claims.specs.declared.FaultAt.{FaultAt}
use Rattle.claims.specs.Route as route
use Rattle.claims.specs.Route.{holds}
use Rattle.claims.specs.Table as claimed
use Rattle.claims.specs.Table.{right, table_verdict}
use Rattle.claims.proofs.Claims.{holds_exactly, right_exactly, settles_none, settles_cost}
use Rattle.claims.proofs.Collecting.{accepted_exactly, accepted_cost}
use Rattle.claims.proofs.TableCalls.{zero_right, forty_breaks}
use Rattle.answering.specs.Answer.{Answer}
use Rattle.answering.specs.Answers.{numbers_of}
use Rattle.answering.specs.Rooms.{Rooms}
use Rattle.search.specs.Search.{search_lines}
use Rattle.search.proofs.Promise.{by_table}
use Rattle.astar.proofs.Promise.{aimed_by_table}
use Rattle.recordlayout.specs.Record.{question_in, ways_in, ends_in_zeros, record_of}
use Rattle.mapuse.specs.Use.{greatest_text, greatest_used_side, within_sides, used_of, IsUsed}
use Rattle.desk.specs.Desk.{with_ways, Asked, no_zeros, searched, whole_records}
use Rattle.tender.specs.SearchTable.{SameLengths}
use Rattle.tender.specs.SecondCondition.{RecordHolds, SecondCondition}
use Rattle.tender.proofs.Tabled.{table_holds}
use Rattle.tender.proofs.AstarTabled.{astar_answers}
use Rattle.tender.proofs.Searches.{same_screen}
use Rattle.tender.proofs.Records.{record_numbers, answered_each}

-- a right table has MARK exactly where there is no route
none_claimed : (f : Floor) (m : List ℕ) (s : ℕ) (t : List ℕ) → table_verdict f m s t ≡ right → (goal : ℕ) → goal < cells f
    → (get_or t goal 0 ≡ MARK) ↔ (Reachable (graph f m) s goal → ⊥)
none_claimed f m s t right goal inside = (
  λ e w. settles_none f m s t right goal inside e w.0 w.1,
  λ no_route_lem. go (ℕ_discrete (get_or t goal 0) MARK) no_route_lem,
)
  where
    go : Dec (get_or t goal 0 ≡ MARK) → (Reachable (graph f m) s goal → ⊥) → get_or t goal 0 ≡ MARK
    go (yes e) no_route_lem = e
    go (no n) no_route_lem = let l = settles_cost f m s t right goal inside n in absurd (no_route_lem (l.way, l.route))

-- a record that is not refused, with the numbers of its search
of_record : {f : Floor} {m question : List ℕ} (r : Rooms) {p : Rooms} {a : Answer} {p' : Rooms} {out : List ℕ} → SameLengths r p → Asked f m question p a p' → out ≡ record_of a
    → ends_in_zeros question ≡ true → screen (search_lines (with_ways f (ways_in question)) m (question_in question) r) ≡ Passed
    → RecordHolds (with_ways f (ways_in question)) m (question_in question) r out
of_record r same (no_zeros z e l) k t s = let w : ◌≡◌ {A = ℕ} 0 1 = cc in absurd (omega arith)
of_record {f} {m} {question} r {p} {a} {p'} same (searched z x) k t s =
    let q = same_screen (with_ways f (ways_in question)) m (question_in question) same ∙ s in
    record { numbers = numbers_of a; is_record = k ∙ record_numbers a; before = p; after = p'; lengths = same; table = table_holds (by_table x q) q }

-- a map that can be used was read
used_read : (text room : List ℕ) (f : Floor) (room' : List ℕ) → IsUsed text room (Ok f) room' → IsRead text room (Ok f) room'
unfolding used_of
used_read text room f room' x = go (ltb greatest_text (length text)) x.answers x.leaves
  where
    within : (b : Bool) (w h : ℕ) (m : List ℕ) → reading_of text (length room) ≡ read w h m → reading.numbers_of (Ok f) ≡ read_for (cond b (refused 14 0) (read w h m))
        → room' ≡ cells_left (cond b (refused 14 0) (read w h m)) room → IsRead text room (Ok f) room'
    within true w h m e a l = let z : ◌≡◌ {A = ℕ} 0 1 = cc in absurd (omega arith)
    within false w h m e a l = record { answers = rw e a; leaves = rw e l }

    sides : (y : Reading) → reading_of text (length room) ≡ y → reading.numbers_of (Ok f) ≡ read_for (within_sides y)
        → room' ≡ cells_left (within_sides y) room → IsRead text room (Ok f) room'
    sides (refused n p) e a l = record { answers = rw e a; leaves = rw e l }
    sides (read w h m) e a l = within (ltb greatest_used_side w || ltb greatest_used_side h) w h m e a l

    go : (b : Bool) → reading.numbers_of (Ok f) ≡ read_for (cond b (refused 14 0) (within_sides (reading_of text (length room))))
        → room' ≡ cells_left (cond b (refused 14 0) (within_sides (reading_of text (length room)))) room → IsRead text room (Ok f) room'
    go true a l = let z : ◌≡◌ {A = ℕ} 0 1 = cc in absurd (omega arith)
    go false a l = sides (reading_of text (length room)) refl a l

-- the answers that accept a claim are the only ones with their numbers
accepts : (v : Result (Result ℕ FaultAt) Refusal) (k : ℕ) → route.numbers_of v ≡ holds k → v ≡ Ok (Ok k)
accepts (Ok (Ok j)) k e = let same : j ≡ k = cc in rw same
accepts (Ok (Err x)) k e = let z : ◌≡◌ {A = ℕ} 0 1 = cc in absurd (omega arith)
accepts (Err r) k e = let z : ◌≡◌ {A = ℕ} 0 1 = cc in absurd (omega arith)

accepts_table : (v : Result (Option ℕ) Refusal) → claimed.numbers_of v ≡ right → v ≡ Ok None
accepts_table (Ok None) e = refl
accepts_table (Ok (Some b)) e = let z : ◌≡◌ {A = ℕ} 0 1 = cc in absurd (omega arith)
accepts_table (Err r) e = let z : ◌≡◌ {A = ℕ} 0 1 = cc in absurd (omega arith)

-- The second condition of the tender
pub second_condition : SecondCondition
second_condition = record {
  search = λ f m q r a r' x p. table_holds (by_table x p) p;
  call = λ f m q r n r' x p. rw x.numbers (table_holds (by_table x.searched p) p);
  records = λ f m bytes r k bytes' r' x i h z s.
      let y = answered_each f m (whole_records bytes) bytes r bytes' r' x.records i h in
      of_record r y.lengths y.asked y.leaves z s;
  astar = λ f m start goal r a r' x p. astar_answers (aimed_by_table x p) p;
  astar_call = λ f m start goal r n r' x p. rw x.numbers (astar_answers (aimed_by_table x.aimed p) p);
  route_call = λ f m c fits x e. (accepted_exactly f m c fits x e, accepted_cost f m c fits x e);
  table_call = λ f m s t x e p. (
    (λ z. ((zero_right f m s t x e).0 z).1, λ w. (zero_right f m s t x e).1 (p, w)),
    λ b. (λ z. ((forty_breaks f m s t x e b).0 z).1, λ w. (forty_breaks f m s t x e b).1 (p, w)),
  );
  none_call = λ f m s t x e z. none_claimed f m s t ((right_exactly f m s t).1 ((zero_right f m s t x e).0 z));
  map_call = calls_back;
  judge_call = λ text room x room' c j e. e ∙ sym c.numbers;
  judge = λ text room r room' x j e. (one_reading text room (record { answers = e; leaves = x.leaves }) x).0;
  program_map = used_read;
  route_claim = λ f m c v x p k. (
    λ e. let w = (holds_exactly f m c k).0 (sym x ∙ ap route.numbers_of e) in (w.0.route, w.0.costs, w.1),
    λ w. accepts v k (x ∙ (holds_exactly f m c k).1 (record { passed = p; route = w.0; costs = w.1 }, w.2)),
  );
  table_claim = λ f m s t v x p. (
    λ e. ((right_exactly f m s t).0 (sym x ∙ ap claimed.numbers_of e)).1,
    λ w. accepts_table v (x ∙ (right_exactly f m s t).1 (p, w)),
  );
  none_claim = λ f m s t v x e. none_claimed f m s t (sym x ∙ ap claimed.numbers_of e);
  map = λ f m text text' n w room r room' x h. reads_back f m text text' room room' n r w x h;
}
