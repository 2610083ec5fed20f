-- Every answer of the search, on a map of no more than 4,096 cells, can be logged with the route that it left: row by row of 01's table.
use mathlib.Core.Path.{◌≡◌, refl, sym, ap, ◌∙◌}
use mathlib.Core.Logic.{◌≢◌}
use mathlib.Core.Bool.{not, ◌&&◌}
use mathlib.Core.List.{List, [], ◌∷◌, ◌++◌}
use Prim.Native.Nat.{ℕ, suc, ◌+◌, ◌≤◌, ◌<◌}
use native.Mathlib.Decide.{dec_lt}
use native.Mathlib.Omega.{arith}
use lib.Dec.{T, eqb, leb, ltb, le→leb, lt→ltb, ltb→lt, T_not}
use lib.ListN.{length, get_or, take, drop, length-append}
use lib.Seq.{take-append_seam, length-take-le}
use Rattle.std.specs.Prelude.{Result, Err}
use Rattle.paths.specs.Graph.{Graph, Lawful, MARK}
use Rattle.paths.specs.Route.{walks}
use Rattle.paths.specs.Table.{Right}
use Rattle.paths.specs.First.{first_route}
use Rattle.paths.proofs.Bools.{T_true, T_and, and_T, eq_T, by_cond}
use Rattle.paths.proofs.Meaning.{reachable_known, one_first_route, first_route_cost, least_cost_route_short}
use Rattle.settling.specs.Order.{L, place}
use Rattle.settling.specs.Answer.{Row, answer_of}
use Rattle.settling.proofs.Orders.{known_is, in_known, in_at, place_absent}
use Rattle.floor.specs.declared.Floor.{Floor}
use Rattle.floor.specs.declared.refusals.Refusal.{Refusal}
use Rattle.floor.specs.declared.refusals.Refusal.TheVariants.{BadDirections}
use Rattle.floor.specs.Place.{cells}
use Rattle.floor.specs.Step.{graph}
use Rattle.floor.specs.Length.{route_length}
use Rattle.floor.specs.Refusal.{HasPassed}
use Rattle.floor.proofs.Laws.{lawful, least_cost_bound}
use Rattle.floor.proofs.Questions.{question_passed, start_inside, goal_inside}
use Rattle.answering.specs.Answer.{Answer}
use Rattle.answering.specs.Answers.{answer_by, numbers_of}
use Rattle.answering.specs.Rooms.{Rooms}
use Rattle.answering.specs.declared.Question.{Question}
use Rattle.search.specs.Search.{Searched}
use Rattle.search.proofs.Lending.{search_question}
use Rattle.search.proofs.Promise.{search_numbers}
use Rattle.recordlayout.specs.Record.{record_size, record_of}
use Rattle.recordlayout.proofs.Records.{record_length}
use Rattle.logentries.specs.Entry.{Entry, entry_of, greatest_length, can_be_logged, all_directions, IsEntry}
use Rattle.routelog.specs.Writing.{IsWritten}
use Rattle.routelog.proofs.Writing.{count_wrong, written_refused}
use Rattle.routelog.proofs.Promises.{one_written}
use Rattle.routelog.proofs.Logging.{CanLog, refused, found, nothing, stopped, answer_logged}

-- the steps of a route are directions
pub steps_numbered : {g : Graph} {least most : ℕ} → Lawful g least most → g.directions ≡ 8 → (u : ℕ) (ds : List ℕ) → T (walks g u ds) → T (all_directions ds)
steps_numbered law eight u [] w = tt
steps_numbered {g} law eight u (d ∷ ds) w =
    let both = T_and (g.allowed u d) (walks g (g.to u d) ds) w in
    let low : d ≤ 7 = omega (arith, eight, law.numbered u d both.0) in
    and_T (leb 0 d && leb d 7) (all_directions ds) (and_T (leb 0 d) (leb d 7) (le→leb 0 d (omega arith)) (le→leb d 7 low))
    (steps_numbered law eight (g.to u d) ds both.1)

-- a row of 01's table whose answer can be logged with its route
record RowLogs (f : Floor) (m : List ℕ) (s : ℕ) (a : Row) : Type 0 where
  can : CanLog (answer_by f m s a)
  count : (numbers_of (answer_by f m s a)).length ≡ length a.route
  right : T (all_directions a.route)

place_within : (v : ℕ) (l : List ℕ) → place v l ≤ length l
place_within v [] = omega arith
place_within v (u ∷ us) = by_cond (λ (n : ℕ). n ≤ suc (length us)) (eqb u v) 0 (suc (place v us)) (λ h. omega arith) (λ h. omega (arith, place_within v us))

-- where the goal is not found within the limit, and the limit does not cover L, it falls within L
limit_within : (i n k : ℕ) → i ≤ n → T (not (ltb i n && ltb i k)) → T (not (eqb i n && leb n k)) → k < n
limit_within i n k h a b = elim (dec_lt k n) [
  | yes l ↦ l
  | no l ↦ elim (dec_lt i n) [
    | yes j ↦ absurd (T_not (ltb i n && ltb i k) a (and_T (ltb i n) (ltb i k) (lt→ltb i n j) (lt→ltb i k (omega arith))))
    | no j ↦ absurd (T_not (eqb i n && leb n k) b (and_T (eqb i n) (leb n k) (eq_T i n (omega arith)) (le→leb n k (omega arith))))
  ]
]

module _ (f : Floor) (m : List ℕ) (good : HasPassed f m) (few : cells f ≤ suc greatest_length) (s : ℕ) (start : s < cells f) (t : List ℕ)
    (right : Right (graph f m) s t) where
  known_cost : (v : ℕ) → v < cells f → get_or t v 0 ≢ MARK → get_or t v 0 < MARK
  known_cost v h n = omega (arith, least_cost_bound f m good s v (get_or t v 0) start (right.reached v h n))

  listed_cost : (j : ℕ) → j < length (L t) → get_or t (get_or (L t) j 0) 0 < MARK
  listed_cost j h =
      let v = get_or (L t) j 0 in
      let k = in_known t v (length t) (in_at (L t) j h) in
      known_cost v (omega (arith, k.0, right.covers)) (known_is t v k.1)

  goal_known : (goal : ℕ) → place goal (L t) < length (L t) → get_or t goal 0 ≢ MARK
  goal_known goal h e = absurd (omega (arith, place_absent goal (L t) (λ i. known_is t goal (in_known t goal (length t) i).1 e)))

  row_logs : (goal k : ℕ) → goal < cells f → RowLogs f m s (answer_of (graph f m) s t goal k)
  unfolding answer_of
  row_logs goal k inside =
      let n = length (L t) in
      let i = place goal (L t) in
      let law = lawful f m good in
      by_cond (RowLogs f m s) (ltb i n && ltb i k) _ _
      (λ b.
      let known = goal_known goal (ltb→lt i n (T_and (ltb i n) (ltb i k) b).0) in
      let there = (reachable_known law s start t right goal inside).1 known in
      let first = (one_first_route law s start t right goal there).0.route in
      let route = first_route (graph f m) s t goal in
      let short = least_cost_route_short law s start goal (get_or t goal 0) (right.reached goal inside known) route first (first_route_cost law s start t right goal there) in
      record {
        can = found (i + 1) (get_or t goal 0) (route_length f m s route) (known_cost goal inside known) (omega (arith, short));
        count = refl;
        right = steps_numbered law refl s route first.allowed;
      })
      (λ b.
      by_cond (RowLogs f m s) (eqb i n && leb n k) _ _ (λ c. record { can = nothing n; count = refl; right = tt })
      (λ c.
      let within = limit_within i n k (place_within goal (L t)) b c in
      record { can = stopped k (get_or t (get_or (L t) k 0) 0) (listed_cost k within); count = refl; right = tt }))

-- what the search answered and the route it left can be logged, with whatever question
pub record Logs (a : Answer) (route : List ℕ) : Type 0 where
  pub can : CanLog a
  pub there : (numbers_of a).length ≤ length route
  pub right : T (all_directions (take (numbers_of a).length route))

pub searched_logs : (f : Floor) (m : List ℕ) (q : Question) (r : Rooms) {a : Answer} {r' : Rooms} → cells f ≤ suc greatest_length → Searched f m q r a r'
    → Logs a r'.route
searched_logs f m q r few (Searched.refused n p e b l) =
    let numbers = search_numbers f m q r e in
    rw b (record { can = refused n p numbers.0 (omega (arith, numbers.1)); there = omega arith; right = tt })
searched_logs f m q r {r' = r'} few (Searched.passed e x) =
    let p = search_question f m q r e in
    let good = question_passed f m q.start q.goal p in
    let row = answer_of (graph f m) q.start x.table q.goal q.limit in
    let k = row_logs f m good few q.start (start_inside f m q.start q.goal p) x.table x.right q.goal q.limit (goal_inside f m q.start q.goal p) in
    let rest = drop (length row.route) r.route in
    let left : r'.route ≡ row.route ++ rest = ap (λ (y : Rooms). y.route) x.leaves in
    rw (x.answer, left)
    (record {
      can = k.can;
      there = omega (arith, k.count, length-append row.route rest);
      right = rw (k.count, take-append_seam row.route rest) k.right;
    })

-- so the writer takes it: the entry is one that can stand in a log
pub logs_entry : (question route : List ℕ) (a : Answer) → length question ≡ record_size → Logs a route
    → IsEntry (entry_of question (record_of a) (take (numbers_of a).length route))
logs_entry question route a whole l =
    let fits = answer_logged l.can in
    record {
      question_whole = whole;
      answer_whole = record_length a;
      answer_fits = fits.0;
      count = length-take-le (numbers_of a).length route l.there ∙ sym fits.1;
      directions = l.right;
    }

-- and takes no other count of directions with that answer
pub other_count : (e : Entry) (room room' : List ℕ) (a : Answer) {w : Result ℕ Refusal} → CanLog a → e.answer ≡ record_of a → length e.route ≢ (numbers_of a).length
    → IsWritten e room w room' → (w ≡ Err BadDirections) × (room' ≡ room)
other_count e room room' a can is other x =
    let fits = answer_logged can in
    let logged = T_true (can_be_logged e.answer) (rw is fits.0) in
    let wrong = count_wrong e.answer e.route logged (λ h. other (h ∙ rw is fits.1)) in
    one_written x (written_refused e room wrong)
