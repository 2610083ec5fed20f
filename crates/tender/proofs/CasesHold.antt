-- The cases hold: each table is right because it keeps the rule, which is computed cell by cell; refusals are computed, answers and costs from the tables, P and Q from the routes.
use mathlib.Core.Path.{◌≡◌, refl}
use mathlib.Core.Bool.{Bool, true, ◌&&◌}
use mathlib.Core.List.{List, [], ◌∷◌, map, head-eq_of_cons-eq, tail-eq_of_cons-eq}
use Prim.Native.Nat.{◌*◌}
use lib.Dec.{T, eqb, eqb→eq}
use lib.ListN.{length}
use Rattle.paths.specs.Below.{every}
use Rattle.paths.specs.Table.{offer, due, keeps}
use Rattle.paths.specs.First.{last_step, first_route}
use Rattle.settling.specs.Order.{key, known}
use Rattle.settling.specs.Answer.{answer_of, costs_left}
use Rattle.paths.proofs.Bools.{T_and}
use Rattle.paths.proofs.Below.{every_at}
use Rattle.paths.proofs.Meaning.{rule_is_right}
use Rattle.floor.specs.Screen.{Screen, Passed, Refused}
use Rattle.floor.specs.Place.{cells, is_side, has_sides, on_map, is_open}
use Rattle.floor.specs.Step.{is_direction, target, step_weight, step_cost, cuts_corner, entering, step_of, allowed, graph}
use Rattle.floor.specs.Length.{step_length, length_of}
use Rattle.floor.specs.Refusal.{first_above, screen, question_lines}
use Rattle.floor.proofs.Laws.{lawful}
use Rattle.floor.proofs.Questions.{passed_both, question_passed, start_inside}
use Rattle.answering.specs.Rooms.{room_lines, length_lines}
use Rattle.answering.specs.Answers.{row_of}
use Rattle.search.specs.Search.{limit_line}
use Rattle.tender.specs.Cases.{Told, gives, refuses, Case, lines_of, HoldsAs, AllHold, cases}

-- what is computed of a case, by what is told of it: whether it is refused, whether the table keeps the rule, the row and the costs from the table, and P and Q of the route
abbrev screen_for : Told → Screen
screen_for (gives a s t l) = Passed
screen_for (refuses n p) = Refused n p

abbrev obeys : Case → Told → Bool
obeys c (gives a s t l) = eqb (length t) (cells c.floor) && every (keeps (graph c.floor c.bytes) c.asked.start t) (cells c.floor)
obeys c (refuses n p) = true

abbrev computed : Case → Told → Told
computed c (gives a s t l) =
    gives (row_of c.floor c.bytes c.asked t) (length_of c.floor c.bytes c.asked.start a.route) t (costs_left t a.settled)
computed c (refuses n p) = refuses n p

abbrev all : (Case → Bool) → List Case → Bool
all p [] = true
all p (c ∷ cs) = p c && all p cs

holds : (c : Case) (w : Told) → screen (lines_of c) ≡ screen_for w → T (obeys c w) → computed c w ≡ w → HoldsAs c w
holds c (refuses n p) e o k = e
holds c (gives a s t l) e o k =
    let f = c.floor in
    let m = c.bytes in
    let q = c.asked in
    let n = cells f in
    let early = (passed_both (length_lines f m q.start q.goal n (2 * n) n) (limit_line q.limit ∷ []) e).0 in
    let lines = (passed_both (question_lines f m q.start q.goal) (room_lines f n (2 * n) n) early).0 in
    let law = lawful f m (question_passed f m q.start q.goal lines) in
    let inside = start_inside f m q.start q.goal lines in
    let b = T_and (eqb (length t) n) (every (keeps (graph f m) q.start t) n) o in
    record {
      passed = e;
      right = (rule_is_right law q.start inside t).0 (record { covers = eqb→eq (length t) n b.0; rule = λ v h. every_at (keeps (graph f m) q.start t) n b.1 v h });
      answers = cc;
      measured = cc;
      leaves = cc;
    }

-- each of the three computations is one equation or one test over the whole list
all_hold : (cs : List Case) → map (λ c. screen (lines_of c)) cs ≡ map (λ c. screen_for c.told) cs → T (all (λ c. obeys c c.told) cs)
    → map (λ c. computed c c.told) cs ≡ map (λ c. c.told) cs → AllHold cs
all_hold [] e o k = tt
all_hold (c ∷ cs) e o k =
    let b = T_and (obeys c c.told) (all (λ c. obeys c c.told) cs) o in (
      holds c c.told (head-eq_of_cons-eq e) b.0 (head-eq_of_cons-eq k),
      all_hold cs (tail-eq_of_cons-eq e) b.1 (tail-eq_of_cons-eq k),
    )

pub cases_hold : AllHold cases
unfolding offer due keeps last_step first_route key known answer_of costs_left is_side has_sides on_map is_open is_direction target step_weight step_cost cuts_corner entering step_of allowed first_above step_length
cases_hold = all_hold cases refl tt refl
