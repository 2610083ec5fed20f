-- The promise from the rooms' parts: a refusal leaves everything as it was, and else each part is followed by the rest of its room.
use mathlib.Core.Path.{◌≡◌, refl}
use mathlib.Core.List.{List, [], ◌∷◌, ◌++◌}
use Prim.Native.Nat.{ℕ, ◌*◌, ◌≤◌}
use native.Mathlib.Omega.{arith}
use lib.ListN.{length, drop, replicate}
use Rattle.paths.proofs.Bools.{not_eqb_ne}
use Rattle.floor.specs.declared.Floor.{Floor}
use Rattle.floor.specs.Screen.{Passed, Refused}
use Rattle.floor.specs.Place.{cells}
use Rattle.floor.specs.Refusal.{screen, question_lines}
use Rattle.floor.proofs.Questions.{passed_both}
use Rattle.floor.proofs.Screens.{none_given}
use Rattle.answering.specs.Answer.{Answer}
use Rattle.answering.specs.Rooms.{Rooms, rooms, lent_lines}
use Rattle.answering.specs.declared.Question.{Question}
use Rattle.search.specs.Search.{limit_line, search_lines, Searched, refused, passed}
use Rattle.answering.proofs.Lending.{asked_well, enough_costs, enough_work, enough_route}
use Rattle.lastband.specs.Last.{Finished}

module _ (f : Floor) (m : List ℕ) (q : Question) (r : Rooms) where
  pub searched_refused : (n p : ℕ) → screen (search_lines f m q r) ≡ Refused n p → Searched f m q r (Answer.Refused n p) r
  searched_refused n p e = refused n p e refl refl

  module _ (e : screen (search_lines f m q r) ≡ Passed) where
    -- 1 to 11, and 15
    both : (screen (lent_lines f m q.start q.goal r) ≡ Passed) × (screen (limit_line q.limit ∷ []) ≡ Passed)
    both = passed_both (lent_lines f m q.start q.goal r) (limit_line q.limit ∷ []) e

    pub search_question : screen (question_lines f m q.start q.goal) ≡ Passed
    search_question = asked_well f m q.start q.goal r both.0

    pub long_costs : cells f ≤ length r.costs
    long_costs = enough_costs f m q.start q.goal r both.0

    pub long_work : 2 * cells f ≤ length r.work
    long_work = enough_work f m q.start q.goal r both.0

    pub long_route : cells f ≤ length r.route
    long_route = enough_route f m q.start q.goal r both.0

    -- 02, R-2: a search that is not refused may settle a cell
    pub some_limit : 1 ≤ q.limit
    some_limit = let n = not_eqb_ne q.limit 0 (none_given (limit_line q.limit ∷ []) both.1).0 in omega (arith, n)

    -- n is the number of cells, as the code has it
    pub searched_passed : (n : ℕ) → n ≡ cells f → {a : Answer} {costs' work' route' : List ℕ} → Finished f m q r.route a costs' route'
        → work' ≡ replicate (2 * cells f) 0 → Searched f m q r a (rooms (costs' ++ drop n r.costs) (work' ++ drop (2 * n) r.work) route')
    searched_passed n c x z = passed e (record { table = x.table; right = x.right; answer = x.answer; leaves = rw (c, x.costs_left, z, x.route_left) })
