-- The third condition: a found route costs least and a floor no more than any route, and the floor crate compares true lengths by costs.
use mathlib.Core.Path.{◌≡◌, refl}
use mathlib.Core.List.{List, [], ◌∷◌}
use Prim.Native.Nat.{ℕ, ◌*◌, ◌≤◌}
use native.Mathlib.Omega.{arith}
use lib.ListN.{take, replicate}
use Rattle.paths.specs.Route.{cost_of, Route}
use Rattle.floor.specs.declared.Floor.{Floor}
use Rattle.floor.specs.Length.{surd, square, times, squared, step_length, length_of}
use Rattle.floor.specs.Step.{step_weight, step_cost, target, graph}
use Rattle.floor.proofs.Lengths.{cost_over_length, cost_under_length, floor_under_length, length_under_length}
use Rattle.answering.specs.Answer.{Answer}
use Rattle.answering.specs.declared.AnswerNumbers.{AnswerNumbers}
use Rattle.answering.specs.Answers.{numbers_of}
use Rattle.answering.specs.Rooms.{Rooms}
use Rattle.answering.specs.declared.Question.{Question}
use Rattle.search.specs.Search.{Searched}
use Rattle.astar.specs.Astar.{Aimed}
use Rattle.tender.specs.ThirdCondition.{Measured, ThirdCondition}
use Rattle.tender.proofs.Rowed.{FoundWay, found_route, stopped_below}
use Rattle.tender.proofs.AstarTabled.{astar_way, astar_no_stop}
use Rattle.tender.proofs.Records.{each_record}

-- of either engine: a found route costs least, and no route costs less than a floor
module _ (f : Floor) (m : List ℕ) (start goal : ℕ) (n : AnswerNumbers) (room : List ℕ)
    (way : n.kind ≡ 1 → FoundWay f m start goal n room)
    (below : n.kind ≡ 3 → (ds : List ℕ) → Route (graph f m) start goal ds → n.number ≤ cost_of (graph f m) start ds) where
  abbrev ds : List ℕ
  ds = take n.length room

  measured : Measured f m start goal n room
  measured = record {
    sums = λ e. (way e).sums;
    nearly_shortest = λ e es w. let y = (way e).first in length_under_length f m start es w.allowed start ds y.route.allowed (y.least es w);
    cost_above = λ e. let y = way e in rw y.cost at (cost_over_length f m start ds y.first.route.allowed);
    cost_below = λ e. let y = way e in rw y.cost at (cost_under_length f m start ds y.first.route.allowed);
    floor_below = λ e es w. floor_under_length f m start es w.allowed n.number (below e es w);
  }

of_search : {f : Floor} {m : List ℕ} {q : Question} {r : Rooms} {a : Answer} {r' : Rooms} → Searched f m q r a r'
    → Measured f m q.start q.goal (numbers_of a) r'.route
of_search {f} {m} {q} {a = a} {r' = r'} x = measured f m q.start q.goal (numbers_of a) r'.route (found_route x) (stopped_below x)

of_astar : {f : Floor} {m : List ℕ} {start goal : ℕ} {r : Rooms} {a : Answer} {r' : Rooms} → Aimed f m start goal r a r'
    → Measured f m start goal (numbers_of a) r'.route
of_astar {f} {m} {start} {goal} {a = a} {r' = r'} x =
    measured f m start goal (numbers_of a) r'.route (astar_way x) (λ e. absurd (astar_no_stop x e))

-- a refusal is neither found nor stopped
of_refusal : (f : Floor) (m : List ℕ) (q : Question) (n p : ℕ) (room : List ℕ) → Measured f m q.start q.goal (numbers_of (Answer.Refused n p)) room
of_refusal f m q n p room = record {
  sums = λ k. absurd (omega arith);
  nearly_shortest = λ k ds w. absurd (omega arith);
  cost_above = λ k. absurd (omega arith);
  cost_below = λ k. absurd (omega arith);
  floor_below = λ k ds w. absurd (omega arith);
}

-- The third condition of the tender
pub third_condition : ThirdCondition
third_condition = record {
  search = λ f m q r a r' x. of_search x;
  call = λ f m q r n r' x. rw x.numbers (of_search x.searched);
  records = each_record (λ f m q. Measured f m q.start q.goal) (λ f m q r a r' x. of_search x) of_refusal;
  astar = λ f m start goal r a r' x. of_astar x;
  astar_call = λ f m start goal r n r' x. rw x.numbers (of_astar x.aimed);
}

-- 01's example with the weights that 02's R-3 doubles: two diagonal steps of weight 2 have T² = 32 and cost 396, and 2 × 396² = 9801 × 32, so the bound is reached
abbrev ones : List ℕ
ones = replicate 9 1

abbrev square_floor : Floor
square_floor = record { width = 3; height = 3; ways = 8 }

pub example_length : squared (length_of square_floor ones 0 (3 ∷ 3 ∷ [])) ≡ surd 32 0
unfolding step_length step_weight target
example_length = refl

pub example_cost : cost_of (graph square_floor ones) 0 (3 ∷ 3 ∷ []) ≡ 396
unfolding step_cost step_weight target
example_cost = refl

pub example_bound : surd (2 * square 396) 0 ≡ times 9801 (surd 32 0)
example_bound = refl
