-- Half the step on each cell: the steps are laws of the floor; an answer's cost or floor is a least cost by 01's table, and the floor bounds those.
use mathlib.Core.Path.{◌≡◌, subst}
use mathlib.Core.List.{List, ◌∷◌}
use Prim.Native.Nat.{ℕ}
use native.Mathlib.Omega.{arith}
use Rattle.floor.specs.declared.Floor.{Floor}
use Rattle.floor.specs.Length.{plus, step_length, length_of}
use Rattle.floor.proofs.Laws.{step_costs, there_and_back, step_between, least_cost_bound}
use Rattle.floor.proofs.Lengths.{length_step, cost_parts}
use Rattle.floor.proofs.Questions.{question_passed}
use Rattle.answering.specs.Answer.{Answer}
use Rattle.answering.specs.Answers.{numbers_of}
use Rattle.answering.specs.Rooms.{Rooms}
use Rattle.answering.specs.declared.Question.{Question}
use Rattle.search.specs.Search.{Searched, refused, passed}
use Rattle.search.proofs.Lending.{search_question}
use Rattle.astar.specs.Astar.{Aimed}
use Rattle.tender.specs.BothCells.{Bounded, BothCells}
use Rattle.tender.proofs.Rowed.{starts}
use Rattle.tender.proofs.Tabled.{table_holds}
use Rattle.tender.proofs.AstarTabled.{astar_found, astar_no_stop}
use Rattle.tender.proofs.Records.{each_record}

refusal_bounded : (n p : ℕ) → Bounded (numbers_of (Answer.Refused n p))
refusal_bounded n p = record { cost = λ k. absurd (omega arith); floor = λ k. absurd (omega arith) }

searched_bounded : {f : Floor} {m : List ℕ} {q : Question} {r : Rooms} {a : Answer} {r' : Rooms} → Searched f m q r a r' → Bounded (numbers_of a)
searched_bounded (refused n p e b k) = rw b (refusal_bounded n p)
searched_bounded {f} {m} {q} {r} (passed p x) =
    let table = (table_holds x p).3 in
    let bound = least_cost_bound f m (question_passed f m q.start q.goal (search_question f m q r p)) q.start in
    record {
      cost = λ k. bound _ _ (starts x p) (table.found_number (table.found.0 k));
      floor = λ k. bound _ _ (starts x p) (table.stopped_number (table.stopped.0 k)).2;
    }

astar_bounded : {f : Floor} {m : List ℕ} {start goal : ℕ} {r : Rooms} {a : Answer} {r' : Rooms} → Aimed f m start goal r a r' → Bounded (numbers_of a)
astar_bounded {f} {m} {start} {goal} {r} x = record {
  cost = λ k. let y = astar_found x k in least_cost_bound f m y.0 start _ _ y.1 y.2;
  floor = λ k. absurd (astar_no_stop x k);
}

pub both_cells : BothCells
both_cells = record {
  costs = λ f m v d w c e. omega (arith, step_costs f m v d e);
  back = λ f m v d w c e. there_and_back f m v d e;
  between = λ f m p v d w c e. step_between f m p v d e;
  sums = λ f m v d w c ds e. subst (λ (n : ℕ). length_of f m v (d ∷ ds) ≡ plus (step_length d n) (length_of f m w ds)) (omega arith) (length_step f m v d ds e);
  route = cost_parts;
  search = λ f m q r a r' x. searched_bounded x;
  call = λ f m q r n r' x. rw x.numbers (searched_bounded x.searched);
  records = λ f m bytes r k bytes' r' x i h.
      let y = each_record (λ f m q n room. Bounded n) (λ f m q r a r' x. searched_bounded x) (λ f m q n p room. refusal_bounded n p) f m bytes r k bytes' r' x i h in
      (y.0, y.1, y.2.1);
  astar = λ f m start goal r a r' x. astar_bounded x;
  astar_call = λ f m start goal r n r' x. rw x.numbers (astar_bounded x.aimed);
}
