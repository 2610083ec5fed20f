-- The two sums: a found answer's P and Q are its route's, so that its cost is 70 P + 99 Q and the third condition speaks of them; they are small, and a record's bytes give them back.
use mathlib.Core.Path.{◌≡◌, sym, ◌∙◌, ap, subst}
use mathlib.Core.Logic.{◌≢◌}
use mathlib.Core.List.{List}
use Prim.Native.Nat.{ℕ, ◌+◌, ◌*◌, ◌≤◌}
use native.Mathlib.Decide.{ℕ_discrete}
use native.Mathlib.Omega.{arith}
use lib.Dec.{T}
use lib.ListN.{take}
use Rattle.floor.specs.declared.Floor.{Floor}
use Rattle.floor.specs.Length.{Surd, at_most, times, squared}
use Rattle.floor.specs.Step.{greatest_cost}
use Rattle.floor.proofs.Lengths.{cost_parts}
use Rattle.answering.specs.Answer.{Answer, Found, None, Stopped}
use Rattle.answering.specs.declared.AnswerNumbers.{AnswerNumbers}
use Rattle.answering.specs.Answers.{numbers_of}
use Rattle.answering.specs.Rooms.{Rooms}
use Rattle.answering.specs.declared.Question.{Question}
use Rattle.search.specs.Search.{Searched}
use Rattle.astar.specs.Astar.{Aimed}
use Rattle.recordlayout.specs.Record.{record_for, answer_in}
use Rattle.recordlayout.proofs.Records.{number_back}
use Rattle.logentries.proofs.Answers.{last_byte_wrong, sums_wrong, sums_untested}
use Rattle.tender.specs.BothCells.{Bounded}
use Rattle.tender.specs.ThirdCondition.{twice_square, Measured}
use Rattle.tender.specs.Sums.{SumsTell, TwoSums}
use Rattle.tender.proofs.Rowed.{FoundWay, found_route}
use Rattle.tender.proofs.BothCellsHold.{both_cells}
use Rattle.tender.proofs.ThirdHolds.{third_condition}
use Rattle.tender.proofs.AstarTabled.{astar_way}
use Rattle.tender.proofs.Records.{each_record}

-- they are 0 for every other answer
none_summed : (a : Answer) → (numbers_of a).kind ≢ 1 → ((numbers_of a).p ≡ 0) × ((numbers_of a).q ≡ 0)
none_summed (Answer.Refused n p) o = (omega arith, omega arith)
none_summed (Found s c l) o = absurd (o (omega arith))
none_summed (None s) o = (omega arith, omega arith)
none_summed (Stopped s c) o = (omega arith, omega arith)

module _ {f : Floor} {m : List ℕ} {start goal : ℕ} {n : AnswerNumbers} {room : List ℕ} (way : n.kind ≡ 1 → FoundWay f m start goal n room)
    (measured : Measured f m start goal n room) (bounded : Bounded n) (none : n.kind ≢ 1 → (n.p ≡ 0) × (n.q ≡ 0)) where
  cost_sums : n.kind ≡ 1 → n.number ≡ 70 * n.p + 99 * n.q
  cost_sums k =
      let y = way k in
      let parts = cost_parts f m start (take n.length room) y.first.route.allowed in
      omega (arith, y.cost, parts, ap (λ (s : Surd). s.whole) y.sums, ap (λ (s : Surd). s.root) y.sums)

  sums_bounded : 70 * n.p + 99 * n.q ≤ greatest_cost
  sums_bounded = elim (ℕ_discrete n.kind 1) [
    | yes k ↦ omega (arith, cost_sums k, bounded.cost k)
    | no o ↦ omega (arith, (none o).0, (none o).1)
  ]

  sums_tell : SumsTell n
  sums_tell = record {
    cost = cost_sums;
    above = λ k. subst (λ (s : Surd). T (at_most (times 9800 (squared s)) (twice_square n.number))) (sym (measured.sums k)) (measured.cost_above k);
    below = λ k. subst (λ (s : Surd). T (at_most (twice_square n.number) (times 9801 (squared s)))) (sym (measured.sums k)) (measured.cost_below k);
    others = none;
    bounded = sums_bounded;
  }

of_search : {f : Floor} {m : List ℕ} {q : Question} {r : Rooms} {a : Answer} {r' : Rooms} → Searched f m q r a r' → SumsTell (numbers_of a)
of_search {f} {m} {q} {r} {a} {r'} x =
    sums_tell (found_route x) (third_condition.search f m q r a r' x) (both_cells.search f m q r a r' x) (none_summed a)

of_astar : {f : Floor} {m : List ℕ} {start goal : ℕ} {r : Rooms} {a : Answer} {r' : Rooms} → Aimed f m start goal r a r' → SumsTell (numbers_of a)
of_astar {f} {m} {start} {goal} {r} {a} {r'} x =
    sums_tell (astar_way x) (third_condition.astar f m start goal r a r' x) (both_cells.astar f m start goal r a r' x) (none_summed a)

of_refusal : (n p : ℕ) → SumsTell (numbers_of (Answer.Refused n p))
of_refusal n p = record {
  cost = λ k. absurd (omega arith);
  above = λ k. absurd (omega arith);
  below = λ k. absurd (omega arith);
  others = none_summed (Answer.Refused n p);
  bounded = omega arith;
}

-- what is told of numbers is told of others that are the same where it looks
told_too : {n k : AnswerNumbers} → k.kind ≡ n.kind → k.p ≡ n.p → k.q ≡ n.q → (n.kind ≡ 1 → k.number ≡ n.number) → SumsTell n → SumsTell k
told_too {n} {k} e p q c t = record {
  cost = λ i. let j = sym e ∙ i in omega (arith, t.cost j, c j, p, q);
  above = λ i. let j = sym e ∙ i in rw (p, q, c j) (t.above j);
  below = λ i. let j = sym e ∙ i in rw (p, q, c j) (t.below j);
  others = λ o. let z = t.others (λ i. o (e ∙ i)) in (p ∙ z.0, q ∙ z.1);
  bounded = rw (p, q) t.bounded;
}

record_tells : (n : AnswerNumbers) → SumsTell n → SumsTell (answer_in (record_for n))
unfolding answer_in
record_tells n t =
    told_too (omega arith) (number_back n.p (omega (arith, t.bounded))) (number_back n.q (omega (arith, t.bounded)))
    (λ k. number_back n.number (omega (arith, t.bounded, t.cost k))) t

-- P and Q in the answer
pub two_sums : TwoSums
two_sums = record {
  search = λ f m q r a r' x. of_search x;
  call = λ f m q r n r' x. rw x.numbers (of_search x.searched);
  records = λ f m bytes r k bytes' r' x i h.
      let y = each_record (λ f m q n room. SumsTell n) (λ f m q r a r' x. of_search x) (λ f m q n p room. of_refusal n p) f m bytes r k bytes' r' x i h in
      rw y.1 (record_tells y.0 y.2.1);
  astar = λ f m start goal r a r' x. of_astar x;
  astar_call = λ f m start goal r n r' x. rw x.numbers (of_astar x.aimed);
  eight_zeros = λ a i h n. last_byte_wrong a i n;
  no_sums = sums_wrong;
  untested = sums_untested;
}
