-- With no cost for the goal the costs are the right table, else they are right up to the goal's; every settled cell is there, so both tables give the same.
use mathlib.Core.Path.{◌≡◌, refl, sym, ◌∙◌, ap, subst}
use mathlib.Core.Logic.{◌≢◌, ◌⊎◌, inl, inr, ⊎_elim}
use mathlib.Core.Bool.{Bool, true, false, cond, not, ◌||◌}
use mathlib.Core.List.{List}
use Prim.Native.Nat.{ℕ, ◌+◌, ◌≤◌, ◌<◌}
use native.Mathlib.Omega.{arith}
use native.Mathlib.Decide.{ℕ_discrete}
use lib.Dec.{T, leb, leb→le, le→leb, T_not}
use lib.ListN.{length, get_or}
use lib.Seq.{ext_get_or}
use Rattle.paths.specs.Graph.{Graph, Lawful, MARK}
use Rattle.paths.specs.Table.{Right}
use Rattle.settling.specs.Order.{known}
use Rattle.settling.specs.Wave.{occ}
use Rattle.settling.specs.Estimate.{Consistent, AgreeBy, Near}
use Rattle.settling.specs.Spread.{Stepping, SpreadEnds}
use Rattle.settling.specs.Aimed.{is_settled, settled_count, settled_costs, aimed_of}
use Rattle.paths.proofs.Bools.{T_true, not_T_false, same_test, dec_T, and_T, T_and, T-or}
use Rattle.paths.proofs.Below.{count_same, values_same}
use Rattle.settling.proofs.Orders.{known_is, is_known}
use Rattle.settling.proofs.Walking.{first_same}
use Rattle.settling.proofs.Spreads.{there, back}

-- what the test of a settled cell says
pub record Settled (h : ℕ → ℕ) (t : List ℕ) (goal v : ℕ) : Type 0 where
  pub known : get_or t v 0 ≢ MARK
  pub within : get_or t goal 0 ≢ MARK → get_or t v 0 + h v ≤ get_or t goal 0

module _ (h : ℕ → ℕ) (t : List ℕ) (goal v : ℕ) where
  pub settled_is : T (is_settled h t goal v) → Settled h t goal v
  unfolding is_settled
  settled_is k =
      let x = T_and (known t v) (not (known t goal) || leb (get_or t v 0 + h v) (get_or t goal 0)) k in
      record {
        known = known_is t v x.0;
        within = λ m. ⊎_elim (λ n. absurd (T_not (known t goal) n (is_known t goal m))) (leb→le (get_or t v 0 + h v) (get_or t goal 0))
            (T-or (not (known t goal)) (leb (get_or t v 0 + h v) (get_or t goal 0)) x.1);
      }

  pub is_settled_lem : Settled h t goal v → T (is_settled h t goal v)
  unfolding is_settled
  is_settled_lem x =
      and_T (known t v) (not (known t goal) || leb (get_or t v 0 + h v) (get_or t goal 0)) (is_known t v x.known) (go (dec_T (known t goal)))
    where
      go : Dec (T (known t goal)) → T (not (known t goal) || leb (get_or t v 0 + h v) (get_or t goal 0))
      go (yes k) = rw (T_true (known t goal) k) (le→leb (get_or t v 0 + h v) (get_or t goal 0) (x.within (known_is t goal k)))
      go (no k) = rw (not_T_false (known t goal) k) tt

-- no least cost reaches MARK: where the graph is lawful, by value_fits
module _ {g : Graph} (st : Stepping g) (s : ℕ) (start : s < g.cells) (h : ℕ → ℕ) (con : Consistent g h) (goal : ℕ) (inside : goal < g.cells) (home : h goal ≡ 0)
    {costs : List ℕ} (e : SpreadEnds g s h goal costs) (t : List ℕ) (right : Right g s t)
    (fits : (v : ℕ) → v < g.cells → get_or t v 0 ≢ MARK → get_or t v 0 < MARK) where
  pub same_length : length costs ≡ length t
  same_length = e.spread.covers ∙ sym right.covers

  -- up to any sum that no listed cell has the costs are the right ones
  agree_to : (top : ℕ) → ((v : ℕ) → 1 ≤ occ v e.list → top < get_or costs v 0 + h v) → AgreeBy g h top t costs
  agree_to top above = record {
    there = there st s e.spread h con top above start t right;
    back = λ v i m. back st s e.spread h con top above start t right v i (fits v i m);
  }

  pub agrees : AgreeBy g h (get_or costs goal 0) t costs
  agrees = agree_to (get_or costs goal 0) e.beyond

  pub near : get_or costs goal 0 ≢ MARK → Near h (get_or costs goal 0) costs goal
  near m = record { known = m; within = omega (arith, home) }

  all_right : get_or costs goal 0 ≡ MARK → costs ≡ t
  all_right z = ext_get_or 0 costs t same_length λ v l.
      let i : v < g.cells = omega (arith, e.spread.covers) in
      go v i (ℕ_discrete (get_or costs v 0) MARK) (ℕ_discrete (get_or t v 0) MARK)
    where
      all : (top : ℕ) → AgreeBy g h top t costs
      all top = agree_to top (λ v l. absurd (e.known v l z))

      go : (v : ℕ) → v < g.cells → Dec (get_or costs v 0 ≡ MARK) → Dec (get_or t v 0 ≡ MARK) → get_or costs v 0 ≡ get_or t v 0
      go v i (yes p) (yes q) = p ∙ sym q
      go v i (no p) q = sym ((all (get_or costs v 0 + h v)).there v i p (omega arith))
      go v i (yes p) (no q) = (all (get_or t v 0 + h v)).back v i q (omega arith)

  ways : (costs ≡ t) ⊎ (get_or costs goal 0 ≢ MARK)
  ways = go (ℕ_discrete (get_or costs goal 0) MARK)
    where
      go : Dec (get_or costs goal 0 ≡ MARK) → (costs ≡ t) ⊎ (get_or costs goal 0 ≢ MARK)
      go (yes z) = inl (all_right z)
      go (no m) = inr m

  pub goal_same : get_or costs goal 0 ≡ get_or t goal 0
  goal_same = ⊎_elim (ap (λ (l : List ℕ). get_or l goal 0)) (λ m. sym (agrees.there goal inside m (near m).within)) ways

  module _ (v : ℕ) (i : v < g.cells) where
    -- a cell that is settled by one of the two has the same cost in both
    pub settled_right : T (is_settled h costs goal v) → get_or t v 0 ≡ get_or costs v 0
    settled_right k =
        let x = settled_is h costs goal v k in
        ⊎_elim (λ q. ap (λ (l : List ℕ). get_or l v 0) (sym q)) (λ m. agrees.there v i x.known (x.within m)) ways

    pub right_settled : T (is_settled h t goal v) → get_or costs v 0 ≡ get_or t v 0
    right_settled k =
        let x = settled_is h t goal v k in
        ⊎_elim (ap (λ (l : List ℕ). get_or l v 0)) (λ m. agrees.back v i x.known (omega (arith, goal_same, x.within (λ z. m (goal_same ∙ z))))) ways

    pub settled_same : is_settled h costs goal v ≡ is_settled h t goal v
    settled_same = same_test (is_settled h costs goal v) (is_settled h t goal v)
        (λ k. too costs t (sym goal_same) (settled_right k) k) (λ k. too t costs goal_same (right_settled k) k)
      where
        too : (a b : List ℕ) → get_or b goal 0 ≡ get_or a goal 0 → get_or b v 0 ≡ get_or a v 0 → T (is_settled h a goal v) → T (is_settled h b goal v)
        too a b p q k =
            let x = settled_is h a goal v k in
            is_settled_lem h b goal v (record { known = λ z. x.known (sym q ∙ z); within = λ m. omega (arith, p, q, x.within (λ z. m (p ∙ z))) })

    left_same : cond (is_settled h costs goal v) (get_or costs v 0) MARK ≡ cond (is_settled h t goal v) (get_or t v 0) MARK
    left_same = rw settled_same (go (is_settled h t goal v) right_settled)
      where
        go : (b : Bool) → (T b → get_or costs v 0 ≡ get_or t v 0) → cond b (get_or costs v 0) MARK ≡ cond b (get_or t v 0) MARK
        go true q = q tt
        go false q = refl

  pub count_settled : settled_count h costs goal ≡ settled_count h t goal
  unfolding settled_count
  count_settled =
      rw (e.spread.covers, right.covers)
      (count_same (is_settled h costs goal) (is_settled h t goal) g.cells
      (λ v i. subst T (settled_same v i)) (λ v i. subst T (sym (settled_same v i))))

  pub costs_settled : settled_costs h costs goal ≡ settled_costs h t goal
  unfolding settled_costs
  costs_settled =
      rw (e.spread.covers, right.covers)
      (values_same (λ v. cond (is_settled h costs goal v) (get_or costs v 0) MARK) (λ v. cond (is_settled h t goal v) (get_or t v 0) MARK) g.cells left_same)

  -- so the answer is the one from the right table
  pub aimed_same : {least most : ℕ} → Lawful g least most → aimed_of g s costs h goal ≡ aimed_of g s t h goal
  unfolding aimed_of
  aimed_same law = ⊎_elim (ap (λ (l : List ℕ). aimed_of g s l h goal)) found ways
    where
      found : get_or costs goal 0 ≢ MARK → aimed_of g s costs h goal ≡ aimed_of g s t h goal
      found m =
          let n : get_or t goal 0 ≢ MARK = λ z. m (goal_same ∙ z) in
          let r = first_same law s h con (get_or costs goal 0) start t right costs agrees goal inside (record { known = n; within = omega (arith, goal_same, home) }) in
          rw (T_true (known costs goal) (is_known costs goal m), T_true (known t goal) (is_known t goal n), count_settled, goal_same, r)
