-- Which answers of kind 1 to 3 can be logged, test by test, in the order in which the code tries them; and R-6's words about all of them, from what an answer
-- that can be logged has.
use mathlib.Core.Path.{◌≡◌, refl, sym, ◌∙◌, subst}
use mathlib.Core.Logic.{◌≢◌, ◌⊎◌, inl, inr, ⊎_elim}
use mathlib.Core.Bool.{Bool, true, false, cond, not, ◌&&◌}
use mathlib.Core.List.{List}
use Prim.Native.Nat.{ℕ, ◌+◌, ◌≤◌}
use native.Mathlib.Omega.{arith}
use borrow.Author.Tests.{eqb-true, ne_eqb}
use lib.Dec.{T, eqb, leb, leb→le, eqb→eq}
use lib.ListN.{get_or, take, drop}
use lib.Seq.{get_or-drop}
use Rattle.paths.specs.Graph.{MARK}
use Rattle.paths.proofs.Bools.{not_T_false, T_and, and_T, eq_T}
use Rattle.floor.specs.declared.RouteLength.{RouteLength}
use Rattle.answering.specs.Answer.{Found}
use Rattle.answering.specs.declared.AnswerNumbers.{AnswerNumbers}
use Rattle.recordlayout.specs.Record.{all_zero, ends_in_eight_zeros, record_of, answer_in}
use Rattle.recordlayout.proofs.Zeros.{zero_at}
use Rattle.logentries.specs.Entry.{greatest_length, refusal_fits, no_route, kind_fits, can_be_logged, steps_in}

module _ (a : List ℕ) {n : AnswerNumbers} (read : n ≡ answer_in a) where
  module _ (answered : n.kind ≢ 0) where
    other_kind : (answer_in a).kind ≢ 0
    other_kind = rw read at answered

    pub no_zeros : all_zero (take 3 (drop 1 a)) ≡ false → can_be_logged a ≡ false
    unfolding can_be_logged
    no_zeros e = rw (ne_eqb (answer_in a).kind 0 other_kind, e)

    module _ (zeros : all_zero (take 3 (drop 1 a)) ≡ true) where
      pub no_end_zeros : ends_in_eight_zeros a ≡ false → can_be_logged a ≡ false
      unfolding can_be_logged
      no_end_zeros e = rw (ne_eqb (answer_in a).kind 0 other_kind, zeros, e)

      pub by_kind : ends_in_eight_zeros a ≡ true → can_be_logged a ≡ kind_fits n
      unfolding can_be_logged
      by_kind e = rw (ne_eqb (answer_in a).kind 0 other_kind, zeros, e, ← read)

-- an answer of kind 1 to 3 is found, with up to 4,095 directions, or has no route
kind_route : (n : AnswerNumbers) → T (kind_fits n) → ((n.kind ≡ 1) × (n.length ≤ greatest_length)) ⊎ T (no_route n)
unfolding kind_fits
kind_route n = go (eqb n.kind 1) refl (eqb n.kind 2) (eqb n.kind 3)
  where
    go : (k₁ : Bool) → eqb n.kind 1 ≡ k₁ → (k₂ k₃ : Bool)
        → T
        (cond k₁ (not (eqb n.number MARK) && leb n.length greatest_length)
        (cond k₂ (eqb n.number MARK && no_route n) (cond k₃ (not (eqb n.number MARK) && no_route n) false)))
        → ((n.kind ≡ 1) × (n.length ≤ greatest_length)) ⊎ T (no_route n)
    go true e k₂ k₃ t = inl (eqb-true n.kind 1 e, leb→le n.length greatest_length (T_and (not (eqb n.number MARK)) (leb n.length greatest_length) t).1)
    go false e true k₃ t = inr (T_and (eqb n.number MARK) (no_route n) t).1
    go false e false true t = inr (T_and (not (eqb n.number MARK)) (no_route n) t).1
    go false e false false t = absurd t

module _ (a : List ℕ) (logged : T (can_be_logged a)) where
  after_refusal : T (all_zero (drop 2 a)) → (i : ℕ) → get_or a (2 + i) 0 ≡ 0
  after_refusal z i = sym (get_or-drop 2 a i 0) ∙ zero_at (drop 2 a) i z

  -- and so any answer that can be logged is found, with up to 4,095 directions, or has no route
  routes_of : (((answer_in a).kind ≡ 1) × (steps_in a ≤ greatest_length)) ⊎ T (no_route (answer_in a))
  unfolding can_be_logged answer_in
  routes_of = go (eqb (answer_in a).kind 0) logged
    where
      zeros : T (all_zero (drop 2 a)) → T (no_route (answer_in a))
      zeros z =
          let at = after_refusal z in
          and_T (eqb (answer_in a).length 0) (eqb (answer_in a).p 0 && eqb (answer_in a).q 0)
          (eq_T (answer_in a).length 0 (omega (arith, at 10, at 11, at 12, at 13)))
          (and_T (eqb (answer_in a).p 0) (eqb (answer_in a).q 0) (eq_T (answer_in a).p 0 (omega (arith, at 14, at 15, at 16, at 17)))
          (eq_T (answer_in a).q 0 (omega (arith, at 18, at 19, at 20, at 21))))

      go : (k : Bool)
          → T (cond k (refusal_fits (answer_in a).refusal && all_zero (drop 2 a)) (all_zero (take 3 (drop 1 a)) && (ends_in_eight_zeros a && kind_fits (answer_in a))))
          → (((answer_in a).kind ≡ 1) × (steps_in a ≤ greatest_length)) ⊎ T (no_route (answer_in a))
      go true t = inr (zeros (T_and (refusal_fits (answer_in a).refusal) (all_zero (drop 2 a)) t).1)
      go false t =
          kind_route (answer_in a)
          (T_and (ends_in_eight_zeros a) (kind_fits (answer_in a)) (T_and (all_zero (take 3 (drop 1 a))) (ends_in_eight_zeros a && kind_fits (answer_in a)) t).1).1

  -- its last eight bytes are 0
  last_zeros : (i : ℕ) → get_or a (24 + i) 0 ≡ 0
  unfolding can_be_logged
  last_zeros i = go (eqb (answer_in a).kind 0) logged
    where
      further : 2 + (22 + i) ≡ 24 + i
      further = omega arith

      go : (k : Bool)
          → T (cond k (refusal_fits (answer_in a).refusal && all_zero (drop 2 a)) (all_zero (take 3 (drop 1 a)) && (ends_in_eight_zeros a && kind_fits (answer_in a))))
          → get_or a (24 + i) 0 ≡ 0
      go true t =
          subst (λ (at : ℕ). get_or a at 0 ≡ 0) further (after_refusal (T_and (refusal_fits (answer_in a).refusal) (all_zero (drop 2 a)) t).1 (22 + i))
      go false t =
          let ends = (T_and (ends_in_eight_zeros a) (kind_fits (answer_in a)) (T_and (all_zero (take 3 (drop 1 a))) (ends_in_eight_zeros a && kind_fits (answer_in a)) t).1).0 in
          sym (get_or-drop 24 a i 0) ∙ zero_at (drop 24 a) i ends

  pub steps_of : (((answer_in a).kind ≡ 1) × (steps_in a ≤ greatest_length)) ⊎ (steps_in a ≡ 0)
  steps_of = ⊎_elim inl (λ none. inr (eqb→eq (steps_in a) 0 (T_and (eqb (steps_in a) 0) (eqb (answer_in a).p 0 && eqb (answer_in a).q 0) none).0)) routes_of

-- R-6's words: what makes an answer one that can't be logged
pub last_byte_wrong : (a : List ℕ) (i : ℕ) → get_or a (24 + i) 0 ≢ 0 → can_be_logged a ≡ false
last_byte_wrong a i n = not_T_false (can_be_logged a) (λ t. n (last_zeros a t i))

pub sums_wrong : (a : List ℕ) → (answer_in a).kind ≢ 1 → ((answer_in a).p ≢ 0) ⊎ ((answer_in a).q ≢ 0) → can_be_logged a ≡ false
sums_wrong a other wrong =
    not_T_false (can_be_logged a)
    (λ t.
    ⊎_elim (λ found. other found.0)
    (λ none.
    let sums = T_and (eqb (answer_in a).p 0) (eqb (answer_in a).q 0) (T_and (eqb (answer_in a).length 0) (eqb (answer_in a).p 0 && eqb (answer_in a).q 0) none).1 in
    ⊎_elim (λ n. n (eqb→eq (answer_in a).p 0 sums.0)) (λ n. n (eqb→eq (answer_in a).q 0 sums.1)) wrong)
    (routes_of a t))

-- "P and Q aren't tested against the cost"
pub sums_untested : (s c : ℕ) (l k : RouteLength) → l.steps ≡ k.steps → can_be_logged (record_of (Found s c l)) ≡ can_be_logged (record_of (Found s c k))
unfolding record_of answer_in can_be_logged kind_fits
sums_untested s c l k e = rw e

pub steps_few : (a : List ℕ) → T (can_be_logged a) → steps_in a ≤ greatest_length
steps_few a t = ⊎_elim (λ found. found.1) (λ none. omega arith) (steps_of a t)

-- any count of directions but 0 is wrong if the answer is not found
pub no_steps : (a : List ℕ) → T (can_be_logged a) → (answer_in a).kind ≢ 1 → steps_in a ≡ 0
no_steps a t other = ⊎_elim (λ found. absurd (other found.0)) (λ none. none) (steps_of a t)
