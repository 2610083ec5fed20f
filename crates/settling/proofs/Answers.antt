-- The answer from a wave's costs: the walk back meets only costs below the bound, where they are the right ones, and L's places are ranks.
use mathlib.Core.Path.{◌≡◌, refl, sym, ◌∙◌}
use mathlib.Core.Bool.{cond, and-false}
use mathlib.Core.List.{List, []}
use Prim.Native.Nat.{ℕ, suc, ◌-◌, ◌*◌, ◌≤◌, ◌<◌}
use native.Mathlib.Omega.{arith}
use native.Mathlib.Decide.{dec_lt}
use native.Mathlib.Numerals.{add-one}
use borrow.Author.Tests.{lt-ltb, le-ltb, lt-leb, le-leb, eq-eqb}
use lib.Dec.{T, eqb, ltb, ltb→lt, lt→ltb}
use lib.ListN.{length, get_or}
use lib.Seq.{ext_get_or}
use Rattle.paths.specs.Below.{values}
use Rattle.paths.specs.Graph.{Graph, Lawful, MARK}
use Rattle.paths.specs.Table.{Right}
use Rattle.paths.specs.First.{first_route}
use Rattle.settling.specs.Order.{key, known, L, place}
use Rattle.settling.specs.Answer.{Kind, answer_of, costs_left}
use Rattle.settling.specs.Cut.{cheaper_than, rank, cut, Agree}
use Rattle.paths.proofs.Bools.{dec_T}
use Rattle.paths.proofs.Below.{count_same, length_values, get_d_values}
use Rattle.settling.proofs.Orders.{known_is, is_known, known_in, in_known, length_sorted, place_in, place_absent}
use Rattle.settling.proofs.Waves.{value_fits}
use Rattle.settling.proofs.Cuts.{key_from, place_rank, place_late, rank_suc, left_cut, Next, next_cell}
use Rattle.settling.proofs.Walking.{first_same, plain, agree_plain, near_plain}

module _ {g : Graph} {least most : ℕ} (law : Lawful g least most) (s : ℕ) where
  module _ (i : s < g.cells) (t : List ℕ) (right : Right g s t) (costs : List ℕ) (bound : ℕ) (a : Agree t costs bound) (top : bound ≤ MARK) where
    pub few : length t ≤ MARK
    few = omega (arith, right.covers, law.cells_fit)

    module _ (goal limit : ℕ) (inside : goal < g.cells) where
      goal_in : goal < length t
      goal_in = omega (arith, right.covers)

      -- the goal is below the bound, and fewer cells than the limit come before it
      module _ (below : get_or costs goal 0 < bound) (within : rank costs (key costs goal) < limit) where
        pub answer_found : answer_of g s t goal limit
            ≡ record { kind = Kind.found; settled = suc (rank costs (key costs goal)); number = get_or costs goal 0; route = first_route g s costs goal }
        unfolding answer_of
        answer_found =
            let e : get_or t goal 0 ≡ get_or costs goal 0 = a.there goal goal_in below in
            let r = first_same law s (λ v. 0) (plain g) (bound - 1) i t right costs (agree_plain right.covers top (omega arith) a) goal inside (near_plain top (omega arith)) in
            let p = place_rank t costs bound a top few goal goal_in below in
            let q = place_in goal (L t) (known_in t goal (length t) goal_in (is_known t goal (omega arith))) in
            rw (lt-ltb (place goal (L t)) (length (L t)) q, lt-ltb (place goal (L t)) limit (omega arith), add-one (place goal (L t)), p, e, r)

        pub left_found : costs_left t (suc (rank costs (key costs goal))) ≡ cut costs (suc (key costs goal))
        unfolding key
        left_found = rw (← rank_suc t costs bound a top few goal goal_in) (left_cut t costs bound a top few (suc (key costs goal)) (omega (arith, few)))

      -- the limit falls before some cell below the bound, and the goal comes no sooner
      module _ (k : ℕ) (fits : k < bound * 4294967296) (from : rank costs k ≤ limit) (past : limit < rank costs (suc k))
          (later : get_or costs goal 0 < bound → limit ≤ rank costs (key costs goal)) where
        abbrev pub next : Next t costs bound a top few k limit
        next = next_cell t costs bound a top few k limit fits from past

        not_before : limit ≤ place goal (L t)
        not_before = go (dec_lt (get_or costs goal 0) bound)
          where
            go : Dec (get_or costs goal 0 < bound) → limit ≤ place goal (L t)
            go (yes b) = omega (arith, place_rank t costs bound a top few goal goal_in b, later b)
            go (no b) =
                let f = key_from costs goal bound (omega arith) in
                omega (arith, place_late t costs bound a top few (suc k) (omega arith) goal goal_in (λ m. omega arith))

        pub answer_stopped : answer_of g s t goal limit ≡ record { kind = Kind.stopped; settled = limit; number = get_or costs next.cell 0; route = [] }
        unfolding answer_of
        answer_stopped =
            let i = place goal (L t) in
            let n = length (L t) in
            rw (le-ltb i limit not_before, and-false (ltb i n), lt-leb n limit next.short, and-false (eqb i n), next.next, next.cost)

        pub left_stopped : costs_left t limit ≡ cut costs k
        left_stopped = rw (← next.ranks) (left_cut t costs bound a top few k (omega arith))

  -- every cell that can be reached is settled, and the goal is none of them
  module _ (i : s < g.cells) (t : List ℕ) (right : Right g s t) (costs : List ℕ) (a : Agree t costs MARK) (small : (v : ℕ) → get_or costs v 0 ≤ MARK) where
    known_below : (v : ℕ) → v < length t → T (known t v) → get_or t v 0 < MARK
    known_below v h k = value_fits law s i t right v (omega (arith, right.covers)) (known_is t v k)

    known_costs : (v : ℕ) → v < length t → T (known t v) → get_or costs v 0 ≡ get_or t v 0
    known_costs v h k = a.back v h (known_below v h k)

    costs_known : (v : ℕ) → v < length t → get_or costs v 0 < MARK → T (known t v)
    costs_known v h l = is_known t v (omega (arith, a.there v h l))

    all_settled : length (L t) ≡ cheaper_than costs MARK
    unfolding cheaper_than
    all_settled = rw a.lengths
        (length_sorted t (length t)
        ∙ count_same (known t) (λ v. ltb (get_or costs v 0) MARK) (length t)
        (λ v h k. lt→ltb (get_or costs v 0) MARK (omega (arith, known_costs v h k, known_below v h k)))
        (λ v h k. costs_known v h (ltb→lt (get_or costs v 0) MARK k)))

    module _ (goal limit : ℕ) (inside : goal < g.cells) (unseen : get_or costs goal 0 ≡ MARK) (covered : cheaper_than costs MARK ≤ limit) where
      absent : place goal (L t) ≡ length (L t)
      absent = place_absent goal (L t) (λ m.
          let k = in_known t goal (length t) m in
          omega (arith, known_costs goal k.0 k.1, known_below goal k.0 k.1))

      pub answer_none : answer_of g s t goal limit ≡ record { kind = Kind.none; settled = cheaper_than costs MARK; number = MARK; route = [] }
      unfolding answer_of
      answer_none =
          let n = length (L t) in
          rw (absent, le-ltb n n (omega arith), eq-eqb n n refl, le-leb n limit (omega (arith, all_settled)), all_settled)

    pub left_none : costs_left t (cheaper_than costs MARK) ≡ costs
    unfolding costs_left
    left_none = rw (← all_settled)
        (ext_get_or 0 (values left (length t)) costs (length_values left (length t) ∙ sym a.lengths)
        (λ v h. let j : v < length t = omega (arith, length_values left (length t)) in get_d_values left (length t) v j ∙ same v j (dec_T (known t v))))
      where
        left : ℕ → ℕ
        left v = cond (ltb (place v (L t)) (length (L t))) (get_or t v 0) MARK

        same : (v : ℕ) → v < length t → Dec (T (known t v)) → cond (ltb (place v (L t)) (length (L t))) (get_or t v 0) MARK ≡ get_or costs v 0
        same v h (yes k) = rw (lt-ltb (place v (L t)) (length (L t)) (place_in v (L t) (known_in t v (length t) h k))) (sym (known_costs v h k))
        same v h (no k) = rw (le-ltb (place v (L t)) (length (L t)) (omega (arith, place_absent v (L t) (λ m. k (in_known t v (length t) m).1))))
            (unknown v h k (dec_lt (get_or costs v 0) MARK))
          where
            unknown : (v : ℕ) → v < length t → (T (known t v) → ⊥) → Dec (get_or costs v 0 < MARK) → MARK ≡ get_or costs v 0
            unknown v h k (yes l) = absurd (k (costs_known v h l))
            unknown v h k (no l) = omega (arith, small v)
