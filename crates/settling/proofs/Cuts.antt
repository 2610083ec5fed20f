-- From a wave to the answer: its costs agree with the right table below the bound, so keys there rank the cells as L does, and L's places are counts.
use mathlib.Core.Path.{◌≡◌, sym, ◌∙◌, ap, subst}
use mathlib.Core.Logic.{◌≢◌}
use mathlib.Core.Bool.{Bool, cond, ◌&&◌}
use mathlib.Core.List.{List, []}
use Prim.Native.Nat.{ℕ, suc, ◌*◌, ◌/◌, ◌≤◌, ◌<◌}
use native.Mathlib.Omega.{arith}
use native.Mathlib.Decide.{dec_lt}
use borrow.Author.Tests.{lt-ltb, le-ltb}
use lib.Arith.{digits_div}
use lib.Dec.{T, ltb, ltb→lt, lt→ltb}
use lib.ListN.{length, get_or}
use Rattle.paths.specs.Below.{count}
use Rattle.paths.specs.Graph.{Graph, Lawful, MARK}
use Rattle.paths.specs.Route.{cost_of, Route}
use Rattle.paths.specs.Table.{Right}
use Rattle.settling.specs.Order.{key, known, L, place}
use Rattle.settling.specs.Answer.{costs_left}
use Rattle.settling.specs.Wave.{Wave}
use Rattle.settling.specs.Cut.{cheaper_than, rank, cut, Agree}
use Rattle.paths.proofs.Bools.{dec_T, T_and, and_T}
use Rattle.paths.proofs.Below.{count_mono, count_strict, count_same, count_one_more, count_gap, values_same}
use Rattle.paths.proofs.Exists.{least_unique}
use Rattle.settling.proofs.Orders.{is_known, key_apart, place_in, place_absent, at_place, known_in, in_known, length_sorted, place_count}
use Rattle.settling.proofs.Waves.{below_least, reached, occ_none}

module _ {g : Graph} {least most : ℕ} (law : Lawful g least most) (s : ℕ) (t : List ℕ) (right : Right g s t) where
  -- a wave's costs are the right ones below its bound
  pub wave_agrees : {costs : List ℕ} {bound : ℕ} {waiting later : List ℕ} → Wave g least s costs bound waiting later → Agree t costs bound
  wave_agrees {costs} {bound} w = record {
    lengths = w.covers ∙ sym right.covers;
    there = λ v h b.
        let i : v < g.cells = omega (arith, right.covers) in
        let l = below_least law s w v i b in
        let m : get_or t v 0 ≢ MARK = λ e. right.closed v i e l.way l.route in
        least_unique g s v (get_or t v 0) (get_or costs v 0) (right.reached v i m) l;
    back = λ v h b.
        let i : v < g.cells = omega (arith, right.covers) in
        let l = right.reached v i (omega (arith, w.top)) in
        let a = w.reach v l.way l.route (omega (arith, l.costs)) in
        let r = w.sound v i (omega (arith, w.top, l.costs)) in
        omega (arith, l.none_less r.0 r.1, r.2, l.costs);
  }

  -- and right everywhere when no cell is open
  pub done_agrees : {costs : List ℕ} {bound : ℕ} → Wave g least s costs bound [] [] → Agree t costs MARK
  done_agrees {costs} w = record {
    lengths = w.covers ∙ sym right.covers;
    there = λ v h b.
        let i : v < g.cells = omega (arith, right.covers) in
        let r = w.sound v i (omega arith) in
        let l = right.reached v i (λ e. right.closed v i e r.0 r.1) in
        omega (arith, l.none_less r.0 r.1, r.2, l.costs, missed v l.way l.route (omega (arith, l.none_less r.0 r.1, r.2, l.costs)));
    back = λ v h b.
        let i : v < g.cells = omega (arith, right.covers) in
        let l = right.reached v i (omega arith) in
        let a = missed v l.way l.route (omega (arith, l.costs)) in
        let r = w.sound v i (omega (arith, l.costs)) in
        omega (arith, l.none_less r.0 r.1, r.2, l.costs);
  }
    where
      -- no route below MARK was missed
      missed : (v : ℕ) (ds : List ℕ) → Route g s v ds → cost_of g s ds < MARK → get_or costs v 0 ≤ cost_of g s ds
      missed v ds x b = reached law s w MARK (λ u m. absurd (omega (arith, occ_none u))) (omega arith) v ds x (omega arith)

-- the keys of a cost and above, and those below
pub key_from : (l : List ℕ) (v c : ℕ) → c ≤ get_or l v 0 → c * 4294967296 ≤ key l v
unfolding key
key_from l v c h = omega arith

pub key_to : (l : List ℕ) (v c : ℕ) → v ≤ MARK → get_or l v 0 < c → key l v < c * 4294967296
unfolding key
key_to l v c h b = omega arith

-- the cost in a key
pub key_cost : (l : List ℕ) (v : ℕ) → v ≤ MARK → key l v / 4294967296 ≡ get_or l v 0
unfolding key
key_cost l v h = digits_div (get_or l v 0) {m = 4294967296} (omega arith)

-- before a cost's first key come the cells of a smaller cost
pub rank_bound : (costs : List ℕ) → length costs ≤ MARK → (c : ℕ) → rank costs (c * 4294967296) ≡ cheaper_than costs c
unfolding rank cheaper_than key
rank_bound costs few c =
    count_same (λ v. ltb (key costs v) (c * 4294967296)) (λ v. ltb (get_or costs v 0) c) (length costs)
    (λ v h t. let l = ltb→lt (key costs v) (c * 4294967296) t in lt→ltb (get_or costs v 0) c (omega arith))
    (λ v h t. let l = ltb→lt (get_or costs v 0) c t in lt→ltb (key costs v) (c * 4294967296) (omega arith))

module _ (t costs : List ℕ) (bound : ℕ) (a : Agree t costs bound) (top : bound ≤ MARK) (few : length t ≤ MARK) where
  -- a key below a cost's keys belongs to a smaller cost, and back
  key_below_lem : (l : List ℕ) (v k : ℕ) → key l v < k → k ≤ bound * 4294967296 → get_or l v 0 < bound
  unfolding key
  key_below_lem l v k h b = omega arith

  same_key : (v : ℕ) → get_or t v 0 ≡ get_or costs v 0 → key t v ≡ key costs v
  unfolding key
  same_key v e = rw e

  -- the cells before a key are the same in both tables
  abbrev before : ℕ → ℕ → Bool
  before k u = known t u && ltb (key t u) k

  before_there : (k u : ℕ) → k ≤ bound * 4294967296 → u < length t → T (before k u) → T (ltb (key costs u) k)
  before_there k u b h p =
      let q = ltb→lt (key t u) k (T_and (known t u) (ltb (key t u) k) p).1 in
      let e = a.back u h (key_below_lem t u k q b) in
      lt→ltb (key costs u) k (omega (arith, same_key u (sym e)))

  before_back : (k u : ℕ) → k ≤ bound * 4294967296 → u < length t → T (ltb (key costs u) k) → T (before k u)
  before_back k u b h p =
      let q = ltb→lt (key costs u) k p in
      let l = key_below_lem costs u k q b in
      let e = a.there u h l in
      and_T (known t u) (ltb (key t u) k) (is_known t u (omega arith)) (lt→ltb (key t u) k (omega (arith, same_key u e)))

  pub rank_count : (k : ℕ) → k ≤ bound * 4294967296 → count (before k) (length t) ≡ rank costs k
  unfolding rank
  rank_count k b = rw a.lengths
      (count_same (before k) (λ u. ltb (key costs u) k) (length t) (λ u h. before_there k u b h) (λ u h. before_back k u b h))

  -- the place of a cell below the bound is its rank
  pub place_rank : (v : ℕ) → v < length t → get_or costs v 0 < bound → place v (L t) ≡ rank costs (key costs v)
  place_rank v h b =
      let e = a.there v h b in
      place_count t v (length t) few h (is_known t v (omega arith))
      ∙ ap (λ (k : ℕ). count (before k) (length t)) (same_key v e)
      ∙ rank_count (key costs v) (omega (arith, key_to costs v bound (omega arith) b))

  -- one more cell comes before the next key
  pub rank_suc : (v : ℕ) → v < length t → rank costs (suc (key costs v)) ≡ suc (rank costs (key costs v))
  unfolding rank
  rank_suc v h =
      let n = length costs in
      let i : v < n = omega (arith, a.lengths) in
      let more = count_strict (λ u. ltb (key costs u) (key costs v)) (λ u. ltb (key costs u) (suc (key costs v))) n
      (λ u l p. let q = ltb→lt (key costs u) (key costs v) p in lt→ltb (key costs u) (suc (key costs v)) (omega arith))
      v i (λ p. let q = ltb→lt (key costs v) (key costs v) p in omega arith) (lt→ltb (key costs v) (suc (key costs v)) (omega arith)) in
      let one = count_one_more (λ u. ltb (key costs u) (key costs v)) (λ u. ltb (key costs u) (suc (key costs v))) v n
      (λ u l e p. let q = ltb→lt (key costs u) (suc (key costs v)) p in
      lt→ltb (key costs u) (key costs v) (omega (arith, key_apart costs u v e (omega (arith, a.lengths)) (omega arith)))) in
      omega (arith, more, one)

  module _ (k : ℕ) (fits : k ≤ bound * 4294967296) where
    -- a cell before the key has a place below the key's rank, and no other has
    pub place_early : (v : ℕ) → v < length t → key costs v < k → place v (L t) < rank costs k
    unfolding rank
    place_early v h l =
        let b = key_below_lem costs v k l fits in
        let c = count_strict (λ u. ltb (key costs u) (key costs v)) (λ u. ltb (key costs u) k) (length costs)
        (λ u i p. let q = ltb→lt (key costs u) (key costs v) p in lt→ltb (key costs u) k (omega arith))
        v (omega (arith, a.lengths)) (λ p. let q = ltb→lt (key costs v) (key costs v) p in omega arith) (lt→ltb (key costs v) k l) in
        omega (arith, place_rank v h b, c)

    pub place_late : (v : ℕ) → v < length t → (key costs v < k → ⊥) → rank costs k ≤ place v (L t)
    place_late v h n = go (dec_T (known t v))
      where
        go : Dec (T (known t v)) → rank costs k ≤ place v (L t)
        go (yes m) =
            let l : k ≤ key t v = by_key (dec_lt (key t v) k) in
            let c = count_mono (before k) (before (key t v)) (length t)
            (λ u i p. let q = T_and (known t u) (ltb (key t u) k) p in
            and_T (known t u) (ltb (key t u) (key t v)) q.0 (let z = ltb→lt (key t u) k q.1 in lt→ltb (key t u) (key t v) (omega arith))) in
            omega (arith, rank_count k fits, place_count t v (length t) few h m, c)
          where
            by_key : Dec (key t v < k) → k ≤ key t v
            by_key (no l) = omega arith
            by_key (yes l) = absurd (n (omega (arith, same_key v (sym (a.back v h (key_below_lem t v k l fits))), l)))
        go (no m) =
            let c = count_mono (before k) (known t) (length t) (λ u i p. (T_and (known t u) (ltb (key t u) k) p).0) in
            omega (arith, rank_count k fits, place_absent v (L t) (λ i. m (in_known t v (length t) i).1), length_sorted t (length t), c)

    -- the costs left when as many cells are settled as come before the key
    pub left_cut : costs_left t (rank costs k) ≡ cut costs k
    unfolding costs_left cut
    left_cut =
        rw a.lengths
        (values_same (λ v. cond (ltb (place v (L t)) (rank costs k)) (get_or t v 0) MARK) (λ v. cond (ltb (key costs v) k) (get_or costs v 0) MARK) (length t)
        (λ v i. same v i (dec_lt (key costs v) k)))
      where
        same : (v : ℕ) → v < length t → Dec (key costs v < k)
            → cond (ltb (place v (L t)) (rank costs k)) (get_or t v 0) MARK ≡ cond (ltb (key costs v) k) (get_or costs v 0) MARK
        same v h (yes l) = rw (lt-ltb (place v (L t)) (rank costs k) (place_early v h l), lt-ltb (key costs v) k l) (a.there v h (key_below_lem costs v k l fits))
        same v h (no l) = rw (le-ltb (place v (L t)) (rank costs k) (place_late v h l), le-ltb (key costs v) k (omega arith))

  -- the cell at place i of L, by a key with i cells before it and one more before the next
  pub record Next (k i : ℕ) : Type 0 where
    pub cell : ℕ
    pub inside : cell < length t
    pub has : key costs cell ≡ k
    pub ranks : rank costs k ≡ i
    pub next : get_or (L t) i 0 ≡ cell
    pub short : i < length (L t)
    pub cost : get_or t cell 0 ≡ get_or costs cell 0

  pub next_cell : (k i : ℕ) → k < bound * 4294967296 → rank costs k ≤ i → i < rank costs (suc k) → Next k i
  unfolding rank
  next_cell k i f l h =
      let x = count_gap (λ u. ltb (key costs u) k) (λ u. ltb (key costs u) (suc k)) (length costs) (omega arith) in
      let u = x.0 in
      let j : u < length t = omega (arith, x.1, a.lengths) in
      let e : key costs u ≡ k = go u (ltb→lt (key costs u) (suc k) x.2) x.3 (dec_lt (key costs u) k) in
      let b : get_or costs u 0 < bound = key_below_lem costs u (suc k) (omega arith) (omega arith) in
      let r = subst (λ (y : ℕ). rank costs (suc y) ≡ suc (rank costs y)) e (rank_suc u j) in
      let q : rank costs k ≡ i = omega (arith, r) in
      let m = known_in t u (length t) j (is_known t u (omega (arith, a.there u j b))) in
      let p : place u (L t) ≡ i = place_rank u j b ∙ ap (rank costs) e ∙ q in
      record {
        cell = u;
        inside = j;
        has = e;
        ranks = q;
        next = subst (λ (y : ℕ). get_or (L t) y 0 ≡ u) p (at_place u (L t) m);
        short = subst (λ (y : ℕ). y < length (L t)) p (place_in u (L t) m);
        cost = a.there u j b;
      }
    where
      go : (u : ℕ) → key costs u < suc k → (T (ltb (key costs u) k) → ⊥) → Dec (key costs u < k) → key costs u ≡ k
      go u l n (yes m) = absurd (n (lt→ltb (key costs u) k m))
      go u l n (no m) = omega arith

module _ {g : Graph} {least most : ℕ} (law : Lawful g least most) (s : ℕ) {costs : List ℕ} {bound : ℕ} {waiting later : List ℕ}
    (w : Wave g least s costs bound waiting later) where
  -- a settled cell has a place in L below the number of settled cells
  pub settled_early : (v : ℕ) → v < g.cells → get_or costs v 0 < bound → (t : List ℕ) → Right g s t → place v (L t) < cheaper_than costs bound
  settled_early v h b t right =
      let a = wave_agrees law s t right w in
      let few : length t ≤ MARK = omega (arith, right.covers, law.cells_fit) in
      let p = place_early t costs bound a w.top few (bound * 4294967296) (omega arith) v (omega (arith, right.covers)) (key_to costs v bound (omega (arith, law.cells_fit)) b) in
      omega (arith, p, rank_bound costs (omega (arith, w.covers, law.cells_fit)) bound)
