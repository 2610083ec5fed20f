-- L is no longer than the cell count: with that limit the plain search finds a goal that is reachable and else answers none, and so does one with an estimate; if that is 0 for the goal alone, it settles no further cells.
use mathlib.Core.Path.{◌≡◌, refl, sym, ◌∙◌, ap}
use mathlib.Core.Logic.{◌↔◌, ◌≢◌}
use mathlib.Core.Bool.{◌&&◌}
use mathlib.Core.List.{List, []}
use Prim.Native.Nat.{ℕ, ◌+◌, ◌≤◌, ◌<◌}
use native.Mathlib.Omega.{arith}
use native.Mathlib.Decide.{ℕ_discrete}
use lib.Dec.{T, ltb, lt→ltb}
use lib.ListN.{length, get_or}
use Rattle.paths.specs.Below.{count}
use Rattle.paths.specs.Graph.{Graph, Lawful, MARK}
use Rattle.paths.specs.Route.{cost_of, Reachable, Least}
use Rattle.paths.specs.Table.{Right}
use Rattle.paths.specs.First.{First, first_route}
use Rattle.settling.specs.Order.{key, known, L, place}
use Rattle.settling.specs.Answer.{Kind, Row, answer_of}
use Rattle.settling.specs.Aimed.{is_settled, settled_count, settled_costs, aimed_of}
use Rattle.paths.proofs.Bools.{T_true, not_T_false, and_T, by_cond}
use Rattle.paths.proofs.Below.{count_le, count_mono, count_one_more, length_values, get_d_values}
use Rattle.paths.proofs.Meaning.{reachable_known, value_is_least}
use Rattle.settling.proofs.Orders.{known_is, is_known, length_sorted, place_in}
use Rattle.settling.proofs.Lists.{L-members, L-cheaper, L-place}
use Rattle.settling.proofs.Cuts.{key_from, key_to}
use Rattle.settling.proofs.Outcomes.{code, found_is, none_is, found_exactly, none_exactly, found_first, found_cost}
use Rattle.settling.proofs.Aims.{settled_is, is_settled_lem}

-- the costs left: a settled cell has its value, any other MARK
module _ (h : ℕ → ℕ) (t : List ℕ) (goal : ℕ) where
  pub length_settled : length (settled_costs h t goal) ≡ length t
  unfolding settled_costs
  length_settled = length_values _ (length t)

  pub left_settled : (v : ℕ) → v < length t → T (is_settled h t goal v) → get_or (settled_costs h t goal) v 0 ≡ get_or t v 0
  unfolding settled_costs
  left_settled v i k = get_d_values _ (length t) v i ∙ rw (T_true (is_settled h t goal v) k)

  pub left_unsettled : (v : ℕ) → v < length t → (T (is_settled h t goal v) → ⊥) → get_or (settled_costs h t goal) v 0 ≡ MARK
  unfolding settled_costs
  left_unsettled v i k = get_d_values _ (length t) v i ∙ rw (not_T_false (is_settled h t goal v) k)

-- the row is found or none, has their number, and no route for none
module _ (g : Graph) (s : ℕ) (t : List ℕ) (h : ℕ → ℕ) (goal : ℕ) where
  pub aimed_count : (aimed_of g s t h goal).settled ≡ settled_count h t goal
  unfolding aimed_of
  aimed_count = by_cond (λ (w : Row). w.settled ≡ settled_count h t goal) (known t goal) _ _ (λ k. refl) (λ k. refl)

  pub aimed_never : (aimed_of g s t h goal).kind ≢ Kind.stopped
  unfolding aimed_of
  aimed_never = by_cond (λ (w : Row). w.kind ≢ Kind.stopped) (known t goal) _ _ (λ k e. omega (arith, ap code e)) (λ k e. omega (arith, ap code e))

  pub aimed_empty : (aimed_of g s t h goal).kind ≡ Kind.none → (aimed_of g s t h goal).route ≡ []
  unfolding aimed_of
  aimed_empty = by_cond (λ (w : Row). w.kind ≡ Kind.none → w.route ≡ []) (known t goal) _ _ (λ k e. absurd (omega (arith, ap code e))) (λ k e. refl)

module _ {g : Graph} {least most : ℕ} (law : Lawful g least most) (s : ℕ) (start : s < g.cells) (t : List ℕ) (right : Right g s t)
    (goal : ℕ) (inside : goal < g.cells) (h : ℕ → ℕ) where
  abbrev a : Row
  a = answer_of g s t goal g.cells

  few : length (L t) ≤ g.cells
  few = omega (arith, length_sorted t (length t), count_le (known t) (length t), right.covers)

  before : Reachable g s goal → place goal (L t) < g.cells
  before r = omega (arith, place_in goal (L t) ((L-members law s start t right goal).1 r), few)

  -- the plain row, as the goal has a value or not
  found_row : get_or t goal 0 ≢ MARK → a ≡ record { kind = Kind.found; settled = place goal (L t) + 1; number = get_or t goal 0; route = first_route g s t goal }
  found_row m = let r = (reachable_known law s start t right goal inside).1 m in found_is law s start t right goal inside g.cells (r, before r)

  none_row : get_or t goal 0 ≡ MARK → a ≡ record { kind = Kind.none; settled = length (L t); number = MARK; route = [] }
  none_row e = none_is law s start t right goal inside g.cells (λ r. (reachable_known law s start t right goal inside).0 r e, few)

  -- the row with an estimate is the plain one but for the settled count
  plain_row : aimed_of g s t h goal ≡ record { kind = a.kind; settled = settled_count h t goal; number = a.number; route = a.route }
  unfolding aimed_of
  plain_row = go (ℕ_discrete (get_or t goal 0) MARK)
    where
      go : Dec (get_or t goal 0 ≡ MARK) → aimed_of g s t h goal ≡ record { kind = a.kind; settled = settled_count h t goal; number = a.number; route = a.route }
      go (yes e) = rw (not_T_false (known t goal) (λ k. known_is t goal k e), none_row e)
      go (no m) = rw (T_true (known t goal) (is_known t goal m), found_row m)

  pub aimed_kind : (aimed_of g s t h goal).kind ≡ (answer_of g s t goal g.cells).kind
  aimed_kind = ap (λ (r : Row). r.kind) plain_row

  pub aimed_number : (aimed_of g s t h goal).number ≡ (answer_of g s t goal g.cells).number
  aimed_number = ap (λ (r : Row). r.number) plain_row

  pub aimed_route : (aimed_of g s t h goal).route ≡ (answer_of g s t goal g.cells).route
  aimed_route = ap (λ (r : Row). r.route) plain_row

  -- Found exactly when the goal is reachable, and else none
  pub aimed_found : ((aimed_of g s t h goal).kind ≡ Kind.found) ↔ Reachable g s goal
  aimed_found =
      let x = found_exactly law s start t right goal inside g.cells in
      (λ e. (x.0 (sym aimed_kind ∙ e)).0, λ r. aimed_kind ∙ x.1 (r, before r))

  pub aimed_none : ((aimed_of g s t h goal).kind ≡ Kind.none) ↔ (Reachable g s goal → ⊥)
  aimed_none =
      let x = none_exactly law s start t right goal inside g.cells in
      (λ e. (x.0 (sym aimed_kind ∙ e)).0, λ r. aimed_kind ∙ x.1 (r, few))

  -- A found route is the first least-cost route, and the number is its cost
  pub aimed_first : (aimed_of g s t h goal).kind ≡ Kind.found → First g s goal (aimed_of g s t h goal).route
  aimed_first e = rw aimed_route (found_first law s start t right goal inside g.cells (sym aimed_kind ∙ e))

  pub aimed_cost : (aimed_of g s t h goal).kind ≡ Kind.found → cost_of g s (aimed_of g s t h goal).route ≡ (aimed_of g s t h goal).number
  aimed_cost e = rw (aimed_route, aimed_number) (found_cost law s start t right goal inside g.cells (sym aimed_kind ∙ e))

  -- Settled are the reachable cells whose least cost plus estimate is at most the goal's least cost; all of them if it has none
  pub settled_words : (v : ℕ) → v < g.cells
      → T (is_settled h t goal v) ↔ (Reachable g s v × ((c : ℕ) → Least g s goal c → (b : ℕ) → Least g s v b → b + h v ≤ c))
  settled_words v i = (
    λ k.
        let x = settled_is h t goal v k in (
          (reachable_known law s start t right v i).1 x.known,
          λ c l b m.
              omega (
                arith,
                x.within ((reachable_known law s start t right goal inside).0 (l.way, l.route)),
                value_is_least law s start goal c l t right,
                value_is_least law s start v b m t right,
              ),
        ),
    λ x.
        let m = (reachable_known law s start t right v i).0 x.0 in
        is_settled_lem h t goal v (record { known = m; within = λ n. x.1 (get_or t goal 0) (right.reached goal inside n) (get_or t v 0) (right.reached v i m) }),
  )

  -- If no other cell than the goal has the estimate 0, a settled cell is among those that the plain search settles
  module _ (away : (v : ℕ) → v ≢ goal → 0 < h v) where
    -- if the goal has a value, another settled cell costs less
    cheaper : get_or t goal 0 ≢ MARK → (v : ℕ) → v ≢ goal → T (is_settled h t goal v) → get_or t v 0 < get_or t goal 0
    cheaper m v n k = omega (arith, (settled_is h t goal v k).within m, away v n)

    pub fewer_cells : (v : ℕ) → v < g.cells → T (is_settled h t goal v) → place v (L t) < (answer_of g s t goal g.cells).settled
    fewer_cells v i k = go (ℕ_discrete (get_or t goal 0) MARK) (ℕ_discrete v goal)
      where
        reached : Reachable g s v
        reached = (reachable_known law s start t right v i).1 (settled_is h t goal v k).known

        go : Dec (get_or t goal 0 ≡ MARK) → Dec (v ≡ goal) → place v (L t) < a.settled
        go (yes e) c = rw (none_row e) (place_in v (L t) ((L-members law s start t right v).1 reached))
        go (no m) (yes e) = rw (found_row m, e) (omega arith)
        go (no m) (no n) =
            let r = (reachable_known law s start t right goal inside).1 m in
            rw (found_row m) (omega (arith, L-cheaper law s start t right v goal reached r (cheaper m v n k)))

    pub fewer_count : settled_count h t goal ≤ (answer_of g s t goal g.cells).settled
    unfolding settled_count
    fewer_count = go (ℕ_discrete (get_or t goal 0) MARK)
      where
        valued : (v : ℕ) → T (is_settled h t goal v) → T (known t v)
        valued v k = is_known t v (settled_is h t goal v k).known

        -- the goal's place is the number of lower keys, and the goal is one cell more
        lower : get_or t goal 0 ≢ MARK → (v : ℕ) → v < length t → v ≢ goal → T (is_settled h t goal v) → key t v < key t goal
        lower m v i n k =
            omega (
              arith,
              key_to t v (get_or t goal 0) (omega (arith, right.covers, law.cells_fit)) (cheaper m v n k),
              key_from t goal (get_or t goal 0) (omega arith),
            )

        go : Dec (get_or t goal 0 ≡ MARK) → count (is_settled h t goal) (length t) ≤ a.settled
        go (yes e) = rw (none_row e) (omega (arith, length_sorted t (length t), count_mono (is_settled h t goal) (known t) (length t) (λ v i. valued v)))
        go (no m) =
            let r = (reachable_known law s start t right goal inside).1 m in
            let one = count_one_more (λ u. known t u && ltb (key t u) (key t goal)) (is_settled h t goal) goal (length t)
            (λ v i n k. and_T (known t v) (ltb (key t v) (key t goal)) (valued v k) (lt→ltb (key t v) (key t goal) (lower m v i n k))) in
            rw (found_row m) (omega (arith, one, L-place law s start t right goal r))
