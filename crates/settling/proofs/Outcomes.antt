-- What an answer means: the goal is among the first cells of L, up to the limit, or it is unreachable and the limit covers L, or neither; each fixes the row.
use mathlib.Core.Path.{◌≡◌, sym, ◌∙◌, ap}
use mathlib.Core.Logic.{◌↔◌, ◌⊎◌, inl, inr, ⊎_elim}
use mathlib.Core.List.{List, []}
use Prim.Native.Nat.{ℕ, ◌+◌, ◌≤◌, ◌<◌}
use native.Mathlib.Omega.{arith}
use native.Mathlib.Decide.{ℕ_discrete, dec_lt, dec_le}
use borrow.Author.Tests.{lt-ltb, le-ltb, le-leb, lt-leb, eq-eqb, ne_eqb}
use lib.ListN.{length, get_or}
use Rattle.paths.specs.Graph.{Graph, Lawful, MARK}
use Rattle.paths.specs.Route.{cost_of, Route, Reachable}
use Rattle.paths.specs.Table.{Right}
use Rattle.paths.specs.First.{First, first_route}
use Rattle.settling.specs.Order.{L, place}
use Rattle.settling.specs.Answer.{Kind, Row, answer_of, costs_left}
use Rattle.paths.proofs.Below.{length_values, get_d_values}
use Rattle.settling.proofs.Orders.{place_in, place_absent, at_place}
use Rattle.paths.proofs.Meaning.{reachable_known, one_first_route, first_route_cost}
use Rattle.settling.proofs.Lists.{L-members, L-rises}

-- a kind's number in 01's table
abbrev pub code : Kind → ℕ
code Kind.found = 1
code Kind.none = 2
code Kind.stopped = 3

-- the costs left: a settled cell has its value, any other MARK
pub settled_left : (t : List ℕ) (n v : ℕ) → v < length t → place v (L t) < n → get_or (costs_left t n) v 0 ≡ get_or t v 0
unfolding costs_left
settled_left t n v h i = get_d_values _ (length t) v h ∙ rw (lt-ltb (place v (L t)) n i)

pub unsettled_left : (t : List ℕ) (n v : ℕ) → v < length t → n ≤ place v (L t) → get_or (costs_left t n) v 0 ≡ MARK
unfolding costs_left
unsettled_left t n v h i = get_d_values _ (length t) v h ∙ rw (le-ltb (place v (L t)) n i)

pub length_left : (t : List ℕ) (n : ℕ) → length (costs_left t n) ≡ length t
unfolding costs_left
length_left t n = length_values _ (length t)

module _ {g : Graph} {least most : ℕ} (law : Lawful g least most) (s : ℕ) (start : s < g.cells) (t : List ℕ) (right : Right g s t)
    (goal : ℕ) (inside : goal < g.cells) (k : ℕ) where
  abbrev i : ℕ
  i = place goal (L t)

  abbrev n : ℕ
  n = length (L t)

  abbrev a : Row
  a = answer_of g s t goal k

  -- the three ways in which an answer comes about
  abbrev Found : Type 0
  Found = Reachable g s goal × (i < k)

  abbrev None : Type 0
  None = (Reachable g s goal → ⊥) × (n ≤ k)

  abbrev Stopped : Type 0
  Stopped = (k < n) × (Reachable g s goal → k ≤ i)

  placed : Reachable g s goal → i < n
  placed r = place_in goal (L t) ((L-members law s start t right goal).1 r)

  absent : (Reachable g s goal → ⊥) → i ≡ n
  absent r = place_absent goal (L t) (λ x. r ((L-members law s start t right goal).0 x))

  ways : Found ⊎ (None ⊎ Stopped)
  ways = go (ℕ_discrete (get_or t goal 0) MARK)
    where
      reached : Reachable g s goal → Dec (i < k) → Found ⊎ (None ⊎ Stopped)
      reached r (yes h) = inl (r, h)
      reached r (no h) = inr (inr (omega (arith, placed r), λ x. omega arith))

      unreached : (Reachable g s goal → ⊥) → Dec (n ≤ k) → Found ⊎ (None ⊎ Stopped)
      unreached r (yes h) = inr (inl (r, h))
      unreached r (no h) = inr (inr (omega arith, λ x. absurd (r x)))

      go : Dec (get_or t goal 0 ≡ MARK) → Found ⊎ (None ⊎ Stopped)
      go (yes e) = unreached (λ r. (reachable_known law s start t right goal inside).0 r e) (dec_le n k)
      go (no e) = reached ((reachable_known law s start t right goal inside).1 e) (dec_lt i k)

  pub found_is : Found → a ≡ record { kind = Kind.found; settled = i + 1; number = get_or t goal 0; route = first_route g s t goal }
  unfolding answer_of
  found_is x = rw (lt-ltb i n (placed x.0), lt-ltb i k x.1)

  pub none_is : None → a ≡ record { kind = Kind.none; settled = n; number = MARK; route = [] }
  unfolding answer_of
  none_is x = let e = absent x.0 in rw (le-ltb i n (omega arith), eq-eqb i n e, le-leb n k x.1)

  pub stopped_is : Stopped → a ≡ record { kind = Kind.stopped; settled = k; number = get_or t (get_or (L t) k 0) 0; route = [] }
  unfolding answer_of
  stopped_is x = go (ℕ_discrete (get_or t goal 0) MARK)
    where
      go : Dec (get_or t goal 0 ≡ MARK) → a ≡ record { kind = Kind.stopped; settled = k; number = get_or t (get_or (L t) k 0) 0; route = [] }
      go (yes e) = let h = absent (λ r. (reachable_known law s start t right goal inside).0 r e) in
          rw (le-ltb i n (omega arith), lt-leb n k x.0, eq-eqb i n h)
      go (no e) = let r = (reachable_known law s start t right goal inside).1 e in
          rw (le-ltb i k (x.1 r), lt-ltb i n (placed r), lt-leb n k x.0, ne_eqb i n (omega (arith, placed r)))

  kind_is : {r : Row} → a ≡ r → a.kind ≡ r.kind
  kind_is e = ap (λ (r : Row). r.kind) e

  -- the numbers of two kinds agree if the answer is of both
  other : {k : Kind} {r : Row} → a.kind ≡ k → a ≡ r → code k ≡ code r.kind
  other e h = ap code (sym e ∙ kind_is h)

  -- Found exactly when the goal is among the first cells of L, up to the limit
  pub found_exactly : (a.kind ≡ Kind.found) ↔ (Reachable g s goal × (place goal (L t) < k))
  found_exactly = (
    λ e. ⊎_elim (λ x. x) (⊎_elim (λ x. absurd (omega (arith, other e (none_is x)))) (λ x. absurd (omega (arith, other e (stopped_is x))))) ways,
    λ x. kind_is (found_is x),
  )

  -- none exactly when the limit covers every reachable cell and the goal is not one
  pub none_exactly : (a.kind ≡ Kind.none) ↔ ((Reachable g s goal → ⊥) × (length (L t) ≤ k))
  none_exactly = (
    λ e. ⊎_elim (λ x. absurd (omega (arith, other e (found_is x)))) (⊎_elim (λ x. x) (λ x. absurd (omega (arith, other e (stopped_is x))))) ways,
    λ x. kind_is (none_is x),
  )

  -- stopped otherwise: a further cell is reachable, and the goal is not among those before it
  pub stopped_exactly : (a.kind ≡ Kind.stopped) ↔ ((k < length (L t)) × (Reachable g s goal → k ≤ place goal (L t)))
  stopped_exactly = (
    λ e. ⊎_elim (λ x. absurd (omega (arith, other e (found_is x)))) (⊎_elim (λ x. absurd (omega (arith, other e (none_is x)))) (λ x. x)) ways,
    λ x. kind_is (stopped_is x),
  )

  -- A found route is the first least-cost route, and the number is its cost
  pub found_first : a.kind ≡ Kind.found → First g s goal a.route
  found_first e =
      let x = found_exactly.0 e in
      rw (found_is x) (one_first_route law s start t right goal x.0).0

  pub found_cost : a.kind ≡ Kind.found → cost_of g s a.route ≡ a.number
  found_cost e =
      let x = found_exactly.0 e in
      rw (found_is x) (first_route_cost law s start t right goal x.0)

  -- The floor of a stopped search: no route to the goal costs less
  pub stopped_floor : a.kind ≡ Kind.stopped → (ds : List ℕ) → Route g s goal ds → a.number ≤ cost_of g s ds
  stopped_floor e ds w =
      let x = stopped_exactly.0 e in
      let r : Reachable g s goal = (ds, w) in
      let l = (right.reached goal inside ((reachable_known law s start t right goal inside).0 r)).none_less ds w in
      let here = ap (λ (v : ℕ). get_or t v 0) (at_place goal (L t) ((L-members law s start t right goal).1 r)) in
      rw (stopped_is x) (omega (arith, l, here, L-rises law s start t right k i (x.1 r) (placed r)))
