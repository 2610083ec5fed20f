-- A least-cost route visits no cell twice: the steps between two visits of a cell cost something, and the route without them leads to the same cell.
use mathlib.Core.Path.{◌≡◌, sym, ◌∙◌, ap}
use mathlib.Core.Logic.{◌≢◌, ◌⊎◌, inl, inr}
use mathlib.Core.List.{List, [], ◌∷◌, ◌++◌}
use Prim.Native.Nat.{ℕ, ◌≤◌, ◌<◌}
use native.Mathlib.Omega.{arith}
use lib.Dec.{T}
use lib.ListN.{length, take, drop, take-append-drop, length-drop}
use lib.Seq.{length-take-le, take-take}
use Rattle.paths.specs.Graph.{Graph, Lawful}
use Rattle.paths.specs.Route.{walks, ends, cost_of, Route, Least}
use Rattle.paths.proofs.Bools.{T_and}
use Rattle.paths.proofs.Walks.{ends_append, cost_append, walks_append, append_walks}

-- the cell that a route has come to after i steps
abbrev pub visited : Graph → ℕ → List ℕ → ℕ → ℕ
visited g s ds i = ends g s (take i ds)

module _ {g : Graph} {least most : ℕ} (law : Lawful g least most) where
  -- a route that is not empty costs a step at least
  pub steps_cost : (u : ℕ) (ds : List ℕ) → T (walks g u ds) → 0 < length ds → least ≤ cost_of g u ds
  steps_cost u [] w h = absurd (omega arith)
  steps_cost u (d ∷ ds) w h = omega (arith, law.at_least u d (T_and (g.allowed u d) (walks g (g.to u d) ds) w).0)

  -- so a cell other than the start is at least a step away
  pub step_away : {s v c : ℕ} → Least g s v c → (v ≡ s) ⊎ (least ≤ c)
  step_away {s} {v} {c} x = go x.way x.route x.costs
    where
      go : (ds : List ℕ) → Route g s v ds → cost_of g s ds ≡ c → (v ≡ s) ⊎ (least ≤ c)
      go [] r e = inl (sym r.arrives)
      go (d ∷ ds) r e = inr (omega (arith, steps_cost s (d ∷ ds) r.allowed (omega arith)))

  front_walks : (s : ℕ) (ds : List ℕ) → T (walks g s ds) → (i : ℕ) → T (walks g s (take i ds))
  front_walks s ds w i = (append_walks g s (take i ds) (drop i ds) (rw (take-append-drop i ds) w)).0

  -- and the first i steps of a route cost less than all of them
  front_cheaper : (s : ℕ) (ds : List ℕ) → T (walks g s ds) → (i : ℕ) → i < length ds → cost_of g s (take i ds) < cost_of g s ds
  front_cheaper s ds w i h =
      let e = take-append-drop i ds in
      let k = append_walks g s (take i ds) (drop i ds) (rw e w) in
      let c = cost_append g s (take i ds) (drop i ds) in
      omega (arith, rw e at c, steps_cost (ends g s (take i ds)) (drop i ds) k.1 (simp length-drop (omega arith)), law.positive)

  module _ (s v c : ℕ) (l : Least g s v c) (ds : List ℕ) (r : Route g s v ds) (cheap : cost_of g s ds ≡ c) where
    pub no_cell_twice : (i j : ℕ) → i < j → j ≤ length ds → visited g s ds i ≢ visited g s ds j
    no_cell_twice i j h k e =
        let before = take i ds in
        let front = take j ds in
        let rest = drop j ds in
        let whole = take-append-drop j ds in
        let w = append_walks g s front rest (rw whole r.allowed) in
        let part : take i front ≡ before = take-take i j ds (omega arith) in
        let short : i < length front = omega (arith, length-take-le j ds k) in
        let walk : T (walks g s before) = rw part at (front_walks s front w.0 i) in
        let less : cost_of g s before < cost_of g s front = rw part at (front_cheaper s front w.0 i short) in
        let without : Route g s v (before ++ rest) = record {
          allowed = walks_append g s before rest walk (rw e w.1);
          arrives = ends_append g s before rest ∙ ap (λ (u : ℕ). ends g u rest) e ∙ sym (ends_append g s front rest) ∙ ap (ends g s) whole ∙ r.arrives;
        } in
        omega (
          arith,
          less,
          cheap,
          l.none_less (before ++ rest) without,
          cost_append g s before rest,
          ap (λ (u : ℕ). cost_of g u rest) e,
          sym (cost_append g s front rest) ∙ ap (cost_of g s) whole,
        )
