-- What a search keeps that takes the open cells in any order: a cell that has a cost is relaxed, or it is listed.
use Rattle.std.specs.Prelude.{◌≡◌, ◌≢◌, ◌⊎◌, List, ◌∷◌, ℕ, ◌+◌, ◌≤◌, ◌<◌, T, length, get_or}
use Rattle.paths.specs.Graph.{Graph, MARK}
use Rattle.paths.specs.Route.{cost_of, Route}
use Rattle.settling.specs.Wave.{occ, mark, Relaxed}

-- What it asks of a graph: steps lead from cells to cells, and their directions have numbers. Every lawful graph has that, and so has one whose steps have no
-- unique way back
pub record Stepping (g : Graph) : Type 0 where
  pub leaves : (u d : ℕ) → T (g.allowed u d) → u < g.cells
  pub enters : (u d : ℕ) → T (g.allowed u d) → g.to u d < g.cells
  pub numbered : (u d : ℕ) → T (g.allowed u d) → d < g.directions

-- Costs fall while the search goes on, and a cell can be listed again: nothing is said of an order, and no cost is final before the end
pub record Spread (g : Graph) (s : ℕ) (costs list : List ℕ) : Type 0 where
  pub covers : length costs ≡ g.cells
  pub small : (v : ℕ) → get_or costs v 0 ≤ MARK
  pub origin : get_or costs s 0 ≡ 0
  -- every cost is that of some route
  pub sound : (v : ℕ) → v < g.cells → get_or costs v 0 ≢ MARK → (ds : List ℕ) × Route g s v ds × (cost_of g s ds ≡ get_or costs v 0)
  pub relaxed : (v : ℕ) → v < g.cells → get_or costs v 0 ≢ MARK → Relaxed g costs v ⊎ (1 ≤ occ v list)
  -- a cell is listed once at most, and only if it has a cost
  pub once : (v : ℕ) → v < g.cells → occ v list + mark (get_or costs v 0) ≤ 1
  pub inside : (v : ℕ) → g.cells ≤ v → occ v list ≡ 0

-- the steps from u in the directions below `taken` are taken; u counts as listed until all are
pub record Expanding (g : Graph) (s u taken : ℕ) (costs list : List ℕ) : Type 0 where
  pub spread : Spread g s costs (u ∷ list)
  pub offered : (d : ℕ) → d < taken → T (g.allowed u d) → get_or costs (g.to u d) 0 ≤ get_or costs u 0 + g.cost u d

-- The end: a cell that is still listed can be left, since the goal has a cost, and that is less than the cell's cost and estimate together
pub record SpreadEnds (g : Graph) (s : ℕ) (h : ℕ → ℕ) (goal : ℕ) (costs : List ℕ) : Type 0 where
  pub list : List ℕ
  pub spread : Spread g s costs list
  pub known : (v : ℕ) → 1 ≤ occ v list → get_or costs goal 0 ≢ MARK
  pub beyond : (v : ℕ) → 1 ≤ occ v list → get_or costs goal 0 < get_or costs v 0 + h v
