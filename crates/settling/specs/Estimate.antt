-- An estimate of what is left to the goal, and costs that are right only where cost and estimate together are at most some sum. A search without an estimate has
-- the estimate 0.
use Rattle.std.specs.Prelude.{◌≡◌, ◌≢◌, List, ℕ, ◌+◌, ◌≤◌, ◌<◌, T, get_or}
use Rattle.paths.specs.Graph.{Graph, MARK}

-- no step beats the estimate: it falls by at most what the step costs
pub record Consistent (g : Graph) (h : ℕ → ℕ) : Type 0 where
  pub falls : (u d : ℕ) → T (g.allowed u d) → h u ≤ g.cost u d + h (g.to u d)

-- two tables that agree where a value of one of them that isn't MARK is, together with its estimate, at most `top`
pub record AgreeBy (g : Graph) (h : ℕ → ℕ) (top : ℕ) (t costs : List ℕ) : Type 0 where
  pub there : (v : ℕ) → v < g.cells → get_or costs v 0 ≢ MARK → get_or costs v 0 + h v ≤ top → get_or t v 0 ≡ get_or costs v 0
  pub back : (v : ℕ) → v < g.cells → get_or t v 0 ≢ MARK → get_or t v 0 + h v ≤ top → get_or costs v 0 ≡ get_or t v 0

-- cell v has a cost, and with its estimate that is at most `top`
pub record Near (h : ℕ → ℕ) (top : ℕ) (costs : List ℕ) (v : ℕ) : Type 0 where
  pub known : get_or costs v 0 ≢ MARK
  pub within : get_or costs v 0 + h v ≤ top
