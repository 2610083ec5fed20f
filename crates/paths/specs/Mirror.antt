-- A graph whose steps can be taken back, each at its own cost.
use Rattle.std.specs.Prelude.{◌≡◌, ℕ, T}
use Rattle.paths.specs.Graph.{Graph}

-- `turn d` is the direction of the step back from a step in direction d: it is allowed, leads back, and costs the same
pub record Mirrored (g : Graph) (turn : ℕ → ℕ) : Type 0 where
  pub back : (u d : ℕ) → T (g.allowed u d) → T (g.allowed (g.to u d) (turn d))
  pub home : (u d : ℕ) → T (g.allowed u d) → g.to (g.to u d) (turn d) ≡ u
  pub same : (u d : ℕ) → T (g.allowed u d) → g.cost (g.to u d) (turn d) ≡ g.cost u d
