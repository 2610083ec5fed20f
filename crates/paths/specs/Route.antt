-- Routes and least costs over a graph.
use Rattle.std.specs.Prelude.{◌≡◌, Bool, true, ◌&&◌, List, [], ◌∷◌, ℕ, ◌+◌, ◌≤◌, T}
use Rattle.paths.specs.Graph.{Graph}

-- A route is a list of directions, taken from its first. Each step is allowed
abbrev pub walks : Graph → ℕ → List ℕ → Bool
walks g u [] = true
walks g u (d ∷ ds) = g.allowed u d && walks g (g.to u d) ds

abbrev pub ends : Graph → ℕ → List ℕ → ℕ
ends g u [] = u
ends g u (d ∷ ds) = ends g (g.to u d) ds

abbrev pub cost_of : Graph → ℕ → List ℕ → ℕ
cost_of g u [] = 0
cost_of g u (d ∷ ds) = g.cost u d + cost_of g (g.to u d) ds

-- ds is an allowed route from s to v
pub record Route (g : Graph) (s v : ℕ) (ds : List ℕ) : Type 0 where
  pub allowed : T (walks g s ds)
  pub arrives : ends g s ds ≡ v

abbrev pub Reachable : Graph → ℕ → ℕ → Type 0
Reachable g s v = (ds : List ℕ) × Route g s v ds

-- c is the least cost of a route from s to v: some route has it, and none costs less
pub record Least (g : Graph) (s v c : ℕ) : Type 0 where
  pub way : List ℕ
  pub route : Route g s v way
  pub costs : cost_of g s way ≡ c
  pub none_less : (ds : List ℕ) → Route g s v ds → c ≤ cost_of g s ds
