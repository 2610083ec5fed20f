-- The order of least-cost routes, and the first of them.
use Rattle.std.specs.Prelude.{◌≡◌, ◌⊎◌, Bool, false, cond, List, [], ◌∷◌, reverse, ℕ, zero, suc, ◌≤◌, ◌<◌, eqb, get_or, Option, None, Some}
use Rattle.paths.specs.Below.{lowest}
use Rattle.paths.specs.Graph.{Graph}
use Rattle.paths.specs.Route.{cost_of, Route}
use Rattle.paths.specs.Table.{offer}

-- Two routes, each read from its last step backwards: at the first difference met, the first of them has the lower direction
abbrev pub Ahead : List ℕ → List ℕ → Type 0
Ahead [] es = ⊥
Ahead (d ∷ ds) [] = ⊥
Ahead (d ∷ ds) (e ∷ es) = (d < e) ⊎ ((d ≡ e) × Ahead ds es)

-- ds has least cost, and comes before every other route of that cost
pub record First (g : Graph) (s v : ℕ) (ds : List ℕ) : Type 0 where
  pub route : Route g s v ds
  pub least : (es : List ℕ) → Route g s v es → cost_of g s ds ≤ cost_of g s es
  pub ahead : (es : List ℕ) → Route g s v es → cost_of g s es ≡ cost_of g s ds → (es ≡ ds) ⊎ Ahead (reverse ds) (reverse es)

abbrev pub meets : Option ℕ → ℕ → Bool
meets None c = false
meets (Some a) c = eqb a c

-- the lowest direction of a step into v that gives v its value in the right table t
unfoldable pub last_step : Graph → List ℕ → ℕ → ℕ
last_step g t v = lowest (λ d. meets (offer g t v d) (get_or t v 0)) g.directions

-- walking back from v to the start by the lowest direction, k steps at most
abbrev pub backward : Graph → ℕ → List ℕ → ℕ → ℕ → List ℕ
backward g s t zero v = []
backward g s t (suc k) v = let d = last_step g t v in cond (eqb v s) [] (d ∷ backward g s t k (g.from v d))

-- a least-cost route has fewer steps than there are cells
unfoldable pub first_route : Graph → ℕ → List ℕ → ℕ → List ℕ
first_route g s t v = reverse (backward g s t g.cells v)
