-- The list L: the cells reachable from the start, sorted by least cost from it and, at equal cost, by cell number.
use Rattle.std.specs.Prelude.{◌≡◌, ◌↔◌, ◌⊎◌, List, ℕ, ◌<◌, length, get_or}
use Rattle.paths.specs.Graph.{Graph}
use Rattle.paths.specs.Route.{Reachable, Least}

-- cell v stands at place i of a list, counted from 0
pub record At (l : List ℕ) (i v : ℕ) : Type 0 where
  pub within : i < length l
  pub cell : get_or l i 0 ≡ v

-- a cell stands in L exactly when it is reachable; no cell comes before itself, so none stands there twice
pub record IsL (g : Graph) (s : ℕ) (l : List ℕ) : Type 0 where
  pub reachable : (v : ℕ) → ((i : ℕ) × At l i v) ↔ Reachable g s v
  -- of two places the earlier has the cell of smaller least cost or, at equal cost, of smaller number
  pub sorted : (i j u v b c : ℕ) → i < j → At l i u → At l j v → Least g s u b → Least g s v c → (b < c) ⊎ ((b ≡ c) × (u < v))
