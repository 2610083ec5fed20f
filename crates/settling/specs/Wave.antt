-- What a search keeps while it settles the cells in bands, the cheaper first: every cost below the bound is final.
use Rattle.std.specs.Prelude.{◌≡◌, ◌≢◌, ◌⊎◌, List, [], ◌∷◌, ℕ, ◌+◌, ◌≤◌, ◌<◌, T, eqb, length, get_or}
use Rattle.paths.specs.Below.{tick}
use Rattle.paths.specs.Graph.{Graph, MARK}
use Rattle.paths.specs.Route.{cost_of, Route}

-- how often v stands in a list
unfoldable pub occ : ℕ → List ℕ → ℕ
occ v [] = 0
occ v (u ∷ us) = tick (eqb u v) + occ v us

-- 1 for MARK, 0 for a cost
unfoldable pub mark : ℕ → ℕ
mark c = tick (eqb c MARK)

-- no step from u offers less than the cell entered has
abbrev pub Relaxed : Graph → List ℕ → ℕ → Type 0
Relaxed g costs u = (d : ℕ) → T (g.allowed u d) → get_or costs (g.to u d) 0 ≤ get_or costs u 0 + g.cost u d

-- Cells with a cost below the bound are settled; the others that have been seen are open, each once in one of two lists:
-- `waiting` those that the band at hand has still to look at, `later` those that wait for the next
pub record Wave (g : Graph) (least s : ℕ) (costs : List ℕ) (bound : ℕ) (waiting later : List ℕ) : Type 0 where
  pub covers : length costs ≡ g.cells
  pub small : (v : ℕ) → get_or costs v 0 ≤ MARK
  pub origin : get_or costs s 0 ≡ 0
  -- every cost is that of some route, and no cheaper route below the bound was missed
  pub sound : (v : ℕ) → v < g.cells → get_or costs v 0 ≢ MARK → (ds : List ℕ) × Route g s v ds × (cost_of g s ds ≡ get_or costs v 0)
  pub reach : (v : ℕ) (ds : List ℕ) → Route g s v ds → cost_of g s ds < bound → get_or costs v 0 ≤ cost_of g s ds
  pub top : bound ≤ MARK
  -- a cell below the bound is in no list, but that the band may still have to take its steps
  pub relaxed : (v : ℕ) → v < g.cells → get_or costs v 0 < bound → Relaxed g costs v ⊎ (1 ≤ occ v waiting)
  pub passed : (v : ℕ) → v < g.cells → get_or costs v 0 < bound → occ v later ≡ 0
  -- a cell from the bound on is in one list, once, if it has a cost
  pub listed : (v : ℕ) → v < g.cells → bound ≤ get_or costs v 0 → occ v waiting + occ v later + mark (get_or costs v 0) ≡ 1
  pub inside : (v : ℕ) → g.cells ≤ v → occ v waiting + occ v later ≡ 0
  -- a step from a cell of the band reaches the bound
  pub near : (v : ℕ) → 1 ≤ occ v waiting → bound ≤ get_or costs v 0 + least

-- the steps from u in the directions below `taken` are taken: none of them offers less any more
pub record Taking (g : Graph) (least s u taken : ℕ) (costs : List ℕ) (bound : ℕ) (waiting later : List ℕ) : Type 0 where
  pub wave : Wave g least s costs bound waiting later
  pub below : get_or costs u 0 < bound
  pub offered : (d : ℕ) → d < taken → T (g.allowed u d) → get_or costs (g.to u d) 0 ≤ get_or costs u 0 + g.cost u d

-- r is the smaller of a and b
abbrev pub IsSmaller : ℕ → ℕ → ℕ → Type 0
IsSmaller a b r = ((b < a) × (r ≡ b)) ⊎ ((a ≤ b) × (r ≡ a))

-- The least cost of the open cells that were counted: all of `later` were, and some of `waiting` can have been. It is MARK if none was; if nothing is
-- waiting, it is the least cost of the open cells
pub record LeastOpen (costs : List ℕ) (bound : ℕ) (waiting later : List ℕ) (low : ℕ) : Type 0 where
  pub counted : (v : ℕ) → 1 ≤ occ v later → low ≤ get_or costs v 0
  pub whose : low ≢ MARK → (v : ℕ) × (1 ≤ occ v waiting + occ v later) × (bound ≤ get_or costs v 0) × (get_or costs v 0 ≡ low)
