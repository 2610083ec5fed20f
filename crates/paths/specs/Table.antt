-- Cost tables: the right table of a start, and the rule by which a table is tested cell by cell.
use Rattle.std.specs.Prelude.{◌≡◌, ◌≢◌, Bool, cond, not, ◌&&◌, List, ℕ, zero, suc, ◌+◌, ◌<◌, min, T, eqb, length, get_or, Option, None, Some, unwrap_or}
use Rattle.paths.specs.Graph.{Graph, MARK}
use Rattle.paths.specs.Route.{Route, Least}

-- Every reachable cell has its least cost and every other cell MARK
pub record Right (g : Graph) (s : ℕ) (t : List ℕ) : Type 0 where
  pub covers : length t ≡ g.cells
  pub reached : (v : ℕ) → v < g.cells → get_or t v 0 ≢ MARK → Least g s v (get_or t v 0)
  pub closed : (v : ℕ) → v < g.cells → get_or t v 0 ≡ MARK → (ds : List ℕ) → Route g s v ds → ⊥

-- The step in direction d into v, if it is allowed and the cell it leaves has a value that isn't MARK: that value plus the step's cost
unfoldable pub offer : Graph → List ℕ → ℕ → ℕ → Option ℕ
offer g t v d =
    let u = g.from v d in
    cond (g.allowed u d && eqb (g.to u d) v && not (eqb (get_or t u 0) MARK)) (Some (get_or t u 0 + g.cost u d)) None

abbrev pub smaller : Option ℕ → Option ℕ → Option ℕ
smaller None b = b
smaller (Some a) None = Some a
smaller (Some a) (Some b) = Some (min a b)

-- the smallest offer of the directions below n
abbrev pub smallest : Graph → List ℕ → ℕ → ℕ → Option ℕ
smallest g t v zero = None
smallest g t v (suc n) = smaller (smallest g t v n) (offer g t v n)

-- What the rule asks of cell v by the values of the others: 0 of the start, of any other the smallest offer, or MARK if there is none
unfoldable pub due : Graph → ℕ → List ℕ → ℕ → ℕ
due g s t v = cond (eqb v s) 0 (unwrap_or (smallest g t v g.directions) MARK)

-- cell v has what it is due
unfoldable pub keeps : Graph → ℕ → List ℕ → ℕ → Bool
keeps g s t v = eqb (get_or t v 0) (due g s t v)

-- the rule holds at every cell
pub record Obeys (g : Graph) (s : ℕ) (t : List ℕ) : Type 0 where
  pub covers : length t ≡ g.cells
  pub rule : (v : ℕ) → v < g.cells → T (keeps g s t v)
