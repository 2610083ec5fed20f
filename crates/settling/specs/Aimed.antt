-- What a search with an estimate and no limit answers and what costs it leaves, from the right table, the estimate and the goal: 02, R-4.
use Rattle.std.specs.Prelude.{Bool, cond, not, ◌&&◌, ◌||◌, List, [], ℕ, ◌+◌, leb, length, get_or}
use Rattle.paths.specs.Below.{count, values}
use Rattle.paths.specs.Graph.{Graph, MARK}
use Rattle.paths.specs.First.{first_route}
use Rattle.settling.specs.Order.{known}
use Rattle.settling.specs.Answer.{Kind, Row}

-- the settled cells: reachable, and least cost plus estimate at most the goal's least cost, or all reachable cells if the goal is none of them
unfoldable pub is_settled : (ℕ → ℕ) → List ℕ → ℕ → ℕ → Bool
is_settled h t goal v = known t v && (not (known t goal) || leb (get_or t v 0 + h v) (get_or t goal 0))

-- their number
unfoldable pub settled_count : (ℕ → ℕ) → List ℕ → ℕ → ℕ
settled_count h t goal = count (is_settled h t goal) (length t)

-- the costs left are theirs, MARK elsewhere
unfoldable pub settled_costs : (ℕ → ℕ) → List ℕ → ℕ → List ℕ
settled_costs h t goal = values (λ v. cond (is_settled h t goal v) (get_or t v 0) MARK) (length t)

-- found, with the goal's least cost and the first route, or none; t is the right table of s
unfoldable pub aimed_of : Graph → ℕ → List ℕ → (ℕ → ℕ) → ℕ → Row
aimed_of g s t h goal =
    cond (known t goal) (record { kind = Kind.found; settled = settled_count h t goal; number = get_or t goal 0; route = first_route g s t goal })
    (record { kind = Kind.none; settled = settled_count h t goal; number = MARK; route = [] })
