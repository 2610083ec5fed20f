-- The least so far is the cost of a listed cell, and no cell before this one has a lower cost.
use Rattle.std.proofs.Common.{◌≡◌, ℕ, ◌≤◌, ◌<◌, length, get_or}
use Rattle.ranks.proofs.lists.least_cost.Given as goal

abbrev pub invariant-loop-cell : goal.invariant-loop-cell
invariant-loop-cell l =
    ((place : ℕ) × (place < length l.listed) × (get_or l.costs (get_or l.listed place 0) 0 ≡ l.least))
    × ((k : ℕ) → k < l.cell-index → l.least ≤ get_or l.costs (get_or l.listed k 0) 0)
