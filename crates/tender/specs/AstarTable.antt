-- 02, R-4, in its own words: when A* finds a route, which cells it settles, and what the rooms hold afterwards.
use Rattle.std.specs.Prelude.{◌≡◌, ◌↔◌, not, List, ℕ, ◌+◌, ◌*◌, ◌≤◌, ◌<◌, eqb, get_or, take, drop, replicate}
use Rattle.paths.specs.Below.{count}
use Rattle.paths.specs.Graph.{MARK}
use Rattle.paths.specs.Route.{Reachable, Least}
use Rattle.floor.specs.declared.Floor.{Floor}
use Rattle.floor.specs.Place.{cells}
use Rattle.floor.specs.Step.{graph}
use Rattle.floor.specs.Estimate.{estimate}
use Rattle.answering.specs.declared.AnswerNumbers.{AnswerNumbers}
use Rattle.answering.specs.Rooms.{Rooms}
use Rattle.tender.specs.SearchTable.{BeginsWithRoute, NoRoute, SameLengths}

-- "exactly the reachable cells whose least cost plus estimate is at most the goal's cost, or all reachable cells for none"
pub record Settles (f : Floor) (m : List ℕ) (start goal v : ℕ) : Type 0 where
  pub reachable : Reachable (graph f m) start v
  -- where the goal is not reachable there is no c, and this asks nothing
  pub near : (b c : ℕ) → Least (graph f m) start v b → Least (graph f m) start goal c → b + estimate f goal v ≤ c

-- n are 01's numbers of A*'s answer: kind 1 is found, 2 none. r and r' are the rooms before and after
pub record AstarAnswers (f : Floor) (m : List ℕ) (start goal : ℕ) (n : AnswerNumbers) (r r' : Rooms) : Type 0 where
  pub not_refused : (n.refusal ≡ 0) × (n.place ≡ 0)
  pub found : (n.kind ≡ 1) ↔ Reachable (graph f m) start goal
  pub found_number : Reachable (graph f m) start goal → Least (graph f m) start goal n.number
  pub found_route : Reachable (graph f m) start goal → BeginsWithRoute f m start goal n r.route r'.route
  pub none : (n.kind ≡ 2) ↔ (Reachable (graph f m) start goal → ⊥)
  pub none_number : (Reachable (graph f m) start goal → ⊥) → n.number ≡ MARK
  pub none_route : (Reachable (graph f m) start goal → ⊥) → NoRoute n r.route r'.route
  -- "the costs left are theirs, MARK elsewhere"
  pub costs : (v : ℕ) → Settles f m start goal v → Least (graph f m) start v (get_or r'.costs v 0)
  pub marks : (v : ℕ) → v < cells f → (Settles f m start goal v → ⊥) → get_or r'.costs v 0 ≡ MARK
  -- "its count is their number": so many cells have a cost
  pub settled : n.settled ≡ count (λ v. not (eqb (get_or r'.costs v 0) MARK)) (cells f)
  -- "work, the route room and what lies beyond are left as the plain search leaves them"
  pub zeros : take (2 * cells f) r'.work ≡ replicate (2 * cells f) 0
  pub costs_beyond : drop (cells f) r'.costs ≡ drop (cells f) r.costs
  pub work_beyond : drop (2 * cells f) r'.work ≡ drop (2 * cells f) r.work
  pub lengths : SameLengths r r'
