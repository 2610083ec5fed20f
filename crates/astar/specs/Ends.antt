-- What the functions at the end of the search need and answer.
use Rattle.std.specs.Prelude.{◌≡◌, cond, not, ◌&&◌, ◌||◌, List, ◌++◌, ℕ, ◌+◌, ◌≤◌, ◌<◌, eqb, leb, length, drop}
use Rattle.paths.specs.Graph.{MARK}
use Rattle.paths.specs.Table.{Right}
use Rattle.settling.specs.Spread.{SpreadEnds}
use Rattle.settling.specs.Aimed.{settled_costs}
use Rattle.floor.specs.declared.Floor.{Floor}
use Rattle.floor.specs.Place.{cells, place_of}
use Rattle.floor.specs.Step.{graph}
use Rattle.floor.specs.Estimate.{estimate}
use Rattle.floor.specs.Refusal.{HasPassed}
use Rattle.answering.specs.Answer.{Answer}
use Rattle.answering.specs.Answers.{answer_by}
use Rattle.spread.specs.declared.Aim.{Aim}
use Rattle.spread.specs.Listing.{CanAim}
use Rattle.astar.specs.Astar.{aimed_row}

-- what a cell keeps of its cost, by its estimate and the goal's cost: `is_settled` of one cell
unfoldable pub kept_cost : ℕ → ℕ → ℕ → ℕ
kept_cost estimate top cost = cond (not (eqb cost MARK) && (eqb top MARK || leb (cost + estimate) top)) cost MARK

pub record CanKeep (a : Aim) (costs : List ℕ) : Type 0 where
  pub aims : CanAim a
  pub place : a.place ≡ place_of a.floor a.goal
  pub inside : a.goal < length costs
  pub small : length costs ≤ MARK

pub record CanFinish (a : Aim) (m : List ℕ) (s : ℕ) (costs route : List ℕ) : Type 0 where
  pub passed : HasPassed a.floor m
  pub starts : s < cells a.floor
  pub inside : a.goal < cells a.floor
  pub place : a.place ≡ place_of a.floor a.goal
  pub ends : SpreadEnds (graph a.floor m) s (estimate a.floor a.goal) a.goal costs
  pub room : cells a.floor ≤ length route

-- the promise of A*, on rooms that are just as long as they need to be
pub record Finished (f : Floor) (m : List ℕ) (s goal : ℕ) (route : List ℕ) (a : Answer) (costs' route' : List ℕ) : Type 0 where
  pub table : List ℕ
  pub right : Right (graph f m) s table
  pub answer : a ≡ answer_by f m s (aimed_row f m s goal table)
  pub costs_left : costs' ≡ settled_costs (estimate f goal) table goal
  pub route_left : route' ≡ (aimed_row f m s goal table).route ++ drop (length (aimed_row f m s goal table).route) route
