-- What the functions of the last band need and answer.
use Rattle.std.specs.Prelude.{◌≡◌, List, ◌++◌, ℕ, suc, ◌+◌, ◌-◌, ◌*◌, ◌/◌, ◌≤◌, ◌<◌, length, get_or, drop}
use Rattle.paths.specs.Graph.{MARK}
use Rattle.paths.specs.First.{first_route}
use Rattle.paths.specs.Table.{Right}
use Rattle.settling.specs.Order.{key}
use Rattle.settling.specs.Answer.{costs_left}
use Rattle.settling.specs.Cut.{cut}
use Rattle.floor.specs.declared.Floor.{Floor}
use Rattle.floor.specs.Place.{cells}
use Rattle.floor.specs.Step.{graph}
use Rattle.floor.specs.Length.{route_length}
use Rattle.answering.specs.Answer.{Answer, Found, Stopped}
use Rattle.wave.specs.declared.Band.{Band}
use Rattle.ranks.specs.Listed.{AreCells, CanFind, IsNext}
use Rattle.wave.specs.Bands.{Rounds, listed}
use Rattle.walkback.specs.Walks.{CanWalk}
use Rattle.answering.specs.Answers.{row_of, answer_by}
use Rattle.answering.specs.declared.Question.{Question}

pub record CanStop (costs work : List ℕ) (limit : ℕ) (b : Band) : Type 0 where
  pub room : b.front.from + b.front.len ≤ length work
  pub are_cells : AreCells (length costs) (listed work b.front)
  pub small : length costs ≤ MARK
  pub within : b.front.settled ≤ limit
  pub find : CanFind costs (listed work b.front) (b.front.bound * 4294967296) (b.bound * 4294967296) (limit - b.front.settled)

pub record StoppedAt (costs work : List ℕ) (limit : ℕ) (b : Band) (a : Answer) (costs' : List ℕ) : Type 0 where
  pub k : ℕ
  pub next : IsNext costs (listed work b.front) (b.front.bound * 4294967296) (b.bound * 4294967296) (limit - b.front.settled) k
  pub answer : a ≡ Stopped limit (k / 4294967296)
  pub left : costs' ≡ cut costs k

pub record CanArrive (f : Floor) (m : List ℕ) (s goal place : ℕ) (costs route : List ℕ) : Type 0 where
  pub walk : CanWalk f m s goal costs
  pub room : cells f ≤ length route
  pub small : place < MARK

pub record Arrived (f : Floor) (m : List ℕ) (s goal place : ℕ) (costs route : List ℕ) (a : Answer) (costs' route' : List ℕ) : Type 0 where
  pub answer : a ≡ Found (suc place) (get_or costs goal 0) (route_length f m s (first_route (graph f m) s costs goal))
  pub left : costs' ≡ cut costs (suc (key costs goal))
  pub written : route' ≡ first_route (graph f m) s costs goal ++ drop (length (first_route (graph f m) s costs goal)) route

pub record CanFinish (f : Floor) (m : List ℕ) (q : Question) (costs work route : List ℕ) (b : Band) : Type 0 where
  pub rounds : Rounds f m q.start q.goal q.limit costs work b
  pub inside : q.goal < cells f
  pub room : cells f ≤ length route

-- the promise of the search, on rooms that are just as long as they need to be
pub record Finished (f : Floor) (m : List ℕ) (q : Question) (route : List ℕ) (a : Answer) (costs' route' : List ℕ) : Type 0 where
  pub table : List ℕ
  pub right : Right (graph f m) q.start table
  pub answer : a ≡ answer_by f m q.start (row_of f m q table)
  pub costs_left : costs' ≡ costs_left table (row_of f m q table).settled
  pub route_left : route' ≡ (row_of f m q table).route ++ drop (length (row_of f m q table).route) route
