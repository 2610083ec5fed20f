-- What the functions of the wave need and keep. The work room has two halves, each as long as the floor has cells: in one stands the band at
-- hand, from place `at` to place `stop`, in the other those that wait for a later one, from `other` to `end`.
use Rattle.std.specs.Prelude.{◌≡◌, ◌≢◌, ◌⊎◌, true, false, List, [], ℕ, ◌+◌, ◌-◌, ◌*◌, ◌≤◌, ◌<◌, length, get_or, set, replicate}
use Rattle.std.specs.List.{between}
use Rattle.std.proofs.Math.Seq.{slice}
use Rattle.paths.specs.Graph.{MARK}
use Rattle.paths.specs.Table.{Right}
use Rattle.settling.specs.Wave.{Wave, Taking}
use Rattle.settling.specs.Order.{L, place}
use Rattle.settling.specs.Cut.{cheaper_than}
use Rattle.floor.specs.declared.Floor.{Floor}
use Rattle.floor.specs.Place.{cells}
use Rattle.floor.specs.Step.{least_step, greatest_step, graph}
use Rattle.floor.specs.Refusal.{HasPassed}
use Rattle.ranks.specs.Listed.{AreCells, IsLeast, below_in}
use Rattle.wave.specs.declared.Front.{Front}
use Rattle.wave.specs.declared.Band.{Band}

-- where the search begins
pub record Begun (n s : ℕ) (costs work : List ℕ) (o : Front) : Type 0 where
  pub costs_are : costs ≡ set (replicate n MARK) s 0
  pub first : get_or work 0 0 ≡ s
  pub from : o.from ≡ 0
  pub len : o.len ≡ 1
  pub bound : o.bound ≡ 0
  pub settled : o.settled ≡ 0

-- an offer to the cell `to`, and what comes of it
pub record CanSee (costs work : List ℕ) (end to cost : ℕ) : Type 0 where
  pub inside : to < length costs
  pub small : to ≤ MARK
  pub fits : cost < MARK
  pub room : get_or costs to 0 ≡ MARK → end < length work

pub data Seen (costs work : List ℕ) (end to cost : ℕ) : List ℕ → List ℕ → ℕ → Type 0 where
  no_less : get_or costs to 0 ≤ cost → Seen costs work end to cost costs work end
  known : cost < get_or costs to 0 → get_or costs to 0 ≢ MARK → Seen costs work end to cost (set costs to cost) work end
  new : cost < get_or costs to 0 → get_or costs to 0 ≡ MARK → Seen costs work end to cost (set costs to cost) (set work end to) (end + 1)

pub record Halves (n : ℕ) (work : List ℕ) (at stop other end : ℕ) : Type 0 where
  pub ordered : at ≤ stop
  pub stop_in : stop ≤ length work
  pub begun : other ≤ end
  pub filled : end ≤ other + n
  pub other_in : other + n ≤ length work
  pub apart : (stop ≤ other) ⊎ (other + n ≤ at)

pub record InBand (f : Floor) (m : List ℕ) (s : ℕ) (costs work : List ℕ) (bound at stop other end : ℕ) : Type 0 where
  pub passed : HasPassed f m
  pub starts : s < cells f
  pub halves : Halves (cells f) work at stop other end
  pub wave : Wave (graph f m) least_step s costs bound (slice at stop work) (slice other end work)

-- the steps from the first cell of the band in the directions below d are taken
pub record TakingAt (f : Floor) (m : List ℕ) (s bound at stop other : ℕ) (costs work : List ℕ) (end cell d : ℕ) : Type 0 where
  pub band : InBand f m s costs work bound at stop other end
  pub before : at < stop
  pub first : get_or work at 0 ≡ cell
  pub taking : Taking (graph f m) least_step s cell d costs bound (slice at stop work) (slice other end work)

pub record CanTake (f : Floor) (m costs work : List ℕ) (end cell d : ℕ) : Type 0 where
  pub s : ℕ
  pub bound : ℕ
  pub at : ℕ
  pub stop : ℕ
  pub other : ℕ
  pub here : TakingAt f m s bound at stop other costs work end cell d

abbrev pub Took : Floor → List ℕ → List ℕ → List ℕ → ℕ → ℕ → ℕ → ℕ → List ℕ → List ℕ → ℕ → Type 0
Took f m costs work end cell d d' costs' work' end' =
    (s bound at stop other : ℕ) → TakingAt f m s bound at stop other costs work end cell d
    → TakingAt f m s bound at stop other costs' work' end' cell d'

-- 01: the search settles cells "up to a limit": cell v is among the first `limit` cells of L
abbrev pub IsWithin : Floor → List ℕ → ℕ → ℕ → ℕ → Type 0
IsWithin f m s limit v = (t : List ℕ) → Right (graph f m) s t → place v (L t) < limit

-- all steps from a cell, which is within the limit
pub record CanTakeAll (f : Floor) (m costs work : List ℕ) (end cell limit : ℕ) : Type 0 where
  pub can : CanTake f m costs work end cell 0
  pub within : IsWithin f m can.s limit cell

-- one cell of the band
pub record CanVisit (f : Floor) (m costs work : List ℕ) (at end bound limit : ℕ) : Type 0 where
  pub s : ℕ
  pub stop : ℕ
  pub other : ℕ
  pub here : InBand f m s costs work bound at stop other end
  pub before : at < stop
  pub within : cheaper_than costs bound ≤ limit

abbrev pub Visited : Floor → List ℕ → List ℕ → List ℕ → ℕ → ℕ → ℕ → List ℕ → List ℕ → ℕ → Type 0
Visited f m costs work at end bound costs' work' end' =
    (s stop other : ℕ) → at < stop → InBand f m s costs work bound at stop other end → InBand f m s costs' work' bound (at + 1) stop other end'

-- between two bands
pub record Between (f : Floor) (m : List ℕ) (s : ℕ) (costs work : List ℕ) (o : Front) : Type 0 where
  pub passed : HasPassed f m
  pub starts : s < cells f
  pub half : (o.from ≡ 0) ⊎ (o.from ≡ cells f)
  pub room : length work ≡ 2 * cells f
  pub few : o.len ≤ cells f
  pub wave : Wave (graph f m) least_step s costs o.bound [] (slice o.from (o.from + o.len) work)
  pub settled : o.settled ≡ cheaper_than costs o.bound

-- a whole band
pub record ScanAt (f : Floor) (m : List ℕ) (s : ℕ) (costs work : List ℕ) (b : Band) : Type 0 where
  pub between : Between f m s costs work b.front
  pub counted : b.front.settled + b.below ≡ cheaper_than costs b.bound
  pub band : InBand f m s costs work b.bound b.front.from (b.front.from + b.front.len) (length costs - b.front.from) (length costs - b.front.from)

pub record CanScan (f : Floor) (m costs work : List ℕ) (b : Band) (limit : ℕ) : Type 0 where
  pub s : ℕ
  pub here : ScanAt f m s costs work b
  pub within : b.front.settled + b.below ≤ limit

pub record ScannedAt (f : Floor) (m : List ℕ) (s : ℕ) (b : Band) (costs' work' : List ℕ) (o : Front) : Type 0 where
  pub between : Between f m s costs' work' o
  pub bound : o.bound ≡ b.bound
  pub counted : o.settled ≡ b.front.settled + b.below

abbrev pub Scanned : Floor → List ℕ → List ℕ → List ℕ → Band → List ℕ → List ℕ → Front → Type 0
Scanned f m costs work b costs' work' o = (s : ℕ) → ScanAt f m s costs work b → ScannedAt f m s b costs' work' o

-- the open cells that a front lists: that part of the work room
abbrev pub listed : List ℕ → Front → List ℕ
listed work o = between o.from (o.from + o.len) work

pub record CanLook (costs work : List ℕ) (goal : ℕ) (o : Front) : Type 0 where
  pub inside : goal < length costs
  pub room : o.from + o.len ≤ length work
  pub are_cells : AreCells (length costs) (listed work o)
  pub fits : (low : ℕ) → IsLeast costs (listed work o) low → low + greatest_step ≤ MARK
  pub small : o.settled + o.len ≤ MARK

-- The next band: it begins at the least cost of the open cells and is no wider than the least step, so that none of its cells can still get cheaper
pub record IsBand (costs work : List ℕ) (o : Front) (b : Band) : Type 0 where
  pub front : b.front ≡ o
  pub low : ℕ
  pub least : IsLeast costs (listed work o) low
  pub above : low < b.bound
  pub narrow : b.bound ≤ low + least_step
  pub below : b.below ≡ below_in costs (listed work o) b.bound

-- a look: no cell is open; or the goal or the limit falls in the next band; or neither does, and its steps are to be taken
pub data Looked (costs work : List ℕ) (goal limit : ℕ) (o : Front) (b : Band) : Type 0 where
  none_open : o.len ≡ 0 → b.front ≡ o → b.more ≡ false → Looked costs work goal limit o b
  is_last : IsBand costs work o b → b.more ≡ false → (get_or costs goal 0 < b.bound) ⊎ (limit < o.settled + b.below) → Looked costs work goal limit o b
  is_next : IsBand costs work o b → b.more ≡ true → b.bound ≤ get_or costs goal 0 → o.settled + b.below ≤ limit → Looked costs work goal limit o b

-- the goal and the limit lie beyond the front
pub record OpenAt (f : Floor) (m : List ℕ) (s : ℕ) (costs work : List ℕ) (goal limit : ℕ) (o : Front) : Type 0 where
  pub between : Between f m s costs work o
  pub inside : goal < cells f
  pub goal_open : o.bound ≤ get_or costs goal 0
  pub within : o.settled ≤ limit

pub record CanGoOn (f : Floor) (m costs work : List ℕ) (goal limit : ℕ) (o : Front) : Type 0 where
  pub s : ℕ
  pub here : OpenAt f m s costs work goal limit o

-- after the last band
pub record Rounds (f : Floor) (m : List ℕ) (s goal limit : ℕ) (costs work : List ℕ) (b : Band) : Type 0 where
  pub between : Between f m s costs work b.front
  pub goal_open : b.front.bound ≤ get_or costs goal 0
  pub within : b.front.settled ≤ limit
  pub looked : Looked costs work goal limit b.front b
  pub ended : b.more ≡ false

abbrev pub GoneOn : Floor → List ℕ → List ℕ → List ℕ → ℕ → ℕ → Front → List ℕ → List ℕ → Band → Type 0
GoneOn f m costs work goal limit o costs' work' b = (s : ℕ) → OpenAt f m s costs work goal limit o → Rounds f m s goal limit costs' work' b
