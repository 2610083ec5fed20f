-- What the functions of the spread need and keep. The work room has two halves, each as long as the floor has cells: the first lists the open cells, `len` of
-- them, the second flags those that are listed.
use Rattle.std.specs.Prelude.{◌≡◌, ◌≢◌, List, [], ◌∷◌, ℕ, ◌+◌, ◌-◌, ◌*◌, ◌≤◌, ◌<◌, length, get_or, set, take, replicate}
use Rattle.paths.specs.Graph.{MARK}
use Rattle.paths.specs.Below.{LeastOf}
use Rattle.settling.specs.Wave.{occ}
use Rattle.settling.specs.Spread.{Spread, Expanding}
use Rattle.floor.specs.declared.Floor.{Floor}
use Rattle.floor.specs.Place.{IsNear, cells, place_of}
use Rattle.floor.specs.Step.{graph}
use Rattle.floor.specs.Estimate.{four_ways, estimate_to}
use Rattle.floor.specs.Refusal.{HasPassed}
use Rattle.spread.specs.declared.Aim.{Aim}

-- the sum of all entries: together with the list's length it falls whenever a cell is taken off the list and its steps are taken, so the search ends
unfoldable pub total : List ℕ → ℕ
total [] = 0
total (c ∷ cs) = c + total cs

-- a list of cells below n, and the flags
pub record Listed (n : ℕ) (work : List ℕ) (len : ℕ) : Type 0 where
  pub double : length work ≡ 2 * n
  pub few : len ≤ n
  pub flags : (v : ℕ) → v < n → get_or work (n + v) 0 ≡ occ v (take len work)

-- the search between two cells
pub record Listing (f : Floor) (m : List ℕ) (s : ℕ) (costs work : List ℕ) (len : ℕ) : Type 0 where
  pub passed : HasPassed f m
  pub starts : s < cells f
  pub listed : Listed (cells f) work len
  pub spread : Spread (graph f m) s costs (take len work)

-- and while the steps from cell u are taken: those in the directions below d are
pub record Taking (f : Floor) (m : List ℕ) (s u d : ℕ) (costs work : List ℕ) (len : ℕ) : Type 0 where
  pub passed : HasPassed f m
  pub starts : s < cells f
  pub listed : Listed (cells f) work len
  pub expanding : Expanding (graph f m) s u d costs (take len work)

-- where the search begins
pub record CanBegin (costs work : List ℕ) (s : ℕ) : Type 0 where
  pub inside : s < length costs
  pub small : length costs ≤ MARK
  pub double : length work ≡ 2 * length costs

pub record Begun (n s : ℕ) (costs work : List ℕ) (len : ℕ) : Type 0 where
  pub costs_are : costs ≡ set (replicate n MARK) s 0
  pub work_is : work ≡ set (set (replicate (2 * n) 0) 0 s) (n + s) 1
  pub one : len ≡ 1

-- an offer to the cell `to`, and what comes of it
pub record CanOffer (costs work : List ℕ) (len to : ℕ) : Type 0 where
  pub inside : to < length costs
  pub small : length costs ≤ MARK
  pub double : length work ≡ 2 * length costs
  pub room : len < length costs

pub data Offered (costs work : List ℕ) (len to sum : ℕ) : List ℕ → List ℕ → ℕ → Type 0 where
  no_less : get_or costs to 0 ≤ sum → Offered costs work len to sum costs work len
  falls : sum < get_or costs to 0 → get_or work (length costs + to) 0 ≡ 1 → Offered costs work len to sum (set costs to sum) work len
  joins : sum < get_or costs to 0 → get_or work (length costs + to) 0 ≢ 1
      → Offered costs work len to sum (set costs to sum) (set (set work (length costs + to) 1) len to) (len + 1)

-- one step, and some
pub record CanStep (f : Floor) (m costs work : List ℕ) (len u d : ℕ) : Type 0 where
  pub s : ℕ
  pub here : Taking f m s u d costs work len

abbrev pub Steps : Floor → List ℕ → List ℕ → List ℕ → ℕ → ℕ → ℕ → ℕ → List ℕ → List ℕ → ℕ → Type 0
Steps f m costs work len u d d' costs' work' len' = (s : ℕ) → Taking f m s u d costs work len → Taking f m s u d' costs' work' len'

-- a cell is taken off the list of cells below n
pub record CanTakeOff (n : ℕ) (work : List ℕ) (len at : ℕ) : Type 0 where
  pub double : length work ≡ 2 * n
  pub few : len ≤ n
  pub before : at < len
  pub cell : get_or work at 0 < n

abbrev pub taken : ℕ → List ℕ → ℕ → ℕ → List ℕ
taken n work len at = set (set work at (get_or work (len - 1) 0)) (n + get_or work at 0) 0

pub record CanExpand (f : Floor) (m costs work : List ℕ) (len at : ℕ) : Type 0 where
  pub s : ℕ
  pub here : Listing f m s costs work len
  pub before : at < len

abbrev pub Expanded : Floor → List ℕ → List ℕ → List ℕ → ℕ → List ℕ → List ℕ → ℕ → Type 0
Expanded f m costs work len costs' work' len' = (s : ℕ) → Listing f m s costs work len → Listing f m s costs' work' len'

-- what the estimate needs of an aim
pub record CanAim (a : Aim) : Type 0 where
  pub wide : 0 < a.floor.width
  pub near : IsNear a.place

-- a cell's cost and its estimate together
unfoldable pub sum_at : Aim → List ℕ → ℕ → ℕ
sum_at a costs v = get_or costs v 0 + estimate_to a.floor (place_of a.floor v) a.place

-- no sum is above this, which is far below what 64 bits hold
abbrev pub greatest_sum : ℕ
greatest_sum = MARK + four_ways MARK MARK

-- the listed cells are cells
pub record CanLook (a : Aim) (costs listed : List ℕ) : Type 0 where
  pub aims : CanAim a
  pub small : length costs ≤ MARK
  pub cell : (k : ℕ) → k < length listed → get_or listed k 0 < length costs

-- r is the least sum of the listed cells
abbrev pub IsLeastSum : Aim → List ℕ → List ℕ → ℕ → Type 0
IsLeastSum a costs listed r = LeastOf (λ k. sum_at a costs (get_or listed k 0)) (length listed) r

-- a pass: the sum of some listed cell is at most `top`
pub record CanPass (a : Aim) (m costs work : List ℕ) (len top : ℕ) : Type 0 where
  pub s : ℕ
  pub here : Listing a.floor m s costs work len
  pub aims : CanAim a
  pub place : ℕ
  pub place_in : place < len
  pub low : sum_at a costs (get_or work place 0) ≤ top
