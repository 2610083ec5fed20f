-- What the check of a claimed route answers.
use Rattle.std.specs.Prelude.{◌≡◌, Result, Ok, Err, cond, not, List, [], ◌∷◌, ◌++◌, ℕ, suc, ◌+◌, ◌-◌, ◌*◌, eqb, ltb, length, get_or}
use Rattle.paths.specs.Route.{cost_of, Route}
use Rattle.floor.specs.declared.Floor.{Floor}
use Rattle.floor.specs.declared.Reason.{Reason}
use Rattle.floor.specs.declared.Reason.TheVariants.{NoSuchDirection, LeftOffMap, LeftBlocked, LeavesMap, EntersBlocked, CutsCorner}
use Rattle.floor.specs.declared.Step.{Step}
use Rattle.floor.specs.declared.refusals.Refusal.{Refusal}
use Rattle.floor.specs.Screen.{Passed}
use Rattle.floor.specs.Place.{cells}
use Rattle.floor.specs.Step.{step_of, graph}
use Rattle.floor.specs.Refusal.{Line, line, screen, question_lines}
use Rattle.floor.specs.Numbers.{Numbers, refused, fault, gives, refused_as, after_screen}
use Rattle.claims.specs.declared.Fault.{Fault}
use Rattle.claims.specs.declared.Fault.TheVariants as faults
use Rattle.claims.specs.declared.FaultAt.{FaultAt}

-- a claim: start, goal, cost and the directions
pub record Claim : Type 0 where
  pub start : ℕ
  pub goal : ℕ
  pub cost : ℕ
  pub route : List ℕ

abbrev pub claim : ℕ → ℕ → ℕ → List ℕ → Claim
claim s g k ds = record { start = s; goal = g; cost = k; route = ds }

-- 12: the route is longer than width × height − 1
abbrev pub steps_line : Floor → Claim → Line
steps_line f c = line 12 (ltb (cells f - 1) (length c.route)) 0

-- 1 to 8, then 12
abbrev pub claim_lines : Floor → List ℕ → Claim → List Line
claim_lines f m c = question_lines f m c.start c.goal ++ (steps_line f c ∷ [])

-- 41: no such direction, 42: leaves the map, 43: enters a blocked cell, 44: cuts a corner.
-- A route that has come this far stands on an open cell (proofs/Claims.antt, leaves_open), so that the cell left is never at fault
abbrev pub fault_of : Reason → ℕ
fault_of NoSuchDirection = 41
fault_of LeftOffMap = 42
fault_of LeftBlocked = 43
fault_of LeavesMap = 42
fault_of EntersBlocked = 43
fault_of CutsCorner = 44

-- and of the faults by name: 45: not at the goal, 46: another cost
abbrev pub fault_number : Fault → ℕ
fault_number faults.NoSuchDirection = 41
fault_number faults.LeavesMap = 42
fault_number faults.EntersBlocked = 43
fault_number faults.CutsCorner = 44
fault_number faults.NotAtGoal = 45
fault_number faults.OtherCost = 46

-- a fault and its place
abbrev pub faulted : FaultAt → Numbers
faulted f = fault (fault_number f.0) f.1

-- a claim that holds gives its cost
abbrev pub holds : ℕ → Numbers
holds k = gives (k ∷ [])

-- 01's numbers of each case
abbrev pub numbers_of : Result (Result ℕ FaultAt) Refusal → Numbers
numbers_of (Ok (Ok k)) = holds k
numbers_of (Ok (Err f)) = faulted f
numbers_of (Err r) = refused_as r

-- after the last step, on cell v, with i steps and the cost k behind: 45 not at the goal, 46 the cost differs
unfoldable pub arrived : Claim → ℕ → ℕ → ℕ → Numbers
arrived c v i k = cond (not (eqb v c.goal)) (fault 45 i) (cond (not (eqb k c.cost)) (fault 46 i) (holds k))

-- a step that leads to a cell, at a cost, is followed by the rest; one that is barred is a fault at its place
abbrev pub on_step : Result Step Reason → ℕ → (ℕ → ℕ → Numbers) → Numbers
on_step (Ok s) i rest = rest s.cell s.cost
on_step (Err r) i rest = fault (fault_of r) i

-- the steps tried in order from cell v, with i steps and the cost k behind
abbrev pub tried : Floor → List ℕ → Claim → ℕ → ℕ → ℕ → List ℕ → Numbers
tried f m c v i k [] = arrived c v i k
tried f m c v i k (d ∷ ds) = on_step (step_of f m v d) i (λ w s. tried f m c w (suc i) (k + s) ds)

unfoldable pub route_verdict : Floor → List ℕ → Claim → Numbers
route_verdict f m c = after_screen (screen (claim_lines f m c)) (tried f m c c.start 0 0 c.route)

-- A claim is true: it is not refused, its route is allowed and leads from start to goal, and costs what is claimed
pub record IsTrue (f : Floor) (m : List ℕ) (c : Claim) : Type 0 where
  pub passed : screen (claim_lines f m c) ≡ Passed
  pub route : Route (graph f m) c.start c.goal c.route
  pub costs : cost_of (graph f m) c.start c.route ≡ c.cost

-- 01's two halves of an answer: the number (0 if the claim holds), and its place, or its cost if it holds
abbrev pub number_of : Numbers → ℕ
number_of (refused n p) = n
number_of (fault n p) = n
number_of (gives vs) = 0

abbrev pub value_of : Numbers → ℕ
value_of (refused n p) = p
value_of (fault n p) = p
value_of (gives vs) = get_or vs 0 0

-- the collector's 64 bits: the number in the high half, the value in the low one
abbrev pub packed : Numbers → ℕ
packed a = number_of a * 4294967296 + value_of a
