-- A verdict is the only one with its numbers: a fault is told by its number and place, as a refusal is.
use Rattle.std.specs.Prelude.{Option, Some, None, Result, Ok, Err}
use mathlib.Core.Path.{◌≡◌, refl, sym, ◌∙◌, ap}
use mathlib.Core.Bool.{cond}
use Prim.Native.Nat.{ℕ}
use lib.Dec.{eqb}
use mathlib.Core.List.{[], ◌∷◌}
use lib.ListN.{get_or}
use Rattle.floor.specs.declared.refusals.Refusal.{Refusal}
use Rattle.floor.specs.Numbers.{Numbers, refused, fault, gives}
use Rattle.floor.proofs.Numbered.{named, named_back}
use Rattle.claims.specs.declared.Fault.{Fault}
use Rattle.claims.specs.declared.Fault.TheVariants.{NoSuchDirection, LeavesMap, EntersBlocked, CutsCorner, NotAtGoal, OtherCost}
use Rattle.claims.specs.declared.FaultAt.{FaultAt}
use Rattle.claims.specs.Route as route
use Rattle.claims.specs.Table as table
use Rattle.claims.specs.Route.{fault_number}

abbrev fault_named : ℕ → Fault
fault_named n =
    (cond (eqb n 41) NoSuchDirection
    (cond (eqb n 42) LeavesMap
    (cond (eqb n 43) EntersBlocked
    (cond (eqb n 44) CutsCorner
    (cond (eqb n 45) NotAtGoal
    OtherCost)))))

fault_back : (f : Fault) → fault_named (fault_number f) ≡ f
fault_back NoSuchDirection = refl
fault_back LeavesMap = refl
fault_back EntersBlocked = refl
fault_back CutsCorner = refl
fault_back NotAtGoal = refl
fault_back OtherCost = refl

abbrev fault_at : Fault → ℕ → FaultAt
fault_at f i = record { 0 = f; 1 = i }

pub same_fault : (a b : FaultAt) → fault_number a.0 ≡ fault_number b.0 → a.1 ≡ b.1 → a ≡ b
same_fault a b n p = ap (λ (f : Fault). fault_at f a.1) (sym (fault_back a.0) ∙ ap fault_named n ∙ fault_back b.0) ∙ ap (fault_at b.0) p

-- a verdict is the only one with its numbers
abbrev pub route_of : Numbers → Result (Result ℕ FaultAt) Refusal
route_of (refused n p) = Err (named n p)
route_of (fault n p) = Ok (Err (fault_at (fault_named n) p))
route_of (gives vs) = Ok (Ok (get_or vs 0 0))

pub route_back : (v : Result (Result ℕ FaultAt) Refusal) → route_of (route.numbers_of v) ≡ v
route_back (Ok (Ok k)) = refl
route_back (Ok (Err a)) = ap (λ (f : Fault). Ok (Err (fault_at f a.1))) (fault_back a.0)
route_back (Err r) = ap Err (named_back r)

pub same_route : (v w : Result (Result ℕ FaultAt) Refusal) → route.numbers_of v ≡ route.numbers_of w → v ≡ w
same_route v w e = sym (route_back v) ∙ ap route_of e ∙ route_back w

abbrev pub table_of : Numbers → Result (Option ℕ) Refusal
table_of (refused n p) = Err (named n p)
table_of (fault n p) = Ok None
table_of (gives []) = Ok None
table_of (gives (b ∷ bs)) = Ok (Some b)

pub table_back : (v : Result (Option ℕ) Refusal) → table_of (table.numbers_of v) ≡ v
table_back (Ok None) = refl
table_back (Ok (Some b)) = refl
table_back (Err r) = ap Err (named_back r)

pub same_table : (v w : Result (Option ℕ) Refusal) → table.numbers_of v ≡ table.numbers_of w → v ≡ w
same_table v w e = sym (table_back v) ∙ ap table_of e ∙ table_back w
