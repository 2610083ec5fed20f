-- A refusal is told by its number and its place: the table read backwards.
use mathlib.Core.Path.{◌≡◌, refl, sym, ap, ◌∙◌}
use mathlib.Core.Bool.{cond}
use Prim.Native.Nat.{ℕ, ◌<◌}
use native.Mathlib.Omega.{arith}
use lib.Dec.{eqb}
use lib.ListN.{get_or}
use Rattle.std.specs.Prelude.{Result, Ok, Err}
use Rattle.floor.specs.declared.refusals.Refusal.{Refusal}
use Rattle.floor.specs.declared.refusals.Refusal.TheVariants.{BadSide, WrongLength, NoWeight, BadWays, StartOffMap, GoalOffMap, StartBlocked, GoalBlocked, ShortCosts, ShortWork, ShortRoute, LongRoute, NoZeros, TooBig, NoLimit, BadType, BadHeight, BadWidth, BadMapLine, NoCell, NoLineEnd, EndsTooSoon, FurtherByte, ShortCells, ShortText, CutShort, NoAnswer, BadDirections, ShortRoom}
use Rattle.floor.specs.Refusals.{number_of, place_of}
use Rattle.floor.specs.Numbers.{Numbers, refused, fault, gives, refused_as, written_as}
use Rattle.floor.specs.Screen.{Screen, Passed, Refused, screened}

-- the refusal with a number and a place
abbrev pub named : ℕ → ℕ → Refusal
named n p =
    (cond (eqb n 1) BadSide
    (cond (eqb n 2) WrongLength
    (cond (eqb n 3) (NoWeight p)
    (cond (eqb n 4) BadWays
    (cond (eqb n 5) StartOffMap
    (cond (eqb n 6) GoalOffMap
    (cond (eqb n 7) StartBlocked
    (cond (eqb n 8) GoalBlocked
    (cond (eqb n 9) ShortCosts
    (cond (eqb n 10) ShortWork
    (cond (eqb n 11) ShortRoute
    (cond (eqb n 12) LongRoute
    (cond (eqb n 13) NoZeros
    (cond (eqb n 14) TooBig
    (cond (eqb n 15) NoLimit
    (cond (eqb n 21) BadType
    (cond (eqb n 22) (BadHeight p)
    (cond (eqb n 23) (BadWidth p)
    (cond (eqb n 24) (BadMapLine p)
    (cond (eqb n 25) (NoCell p)
    (cond (eqb n 26) (NoLineEnd p)
    (cond (eqb n 27) (EndsTooSoon p)
    (cond (eqb n 28) (FurtherByte p)
    (cond (eqb n 29) ShortCells
    (cond (eqb n 30) ShortText
    (cond (eqb n 61) CutShort
    (cond (eqb n 62) NoAnswer
    (cond (eqb n 63) BadDirections
    ShortRoom))))))))))))))))))))))))))))

pub named_back : (r : Refusal) → named (number_of r) (place_of r) ≡ r
named_back BadSide = refl
named_back WrongLength = refl
named_back (NoWeight p) = refl
named_back BadWays = refl
named_back StartOffMap = refl
named_back GoalOffMap = refl
named_back StartBlocked = refl
named_back GoalBlocked = refl
named_back ShortCosts = refl
named_back ShortWork = refl
named_back ShortRoute = refl
named_back LongRoute = refl
named_back NoZeros = refl
named_back TooBig = refl
named_back NoLimit = refl
named_back BadType = refl
named_back (BadHeight p) = refl
named_back (BadWidth p) = refl
named_back (BadMapLine p) = refl
named_back (NoCell p) = refl
named_back (NoLineEnd p) = refl
named_back (EndsTooSoon p) = refl
named_back (FurtherByte p) = refl
named_back ShortCells = refl
named_back ShortText = refl
named_back CutShort = refl
named_back NoAnswer = refl
named_back BadDirections = refl
named_back ShortRoom = refl

pub same_refusal : (a b : Refusal) → number_of a ≡ number_of b → place_of a ≡ place_of b → a ≡ b
same_refusal a b n p = sym (named_back a) ∙ rw (n, p) (named_back b)

-- and so two answers that say only whether an input has passed are the same if they say the same in 01's numbers
abbrev number_told : Screen → ℕ
number_told Passed = 0
number_told (Refused n p) = n

abbrev place_told : Screen → ℕ
place_told Passed = 0
place_told (Refused n p) = p

positive : (r : Refusal) → 0 < number_of r
positive BadSide = omega arith
positive WrongLength = omega arith
positive (NoWeight p) = omega arith
positive BadWays = omega arith
positive StartOffMap = omega arith
positive GoalOffMap = omega arith
positive StartBlocked = omega arith
positive GoalBlocked = omega arith
positive ShortCosts = omega arith
positive ShortWork = omega arith
positive ShortRoute = omega arith
positive LongRoute = omega arith
positive NoZeros = omega arith
positive TooBig = omega arith
positive NoLimit = omega arith
positive BadType = omega arith
positive (BadHeight p) = omega arith
positive (BadWidth p) = omega arith
positive (BadMapLine p) = omega arith
positive (NoCell p) = omega arith
positive (NoLineEnd p) = omega arith
positive (EndsTooSoon p) = omega arith
positive (FurtherByte p) = omega arith
positive ShortCells = omega arith
positive ShortText = omega arith
positive CutShort = omega arith
positive NoAnswer = omega arith
positive BadDirections = omega arith
positive ShortRoom = omega arith

pub same_screening : (a b : Result Unit Refusal) → screened a ≡ screened b → a ≡ b
same_screening (Ok u) (Ok v) e = refl
same_screening (Ok u) (Err r) e = absurd (omega (arith, ap number_told e, positive r))
same_screening (Err r) (Ok u) e = absurd (omega (arith, ap number_told e, positive r))
same_screening (Err r) (Err s) e = ap Err (same_refusal r s (ap number_told e) (ap place_told e))

-- and so are two writers' answers
pub refused_alike : (a b : Refusal) → refused_as a ≡ refused_as b → a ≡ b
refused_alike a b e =
    let number : number_of a ≡ number_of b = cc in
    let place : place_of a ≡ place_of b = cc in
    same_refusal a b number place

-- the writer's answer with some numbers
abbrev pub written_of : Numbers → Result ℕ Refusal
written_of (refused n p) = Err (named n p)
written_of (fault n p) = Err (named n p)
written_of (gives vs) = Ok (get_or vs 0 0)

pub written_is : (r : Result ℕ Refusal) → written_of (written_as r) ≡ r
written_is (Ok n) = refl
written_is (Err r) = ap Err (named_back r)

pub same_written : (r s : Result ℕ Refusal) → written_as r ≡ written_as s → r ≡ s
same_written r s e = sym (written_is r) ∙ ap written_of e ∙ written_is s
