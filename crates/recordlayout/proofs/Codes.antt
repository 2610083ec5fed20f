-- Kind and refusal number of every answer have room in a byte: each case is a number that is written out.
use Rattle.std.specs.Prelude.{Result, Ok, Err}
use Prim.Native.Nat.{◌≤◌}
use native.Mathlib.Omega.{arith}
use Rattle.floor.specs.declared.refusals.Refusal.{Refusal}
use Rattle.floor.specs.declared.refusals.Refusal.TheVariants.{BadSide, WrongLength, NoWeight, BadWays, StartOffMap, GoalOffMap, StartBlocked, GoalBlocked, ShortCosts, ShortWork, ShortRoute, LongRoute, NoZeros, TooBig, NoLimit, BadType, BadHeight, BadWidth, BadMapLine, NoCell, NoLineEnd, EndsTooSoon, FurtherByte, ShortCells, ShortText, CutShort, NoAnswer, BadDirections, ShortRoom}
use Rattle.floor.specs.Refusals.{number_of}
use Rattle.answering.specs.declared.Outcome.{Outcome}
use Rattle.answering.specs.declared.Outcome.TheVariants as outcome
use Rattle.answering.specs.Answer.{answer_of}
use Rattle.answering.specs.Answers.{numbers_of}
use Rattle.recordlayout.specs.Fields.{SmallCodes}

refusal_small : (r : Refusal) → number_of r ≤ 64
refusal_small BadSide = omega arith
refusal_small WrongLength = omega arith
refusal_small (NoWeight at) = omega arith
refusal_small BadWays = omega arith
refusal_small StartOffMap = omega arith
refusal_small GoalOffMap = omega arith
refusal_small StartBlocked = omega arith
refusal_small GoalBlocked = omega arith
refusal_small ShortCosts = omega arith
refusal_small ShortWork = omega arith
refusal_small ShortRoute = omega arith
refusal_small LongRoute = omega arith
refusal_small NoZeros = omega arith
refusal_small TooBig = omega arith
refusal_small NoLimit = omega arith
refusal_small BadType = omega arith
refusal_small (BadHeight at) = omega arith
refusal_small (BadWidth at) = omega arith
refusal_small (BadMapLine at) = omega arith
refusal_small (NoCell at) = omega arith
refusal_small (NoLineEnd at) = omega arith
refusal_small (EndsTooSoon at) = omega arith
refusal_small (FurtherByte at) = omega arith
refusal_small ShortCells = omega arith
refusal_small ShortText = omega arith
refusal_small CutShort = omega arith
refusal_small NoAnswer = omega arith
refusal_small BadDirections = omega arith
refusal_small ShortRoom = omega arith

pub small_codes : (answer : Result Outcome Refusal) → SmallCodes (numbers_of (answer_of answer))
small_codes (Ok (outcome.Found s c l)) = record { kind = omega arith; refusal = omega arith }
small_codes (Ok (outcome.NoRoute s)) = record { kind = omega arith; refusal = omega arith }
small_codes (Ok (outcome.Stopped s c)) = record { kind = omega arith; refusal = omega arith }
small_codes (Err r) = record { kind = omega arith; refusal = omega (arith, refusal_small r) }
