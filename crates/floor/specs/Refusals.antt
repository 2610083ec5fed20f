-- 01's table of refusals, with those that 02 added: the number of each, and its place, which is 0 unless the table says where.
use Rattle.std.specs.Prelude.{ℕ}
use Rattle.floor.specs.declared.refusals.Refusal.{Refusal}
use Rattle.floor.specs.declared.refusals.Refusal.TheVariants.{BadSide, WrongLength, NoWeight, BadWays, StartOffMap, GoalOffMap, StartBlocked, GoalBlocked, ShortCosts, ShortWork, ShortRoute, LongRoute, NoZeros, TooBig, NoLimit, BadType, BadHeight, BadWidth, BadMapLine, NoCell, NoLineEnd, EndsTooSoon, FurtherByte, ShortCells, ShortText, CutShort, NoAnswer, BadDirections, ShortRoom}

abbrev pub number_of : Refusal → ℕ
number_of BadSide = 1
number_of WrongLength = 2
number_of (NoWeight cell) = 3
number_of BadWays = 4
number_of StartOffMap = 5
number_of GoalOffMap = 6
number_of StartBlocked = 7
number_of GoalBlocked = 8
number_of ShortCosts = 9
number_of ShortWork = 10
number_of ShortRoute = 11
number_of LongRoute = 12
number_of NoZeros = 13
number_of TooBig = 14
number_of NoLimit = 15
number_of BadType = 21
number_of (BadHeight at) = 22
number_of (BadWidth at) = 23
number_of (BadMapLine at) = 24
number_of (NoCell at) = 25
number_of (NoLineEnd at) = 26
number_of (EndsTooSoon at) = 27
number_of (FurtherByte at) = 28
number_of ShortCells = 29
number_of ShortText = 30
number_of CutShort = 61
number_of NoAnswer = 62
number_of BadDirections = 63
number_of ShortRoom = 64

abbrev pub place_of : Refusal → ℕ
place_of BadSide = 0
place_of WrongLength = 0
place_of (NoWeight cell) = cell
place_of BadWays = 0
place_of StartOffMap = 0
place_of GoalOffMap = 0
place_of StartBlocked = 0
place_of GoalBlocked = 0
place_of ShortCosts = 0
place_of ShortWork = 0
place_of ShortRoute = 0
place_of LongRoute = 0
place_of NoZeros = 0
place_of TooBig = 0
place_of NoLimit = 0
place_of BadType = 0
place_of (BadHeight at) = at
place_of (BadWidth at) = at
place_of (BadMapLine at) = at
place_of (NoCell at) = at
place_of (NoLineEnd at) = at
place_of (EndsTooSoon at) = at
place_of (FurtherByte at) = at
place_of ShortCells = 0
place_of ShortText = 0
place_of CutShort = 0
place_of NoAnswer = 0
place_of BadDirections = 0
place_of ShortRoom = 0
