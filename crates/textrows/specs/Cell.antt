-- What a character of a row means.
use Rattle.std.specs.Prelude.{Option, Some, None, ℕ}

pub data Cell : Type 0 where
  Weight : ℕ → Cell
  Blocked : Cell
  NoCell : Cell

-- the byte that the character has in the map, if it is a cell's: a blocked cell has 0
abbrev pub byte_in : Cell → Option ℕ
byte_in (Weight n) = Some n
byte_in Blocked = Some 0
byte_in NoCell = None
