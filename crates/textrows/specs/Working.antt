-- What the functions of rows promise to each other and to their callers. What a row means is in Chars and Rows.
use Rattle.std.specs.Prelude.{List, [], ◌++◌, map, ℕ, zero, suc, ◌≤◌, get_or, take, drop}
use Rattle.floor.specs.Screen.{Screen, Passed, Refused}
use Rattle.floor.specs.Place.{greatest_weight}
use Rattle.textrows.specs.Cell.{Cell, Weight, Blocked, NoCell}
use Rattle.textrows.specs.Chars.{cell_of}
use Rattle.textrows.specs.Rows.{Rows, whole, fault}

-- the byte that a character has in the map; no cell has none, and 0 stands in
abbrev pub byte_for : Cell → ℕ
byte_for (Weight n) = n
byte_for Blocked = 0
byte_for NoCell = 0

abbrev pub byte_or_0 : ℕ → ℕ
byte_or_0 b = byte_for (cell_of b)

-- the bytes of h rows of w characters, each with one byte after it
abbrev pub bytes_in : ℕ → ℕ → List ℕ → List ℕ
bytes_in w zero text = []
bytes_in w (suc h) text = map byte_or_0 (take w text) ++ bytes_in w h (drop (suc w) text)

-- what is refused of rows
abbrev pub judged : Rows → Screen
judged (whole m) = Passed
judged (fault n p) = Refused n p

-- every byte of a map is a weight; past the end too, where `get_or` gives its default
abbrev pub Weights : List ℕ → Type 0
Weights m = (v : ℕ) → get_or m v 0 ≤ greatest_weight
