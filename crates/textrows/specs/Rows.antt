-- The rows of a map text, as they are written and as they are read.
use Rattle.std.specs.Prelude.{cond, List, [], ◌∷◌, ◌++◌, map, ℕ, zero, suc, ◌+◌, eqb, take, drop}
use Rattle.textlines.specs.Line.{LF}
use Rattle.textrows.specs.Cell.{Cell, Weight, Blocked, NoCell}
use Rattle.textrows.specs.Chars.{cell_of, char_of}

-- h rows of w characters, each with its LF
abbrev pub rows : ℕ → ℕ → List ℕ → List ℕ
rows w zero m = []
rows w (suc h) m = map char_of (take w m) ++ (LF ∷ rows w h (drop w m))

-- cells read in rows, or the fault that was met first
pub data Rows : Type 0 where
  whole : List ℕ → Rows
  fault : ℕ → ℕ → Rows

abbrev pub and_then : Rows → Rows → Rows
and_then (whole a) (whole b) = whole (a ++ b)
and_then (whole a) (fault n p) = fault n p
and_then (fault n p) r = fault n p

abbrev pub one_cell : Cell → ℕ → Rows
one_cell (Weight n) at = whole (n ∷ [])
one_cell Blocked at = whole (0 ∷ [])
one_cell NoCell at = fault 25 at

-- w cells and their LF are due at offset `at` of the text, of which this is the rest
abbrev pub read_row : ℕ → ℕ → List ℕ → Rows
read_row w at [] = fault 27 at
read_row zero at (b ∷ bs) = cond (eqb b LF) (whole []) (fault 26 at)
read_row (suc w) at (b ∷ bs) = and_then (one_cell (cell_of b) at) (read_row w (suc at) bs)

-- h rows are due, and nothing after
abbrev pub read_rows : ℕ → ℕ → ℕ → List ℕ → Rows
read_rows w zero at [] = whole []
read_rows w zero at (b ∷ bs) = fault 28 at
read_rows w (suc h) at text = and_then (read_row w at text) (read_rows w h (at + suc w) (drop (suc w) text))
