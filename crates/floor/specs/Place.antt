-- Cells and their places on the map. Columns and rows are counted from 1, so that 0 is off the map to the west or the north.
use Rattle.std.specs.Prelude.{Bool, ◌&&◌, List, ℕ, ◌+◌, ◌-◌, ◌*◌, ◌/◌, ◌%◌, ◌≤◌, ◌<◌, leb, ltb, get_or}
use Rattle.paths.specs.Graph.{MARK}
use Rattle.floor.specs.declared.Direction.{Direction}
use Rattle.floor.specs.declared.Floor.{Floor}
use Rattle.floor.specs.declared.Place.{Place}
use Rattle.floor.specs.Direction.{row_of, plus_one}

abbrev pub greatest_side : ℕ
greatest_side = 1024

abbrev pub greatest_weight : ℕ
greatest_weight = 9

unfoldable pub is_side : ℕ → Bool
is_side n = ltb 0 n && leb n greatest_side

unfoldable pub has_sides : Floor → Bool
has_sides f = is_side f.width && is_side f.height

abbrev pub floor_of : ℕ → ℕ → ℕ → Floor
floor_of w h n = record { width = w; height = h; ways = n }

abbrev pub cells : Floor → ℕ
cells f = f.width * f.height

abbrev pub at : ℕ → ℕ → Place
at x y = record { column = x; row = y }

abbrev pub place_of : Floor → ℕ → Place
place_of f v = at (v % f.width + 1) (v / f.width + 1)

abbrev pub cell_at : Floor → Place → ℕ
cell_at f p = (p.row - 1) * f.width + (p.column - 1)

-- a place that distances can be taken from: not 0, and far from the greatest number
pub record IsNear (p : Place) : Type 0 where
  pub column : 0 < p.column
  pub column_small : p.column ≤ MARK
  pub row : 0 < p.row
  pub row_small : p.row ≤ MARK

-- one step by a row of the table from p: dx columns east and dy rows south (proofs/Rows.antt, moved_east and moved_south)
abbrev pub moved_by : Place → Direction → Place
moved_by p r = at (p.column + plus_one r.dx - 1) (p.row + plus_one r.dy - 1)

-- one step in direction d from p
abbrev pub moved : Place → ℕ → Place
moved p d = moved_by p (row_of d)

-- the place with p's column and q's row: beside a diagonal step between them
abbrev pub corner : Place → Place → Place
corner p q = at p.column q.row

unfoldable pub on_map : Floor → Place → Bool
on_map f p = ltb 0 p.column && leb p.column f.width && (ltb 0 p.row && leb p.row f.height)

-- on the map and not blocked
unfoldable pub is_open : Floor → List ℕ → Place → Bool
is_open f m p = on_map f p && ltb 0 (get_or m (cell_at f p) 0)
