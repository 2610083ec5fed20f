-- Rows in which nothing is refused: how long they are, and that their cells are the bytes that the second pass stores.
use mathlib.Core.Path.{◌≡◌, refl}
use mathlib.Core.Bool.{Bool, true, false, cond}
use mathlib.Core.List.{List, [], ◌∷◌, map}
use Prim.Native.Nat.{ℕ, zero, suc, ◌+◌, ◌*◌}
use native.Mathlib.Nat.{suc-mul}
use native.Mathlib.Omega.{arith}
use lib.Dec.{eqb}
use lib.ListN.{length, take, drop, length-drop}
use Rattle.floor.specs.Screen.{Passed}
use Rattle.textlines.specs.Line.{LF}
use Rattle.textrows.specs.Cell.{Cell, Weight, Blocked, NoCell, byte_in}
use Rattle.textrows.specs.Chars.{cell_of}
use Rattle.textrows.specs.Rows.{Rows, whole, fault, and_then, one_cell, read_row, read_rows}
use Rattle.textrows.specs.Working.{byte_for, byte_or_0, bytes_in, judged}
use Rattle.std.specs.Option.{is_some}
use Rattle.textrows.proofs.Judging.{row_there}

-- both parts of what passes have passed
both : (r s : Rows) → judged (and_then r s) ≡ Passed → (judged r ≡ Passed) × (judged s ≡ Passed)
both (whole a) (whole b) e = (refl, refl)
both (whole a) (fault n p) e = let z : ◌≡◌ {A = ℕ} 0 1 = cc in absurd (omega arith)
both (fault n p) s e = let z : ◌≡◌ {A = ℕ} 0 1 = cc in absurd (omega arith)

pub whole_cell : (cell : Cell) (at : ℕ) → is_some (byte_in cell) ≡ true → one_cell cell at ≡ whole (byte_for cell ∷ [])
whole_cell (Weight n) at e = refl
whole_cell Blocked at e = refl
whole_cell NoCell at e = let z : ◌≡◌ {A = ℕ} 0 1 = cc in absurd (omega arith)

cell_there : (cell : Cell) (at : ℕ) → judged (one_cell cell at) ≡ Passed → is_some (byte_in cell) ≡ true
cell_there (Weight n) at e = refl
cell_there Blocked at e = refl
cell_there NoCell at e = let z : ◌≡◌ {A = ℕ} 0 1 = cc in absurd (omega arith)

whole_row : (w at : ℕ) (text : List ℕ) → judged (read_row w at text) ≡ Passed → read_row w at text ≡ whole (map byte_or_0 (take w text))
whole_row w at [] e = let z : ◌≡◌ {A = ℕ} 0 1 = cc in absurd (omega arith)
whole_row zero at (b ∷ bs) e = go (eqb b LF) e
  where
    go : (t : Bool) → judged (cond t (whole []) (fault 26 at)) ≡ Passed → cond t (whole []) (fault 26 at) ≡ whole []
    go true e = refl
    go false e = let z : ◌≡◌ {A = ℕ} 0 1 = cc in absurd (omega arith)
whole_row (suc w) at (b ∷ bs) e =
    let p = both (one_cell (cell_of b) at) (read_row w (suc at) bs) e in
    rw (whole_cell (cell_of b) at (cell_there (cell_of b) at p.0), whole_row w (suc at) bs p.1)

pub whole_rows : (w h at : ℕ) (text : List ℕ) → judged (read_rows w h at text) ≡ Passed → read_rows w h at text ≡ whole (bytes_in w h text)
whole_rows w zero at [] e = refl
whole_rows w zero at (b ∷ bs) e = let z : ◌≡◌ {A = ℕ} 0 1 = cc in absurd (omega arith)
whole_rows w (suc h) at text e =
    let p = both (read_row w at text) (read_rows w h (at + suc w) (drop (suc w) text)) e in
    rw (whole_row w at text p.0, whole_rows w h (at + suc w) (drop (suc w) text) p.1)

pub rows_length : (w h at : ℕ) (text : List ℕ) → judged (read_rows w h at text) ≡ Passed → length text ≡ h * suc w
rows_length w zero at [] e = omega arith
rows_length w zero at (b ∷ bs) e = let z : ◌≡◌ {A = ℕ} 0 1 = cc in absurd (omega arith)
rows_length w (suc h) at text e =
    let p = both (read_row w at text) (read_rows w h (at + suc w) (drop (suc w) text)) e in
    omega (arith, row_there w at text p.0, rows_length w h (at + suc w) (drop (suc w) text) p.1, length-drop (suc w) text, suc-mul h (suc w))
