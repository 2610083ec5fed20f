-- What is refused of rows: cell by cell of a row, and row by row.
use mathlib.Core.Path.{◌≡◌, refl, sym, ap, ◌∙◌}
use mathlib.Core.Logic.{◌≢◌}
use mathlib.Core.Bool.{true, false}
use mathlib.Core.List.{List, [], ◌∷◌}
use Prim.Native.Nat.{ℕ, zero, suc, ◌+◌, ◌-◌, ◌≤◌, ◌<◌}
use native.Mathlib.Numerals.{add-one}
use native.Mathlib.Omega.{arith}
use borrow.Author.Tests.{eq-eqb, ne_eqb}
use lib.ListN.{length, get_or, drop, drop_of_length-le}
use lib.Seq.{drop-cons, drop-drop}
use Rattle.floor.specs.Screen.{Passed, Refused}
use Rattle.textlines.specs.Line.{LF}
use Rattle.textrows.specs.Cell.{Cell, Weight, Blocked, NoCell, byte_in}
use Rattle.textrows.specs.Chars.{cell_of}
use Rattle.textrows.specs.Rows.{Rows, whole, fault, and_then, one_cell, read_row, read_rows}
use Rattle.textrows.specs.Working.{judged}
use Rattle.std.specs.Option.{is_some}

judged_whole : (m : List ℕ) (r : Rows) → judged (and_then (whole m) r) ≡ judged r
judged_whole m (whole b) = refl
judged_whole m (fault n p) = refl

judged_cell : (cell : Cell) (at : ℕ) (r : Rows) → is_some (byte_in cell) ≡ true → judged (and_then (one_cell cell at) r) ≡ judged r
judged_cell (Weight n) at r e = judged_whole (n ∷ []) r
judged_cell Blocked at r e = judged_whole (0 ∷ []) r
judged_cell NoCell at r e = let z : ◌≡◌ {A = ℕ} 0 1 = cc in absurd (omega arith)

judged_no_cell : (cell : Cell) (at : ℕ) (r : Rows) → is_some (byte_in cell) ≡ false → judged (and_then (one_cell cell at) r) ≡ Refused 25 at
judged_no_cell (Weight n) at r e = let z : ◌≡◌ {A = ℕ} 0 1 = cc in absurd (omega arith)
judged_no_cell Blocked at r e = let z : ◌≡◌ {A = ℕ} 0 1 = cc in absurd (omega arith)
judged_no_cell NoCell at r e = refl

-- the row's characters from x on
module _ (w at : ℕ) (row : List ℕ) (x : ℕ) where
  pub row_ends : length row ≤ x → judged (read_row (w - x) (at + x) (drop x row)) ≡ Refused 27 (at + x)
  row_ends h = rw (drop_of_length-le row h)

  module _ (h : x < w) (k : x < length row) where
    next_cell : read_row (w - x) (at + x) (drop x row) ≡ and_then (one_cell (cell_of (get_or row x 0)) (at + x)) (read_row (w - (x + 1)) (at + (x + 1)) (drop (x + 1) row))
    next_cell =
        let e : w - x ≡ suc (w - (x + 1)) = omega arith in
        let f : at + suc x ≡ suc (at + x) = omega arith in
        rw (e, drop-cons row x 0 k, add-one, f)

    pub row_cell : is_some (byte_in (cell_of (get_or row x 0))) ≡ true
        → judged (read_row (w - x) (at + x) (drop x row)) ≡ judged (read_row (w - (x + 1)) (at + (x + 1)) (drop (x + 1) row))
    row_cell t = rw next_cell (judged_cell (cell_of (get_or row x 0)) (at + x) _ t)

    pub row_no_cell : is_some (byte_in (cell_of (get_or row x 0))) ≡ false → judged (read_row (w - x) (at + x) (drop x row)) ≡ Refused 25 (at + x)
    row_no_cell t = rw next_cell (judged_no_cell (cell_of (get_or row x 0)) (at + x) _ t)

  module _ (h : w ≤ x) (k : x < length row) where
    pub row_full : get_or row x 0 ≡ LF → judged (read_row (w - x) (at + x) (drop x row)) ≡ Passed
    row_full t =
        let e : w - x ≡ 0 = omega arith in
        rw (e, drop-cons row x 0 k, eq-eqb (get_or row x 0) LF t)

    pub row_too_long : get_or row x 0 ≢ LF → judged (read_row (w - x) (at + x) (drop x row)) ≡ Refused 26 (at + x)
    row_too_long t =
        let e : w - x ≡ 0 = omega arith in
        rw (e, drop-cons row x 0 k, ne_eqb (get_or row x 0) LF t)

judged_fault : (r s : Rows) (n p : ℕ) → judged r ≡ Refused n p → judged (and_then r s) ≡ Refused n p
judged_fault (whole m) s n p e = let z : ◌≡◌ {A = ℕ} 0 1 = cc in absurd (omega arith)
judged_fault (fault m q) s n p e = e

judged_passed : (r s : Rows) → judged r ≡ Passed → judged (and_then r s) ≡ judged s
judged_passed (whole m) s e = judged_whole m s
judged_passed (fault n p) s e = let z : ◌≡◌ {A = ℕ} 0 1 = cc in absurd (omega arith)

-- a row without fault is there with its LF
pub row_there : (w at : ℕ) (row : List ℕ) → judged (read_row w at row) ≡ Passed → w < length row
row_there w at [] e = let z : ◌≡◌ {A = ℕ} 0 1 = cc in absurd (omega arith)
row_there zero at (b ∷ bs) e = omega arith
row_there (suc w) at (b ∷ bs) e = let h = row_there w (suc at) bs (go (cell_of b) e) in omega arith
  where
    go : (cell : Cell) → judged (and_then (one_cell cell at) (read_row w (suc at) bs)) ≡ Passed → judged (read_row w (suc at) bs) ≡ Passed
    go (Weight n) e = sym (judged_whole (n ∷ []) (read_row w (suc at) bs)) ∙ e
    go Blocked e = sym (judged_whole (0 ∷ []) (read_row w (suc at) bs)) ∙ e
    go NoCell e = let z : ◌≡◌ {A = ℕ} 0 1 = cc in absurd (omega arith)

-- the rows from offset `at` on, once y of them are judged
module _ (w h y at : ℕ) (text : List ℕ) (l : y < h) where
  next_row : read_rows w (h - y) at (drop at text) ≡ and_then (read_row w at (drop at text)) (read_rows w (h - (y + 1)) (at + (w + 1)) (drop (at + (w + 1)) text))
  next_row =
      let e : h - y ≡ suc (h - (y + 1)) = omega arith in
      ap (λ (k : ℕ). read_rows w k at (drop at text)) e ∙ rw (drop-drop, add-one w)

  pub rows_fault : (n p : ℕ) → judged (read_row w at (drop at text)) ≡ Refused n p → judged (read_rows w (h - y) at (drop at text)) ≡ Refused n p
  rows_fault n p e = rw next_row (judged_fault (read_row w at (drop at text)) _ _ _ e)

  pub rows_on : judged (read_row w at (drop at text)) ≡ Passed
      → judged (read_rows w (h - y) at (drop at text)) ≡ judged (read_rows w (h - (y + 1)) (at + (w + 1)) (drop (at + (w + 1)) text))
  rows_on e = rw next_row (judged_passed (read_row w at (drop at text)) _ e)

-- no row is left
pub further_byte : (w at left : ℕ) (text : List ℕ) → left ≡ 0 → at < length text → judged (read_rows w left at (drop at text)) ≡ Refused 28 at
further_byte w at left text e h = rw (e, drop-cons text at 0 h)

pub text_ends : (w at left : ℕ) (text : List ℕ) → left ≡ 0 → length text ≤ at → judged (read_rows w left at (drop at text)) ≡ Passed
text_ends w at left text e h = rw (e, drop_of_length-le text h)
