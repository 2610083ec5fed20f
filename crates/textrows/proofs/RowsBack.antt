-- The rows of a map read back: the character of each weight, then cell by cell and row by row.
use mathlib.Core.Path.{◌≡◌, refl, sym, ◌∙◌}
use mathlib.Core.Bool.{◌&&◌}
use mathlib.Core.List.{List, [], ◌∷◌, ◌++◌, map, append_assoc}
use Prim.Native.Nat.{ℕ, zero, suc, ◌+◌, ◌*◌, ◌≤◌}
use native.Mathlib.Nat.{suc-mul}
use native.Mathlib.Omega.{arith}
use lib.Dec.{T, eqb, eqb→eq}
use lib.ListN.{length, take, drop, length-append, length-drop, take-append-drop}
use lib.Seq.{drop_at, get_or-drop}
use Rattle.paths.proofs.Bools.{T_true, T_and}
use Rattle.paths.proofs.Below.{every_at}
use Rattle.floor.specs.Place.{greatest_weight}
use Rattle.textlines.specs.Line.{LF}
use Rattle.textrows.specs.Chars.{cell_of, char_of}
use Rattle.textrows.specs.Rows.{rows, whole, one_cell, read_row, read_rows}
use Rattle.textrows.specs.Working.{byte_for, Weights}
use Rattle.std.specs.Option.{is_some}
use Rattle.textrows.specs.Cell.{byte_in}
use Rattle.textrows.proofs.Filling.{mapped_length}
use Rattle.textrows.proofs.Whole.{whole_cell}

-- the character of every weight is a cell, and its byte is the weight
cell_back : (c : ℕ) → c ≤ greatest_weight → T (is_some (byte_in (cell_of (char_of c))) && eqb (byte_for (cell_of (char_of c))) c)
unfolding cell_of
cell_back c h = every_at (λ c. is_some (byte_in (cell_of (char_of c))) && eqb (byte_for (cell_of (char_of c))) c) (suc greatest_weight) tt c (omega arith)

one_cell_back : (c at : ℕ) → c ≤ greatest_weight → one_cell (cell_of (char_of c)) at ≡ whole (c ∷ [])
one_cell_back c at h =
    let t = T_and (is_some (byte_in (cell_of (char_of c)))) (eqb (byte_for (cell_of (char_of c))) c) (cell_back c h) in
    whole_cell (cell_of (char_of c)) at (T_true (is_some (byte_in (cell_of (char_of c)))) t.0) ∙ rw (eqb→eq (byte_for (cell_of (char_of c))) c t.1)

row_back : (w at : ℕ) (m rest : List ℕ) → w ≤ length m → Weights m → read_row w at (map char_of (take w m) ++ (LF ∷ rest)) ≡ whole (take w m)
row_back zero at m rest h k = refl
row_back (suc w) at [] rest h k = absurd (omega arith)
row_back (suc w) at (c ∷ m) rest h k = rw (one_cell_back c at (k 0), row_back w (suc at) m rest (omega arith) (λ v. k (suc v)))

pub rows_back : (w h at : ℕ) (m : List ℕ) → length m ≡ h * w → Weights m → read_rows w h at (rows w h m) ≡ whole m
rows_back w zero at [] e k = refl
rows_back w zero at (c ∷ m) e k = absurd (omega arith)
rows_back w (suc h) at m e k =
    let row = map char_of (take w m) in
    let fits : w ≤ length m = omega (arith, suc-mul h w) in
    let text : row ++ (LF ∷ rows w h (drop w m)) ≡ row ++ (LF ∷ []) ++ rows w h (drop w m) = sym (append_assoc row (LF ∷ []) (rows w h (drop w m))) in
    let size : length (row ++ (LF ∷ [])) ≡ suc w = omega (arith, length-append row (LF ∷ []), mapped_length char_of w m fits) in
    let after : drop (suc w) (row ++ (LF ∷ rows w h (drop w m))) ≡ rows w h (drop w m) = rw text (drop_at (row ++ (LF ∷ [])) (rows w h (drop w m)) (suc w) size) in
    let rest = rows_back w h (at + suc w) (drop w m) (omega (arith, suc-mul h w, length-drop w m)) (λ v. rw (get_or-drop w m v 0) (k (w + v))) in
    rw (row_back w at m (rows w h (drop w m)) fits k, after, rest, take-append-drop w m)
