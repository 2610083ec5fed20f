-- A text as the writer writes it reads back: its header line by line, and then its rows.
use mathlib.Core.Path.{◌≡◌, refl}
use mathlib.Core.Bool.{true}
use mathlib.Core.List.{List, ◌++◌, append_assoc}
use Prim.Native.Nat.{ℕ, ◌+◌, ◌*◌, ◌≤◌, ◌<◌}
use lib.ListN.{length, drop}
use lib.Seq.{drop-drop, drop-append_seam}
use Rattle.floor.specs.Screen.{Passed}
use Rattle.floor.specs.Place.{greatest_side}
use Rattle.floor.specs.Refusal.{screen}
use Rattle.textlines.specs.Line.{side_line, begins}
use Rattle.textrows.specs.Rows.{rows, whole}
use Rattle.textrows.specs.Working.{Weights}
use Rattle.maptext.specs.Text.{type_line, height_word, width_word, map_line, header}
use Rattle.maptext.specs.Reading.{height_in, width_at, width_in, map_at, rows_at, header_lines, reading_of, read, rows_in}
use Rattle.textlines.proofs.Beginnings.{begins_append}
use Rattle.textlines.proofs.Sides.{side_in_is}
use Rattle.textrows.proofs.RowsBack.{rows_back}
use Rattle.maptext.proofs.Headers.{header_passed}

-- the four lines of a header, and what follows them
abbrev pub lines : ℕ → ℕ → List ℕ → List ℕ
lines w h rest = type_line ++ (side_line height_word h ++ (side_line width_word w ++ (map_line ++ rest)))

pub header_lines_lem : (w h : ℕ) (rest : List ℕ) → header w h ++ rest ≡ lines w h rest
unfolding header
header_lines_lem w h rest = simp append_assoc

-- the lines that a text begins with give its sides, whatever follows them
module _ (h : ℕ) (high : 0 < h) (high_top : h ≤ greatest_side) (rest : List ℕ) where
  pub height_line : height_in (type_line ++ (side_line height_word h ++ rest)) ≡ h
  height_line = side_in_is height_word _ h high high_top (begins_append (side_line height_word h) rest)

  pub after_height : drop (width_at (type_line ++ (side_line height_word h ++ rest))) (type_line ++ (side_line height_word h ++ rest)) ≡ rest
  after_height =
      rw (height_line, ← drop-drop (length (side_line height_word h)) 12 (type_line ++ (side_line height_word h ++ rest)))
      (drop-append_seam (side_line height_word h) rest)

module _ (w h : ℕ) (wide : 0 < w) (wide_top : w ≤ greatest_side) (high : 0 < h) (high_top : h ≤ greatest_side) (rest : List ℕ) where
  abbrev text : List ℕ
  text = type_line ++ (side_line height_word h ++ (side_line width_word w ++ rest))

  pub width_line : width_in text ≡ w
  width_line =
      rw (after_height h high high_top (side_line width_word w ++ rest))
      (side_in_is width_word _ w wide wide_top (begins_append (side_line width_word w) rest))

  pub after_width : drop (map_at text) text ≡ rest
  after_width =
      rw (width_line, ← drop-drop (length (side_line width_word w)) (width_at text) text, after_height h high high_top (side_line width_word w ++ rest))
      (drop-append_seam (side_line width_word w) rest)

module _ (w h : ℕ) (wide : 0 < w) (wide_top : w ≤ greatest_side) (high : 0 < h) (high_top : h ≤ greatest_side) (rest : List ℕ) where
  pub height_back : height_in (lines w h rest) ≡ h
  height_back = height_line h high high_top (side_line width_word w ++ (map_line ++ rest))

  pub width_back : width_in (lines w h rest) ≡ w
  width_back = width_line w h wide wide_top high high_top (map_line ++ rest)

  map_there : drop (map_at (lines w h rest)) (lines w h rest) ≡ map_line ++ rest
  map_there = after_width w h wide wide_top high high_top (map_line ++ rest)

  map_back : begins map_line (drop (map_at (lines w h rest)) (lines w h rest)) ≡ true
  map_back = rw map_there

  after_map : drop (rows_at (lines w h rest)) (lines w h rest) ≡ rest
  after_map = rw (← drop-drop 4 (map_at (lines w h rest)) (lines w h rest), map_there)

reading_is : (text : List ℕ) (room : ℕ) (m : List ℕ) → screen (header_lines text room) ≡ Passed
    → rows_in text ≡ whole m → reading_of text room ≡ read (width_in text) (height_in text) m
unfolding reading_of
reading_is text room m p e = rw (p, e)

pub lines_back : (w h : ℕ) (m : List ℕ) → 0 < w → w ≤ greatest_side → 0 < h → h ≤ greatest_side → length m ≡ h * w → Weights m
    → (room : ℕ) → w * h ≤ room → reading_of (lines w h (rows w h m)) room ≡ read w h m
lines_back w h m wide wide_top high high_top size weights room enough =
    let rest = rows w h m in
    let text = lines w h rest in
    let height = height_back w h wide wide_top high high_top rest in
    let width = width_back w h wide wide_top high high_top rest in
    let map = map_back w h wide wide_top high high_top rest in
    let p = header_passed text refl (rw height high_top) (rw width wide_top) map room (rw (width, height) enough) in
    rw (width, height) at
    (reading_is text room m p (rw (after_map w h wide wide_top high high_top rest, width, height) (rows_back w h _ m size weights)))
