-- What a text reads as: a map, or the first refusal of 21 to 29 in 01's order.
use Rattle.std.specs.Prelude.{◌≡◌, not, Result, Ok, Err, List, [], ◌∷◌, ◌++◌, ℕ, ◌+◌, ◌*◌, ltb, length, drop}
use Rattle.floor.specs.declared.Floor.{Floor}
use Rattle.floor.specs.declared.refusals.Refusal.{Refusal}
use Rattle.floor.specs.Screen.{Screen, Passed, Refused}
use Rattle.floor.specs.Place.{greatest_side}
use Rattle.floor.specs.Refusal.{Line, line, screen}
use Rattle.floor.specs.Numbers.{Numbers, gives, refused_as}
use Rattle.textlines.specs.Line.{side_line, begins, side_in}
use Rattle.textrows.specs.Rows.{Rows, whole, fault, read_rows}
use Rattle.maptext.specs.Text.{type_line, height_word, width_word, map_line}

-- where the lines of a header start, and the sides that they give
abbrev pub height_in : List ℕ → ℕ
height_in text = side_in height_word (drop (length type_line) text)

abbrev pub width_at : List ℕ → ℕ
width_at text = length type_line + length (side_line height_word (height_in text))

abbrev pub width_in : List ℕ → ℕ
width_in text = side_in width_word (drop (width_at text) text)

abbrev pub map_at : List ℕ → ℕ
map_at text = width_at text + length (side_line width_word (width_in text))

abbrev pub rows_at : List ℕ → ℕ
rows_at text = map_at text + length map_line

abbrev pub rows_in : List ℕ → Rows
rows_in text = read_rows (width_in text) (height_in text) (rows_at text) (drop (rows_at text) text)

-- 21 to 24: the first to fourth line is not as it should be, at its start; then 29: the cell room is too short
abbrev pub header_lines : List ℕ → ℕ → List Line
header_lines text room =
    line 21 (not (begins type_line text)) 0
    ∷ line 22 (ltb greatest_side (height_in text)) (length type_line)
    ∷ line 23 (ltb greatest_side (width_in text)) (width_at text)
    ∷ line 24 (not (begins map_line (drop (map_at text) text))) (map_at text)
    ∷ line 29 (ltb room (width_in text * height_in text)) 0
    ∷ []

pub data Reading : Type 0 where
  refused : ℕ → ℕ → Reading
  read : ℕ → ℕ → List ℕ → Reading

abbrev pub of_rows : ℕ → ℕ → Rows → Reading
of_rows w h (whole m) = read w h m
of_rows w h (fault n p) = refused n p

abbrev pub after_header : List ℕ → Screen → Reading
after_header text Passed = of_rows (width_in text) (height_in text) (rows_in text)
after_header text (Refused n p) = refused n p

-- the reading of a text, with a cell room of that length
unfoldable pub reading_of : List ℕ → ℕ → Reading
reading_of text room = after_header text (screen (header_lines text room))

-- 01's numbers of each case: width, height and ways, or the refusal
abbrev pub numbers_of : Result Floor Refusal → Numbers
numbers_of (Ok f) = gives (f.width ∷ f.height ∷ f.ways ∷ [])
numbers_of (Err r) = refused_as r

-- the reader's answer, in which ways is always 8, and what its room holds afterwards
abbrev pub read_for : Reading → Numbers
read_for (refused n p) = Numbers.refused n p
read_for (read w h m) = gives (w ∷ h ∷ 8 ∷ [])

abbrev pub cells_left : Reading → List ℕ → List ℕ
cells_left (refused n p) room = room
cells_left (read w h m) room = m ++ drop (length m) room

-- the reader's promise, for a room of any length and content
pub record IsRead (text room : List ℕ) (r : Result Floor Refusal) (room' : List ℕ) : Type 0 where
  pub answers : numbers_of r ≡ read_for (reading_of text (length room))
  pub leaves : room' ≡ cells_left (reading_of text (length room)) room
