-- Which maps the program can use: 01, "The program".
use Rattle.std.specs.Prelude.{◌≡◌, Result, cond, ◌||◌, List, ℕ, ◌*◌, ltb, length}
use Rattle.floor.specs.declared.Floor.{Floor}
use Rattle.floor.specs.declared.refusals.Refusal.{Refusal}
use Rattle.maptext.specs.Reading.{Reading, refused, read, reading_of, numbers_of, read_for, cells_left}

abbrev pub greatest_text : ℕ
greatest_text = 4195

abbrev pub greatest_used_side : ℕ
greatest_used_side = 64

abbrev pub greatest_used_cells : ℕ
greatest_used_cells = greatest_used_side * greatest_used_side

-- 14: a side is too great for the program
abbrev pub within_sides : Reading → Reading
within_sides (refused n p) = refused n p
within_sides (read w h m) = cond (ltb greatest_used_side w || ltb greatest_used_side h) (refused 14 0) (read w h m)

-- the text is too long, 14; then the reader's refusals, with a cell room of that length; then the sides
unfoldable pub used_of : List ℕ → ℕ → Reading
used_of text room = cond (ltb greatest_text (length text)) (refused 14 0) (within_sides (reading_of text room))

-- the promise, for a room of any length and content: the answer, and what the room holds afterwards
pub record IsUsed (text room : List ℕ) (r : Result Floor Refusal) (room' : List ℕ) : Type 0 where
  pub answers : numbers_of r ≡ read_for (used_of text (length room))
  pub leaves : room' ≡ cells_left (used_of text (length room)) room
