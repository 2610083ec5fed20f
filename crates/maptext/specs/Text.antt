-- The text of a map, as the writer writes it.
use Rattle.std.specs.Prelude.{◌≡◌, Result, List, [], ◌∷◌, ◌++◌, ℕ, ltb, length, drop}
use Rattle.floor.specs.declared.Floor.{Floor}
use Rattle.floor.specs.declared.refusals.Refusal.{Refusal}
use Rattle.floor.specs.Screen.{Screen, Passed, Refused}
use Rattle.floor.specs.Refusal.{Line, line, screen, map_lines}
use Rattle.floor.specs.Numbers.{Numbers, gives, after_screen, written_as}
use Rattle.textlines.specs.Line.{LF, side_line}
use Rattle.textrows.specs.Rows.{rows}

-- `type octile`, `height `, `width `, `map`
abbrev pub type_line : List ℕ
type_line = 116 ∷ 121 ∷ 112 ∷ 101 ∷ 32 ∷ 111 ∷ 99 ∷ 116 ∷ 105 ∷ 108 ∷ 101 ∷ LF ∷ []

abbrev pub height_word : List ℕ
height_word = 104 ∷ 101 ∷ 105 ∷ 103 ∷ 104 ∷ 116 ∷ 32 ∷ []

abbrev pub width_word : List ℕ
width_word = 119 ∷ 105 ∷ 100 ∷ 116 ∷ 104 ∷ 32 ∷ []

abbrev pub map_line : List ℕ
map_line = 109 ∷ 97 ∷ 112 ∷ LF ∷ []

unfoldable pub header : ℕ → ℕ → List ℕ
header w h = type_line ++ side_line height_word h ++ side_line width_word w ++ map_line

unfoldable pub text_of : ℕ → ℕ → List ℕ → List ℕ
text_of w h m = header w h ++ rows w h m

-- the writer's refusals: 1 to 3, then 30: the room is too short
abbrev pub write_lines : Floor → List ℕ → ℕ → List Line
write_lines f m room = map_lines f m ++ (line 30 (ltb room (length (text_of f.width f.height m))) 0 ∷ [])

-- the writer's answer, for a room of that length, and what the room holds afterwards
abbrev pub written_for : Floor → List ℕ → ℕ → Numbers
written_for f m room = after_screen (screen (write_lines f m room)) (gives (length (text_of f.width f.height m) ∷ []))

abbrev pub text_left : List ℕ → List ℕ → Screen → List ℕ
text_left text room Passed = text ++ drop (length text) room
text_left text room (Refused n p) = room

-- the writer's promise, for a room of any length and content
pub record IsWritten (f : Floor) (m room : List ℕ) (r : Result ℕ Refusal) (room' : List ℕ) : Type 0 where
  pub answers : written_as r ≡ written_for f m (length room)
  pub leaves : room' ≡ text_left (text_of f.width f.height m) room (screen (write_lines f m (length room)))

-- the writer could have written the text: it is the text of a floor and a map that pass 1 to 3
pub record CouldWrite (text : List ℕ) : Type 0 where
  pub floor : Floor
  pub map : List ℕ
  pub passes : screen (map_lines floor map) ≡ Passed
  pub writes : text_of floor.width floor.height map ≡ text
