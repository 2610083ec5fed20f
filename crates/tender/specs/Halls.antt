-- 02, R-7: bigger halls. The sides that the library and the text take, what no size and no cost exceeds, and that the program stays as it was.
use Rattle.std.specs.Prelude.{◌≡◌, ◌↔◌, ◌⊎◌, Ok, Err, List, ℕ, ◌*◌, ◌≤◌, ◌<◌, T, length}
use Rattle.paths.specs.Graph.{MARK}
use Rattle.floor.specs.declared.Floor.{Floor}
use Rattle.floor.specs.declared.refusals.Refusal.TheVariants.{TooBig}
use Rattle.floor.specs.Screen.{Passed}
use Rattle.floor.specs.Place.{has_sides, cells}
use Rattle.floor.specs.Refusal.{screen, map_lines}
use Rattle.floor.specs.Step.{greatest_cost}
use Rattle.maptext.specs.Text.{text_of}
use Rattle.maptext.specs.Reading.{IsRead}
use Rattle.mapuse.specs.Use.{IsUsed}

-- "Sides go to 1,024"
abbrev pub InHalls : Floor → Type 0
InHalls f = ((1 ≤ f.width) × (f.width ≤ 1024)) × ((1 ≤ f.height) × (f.height ≤ 1024))

pub record Halls : Type 0 where
  -- "in the library" and refusal 1, whose line applies exactly where a map has no such sides
  pub sides : (f : Floor) → T (has_sides f) ↔ InHalls f
  -- "the text": no text is read as a map without such sides (that every map with them reads back is the second condition's)
  pub text : (text room : List ℕ) (f : Floor) (room' : List ℕ) → IsRead text room (Ok f) room' → InHalls f
  -- what rooms are enough for any map that passes refusals 1 to 3
  pub cell_room : (f : Floor) (m : List ℕ) → screen (map_lines f m) ≡ Passed → cells f ≤ 1048576
  pub text_room : (f : Floor) (m : List ℕ) → screen (map_lines f m) ≡ Passed → length (text_of f.width f.height m) ≤ 1049639
  -- "The greatest cost is 1,048,575 × 99 × 18 = 1,868,560,650, still below MARK": no answer has a cost or a floor above it (BothCells)
  pub cost : greatest_cost ≡ 1048575 * 99 * 18
  pub cost_is : greatest_cost ≡ 1868560650
  pub below_mark : greatest_cost < MARK
  -- "The program stays at 64", and at 4,195 bytes: what it can use is no larger, and a larger map that can be read is refused with 14 at 0, `TooBig`
  pub program : (text room : List ℕ) (f : Floor) (room' : List ℕ) → IsUsed text room (Ok f) room'
      → (f.width ≤ 64) × (f.height ≤ 64) × (length text ≤ 4195)
  pub too_large : (text room : List ℕ) (f : Floor) (room' : List ℕ) → IsRead text room (Ok f) room' → (64 < f.width) ⊎ (64 < f.height)
      → IsUsed text room (Err TooBig) room
