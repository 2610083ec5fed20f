-- What is known of a text that reads as a map: its header has passed, its rows are whole, and the map passes the writer's refusals.
use mathlib.Core.Path.{◌≡◌, refl, sym, ap, ◌∙◌}
use mathlib.Core.List.{List}
use Prim.Native.Nat.{ℕ, suc, ◌+◌, ◌*◌, ◌≤◌, ◌<◌}
use native.Mathlib.Nat.{mul_comm, mul-pos, le_of_eq}
use native.Mathlib.Omega.{arith}
use lib.Dec.{nltb→le}
use lib.ListN.{length, drop, length-drop}
use Rattle.floor.specs.Screen.{Screen, Passed, Refused}
use Rattle.floor.specs.Place.{greatest_side, cells}
use Rattle.floor.specs.Refusal.{screen}
use Rattle.floor.proofs.Screens.{none_given}
use Rattle.floor.proofs.Passing.{MapFacts}
use Rattle.textrows.specs.Rows.{Rows, whole, fault, read_rows}
use Rattle.textrows.specs.Working.{bytes_in, judged}
use Rattle.maptext.specs.Reading.{read, height_in, width_in, rows_at, header_lines, of_rows, after_header, reading_of, rows_in}
use Rattle.textlines.proofs.Sides.{side_positive}
use Rattle.textrows.proofs.Filling.{bytes_length}
use Rattle.textrows.proofs.Whole.{whole_rows, rows_length}
use Rattle.textrows.proofs.Weights.{weights_bytes}

whole_inj : {m n : List ℕ} → whole m ≡ whole n → m ≡ n
whole_inj e = cc

-- a text that was read, with a room of that length
pub record IsFound (text : List ℕ) (room w h : ℕ) (m : List ℕ) : Type 0 where
  pub passed : screen (header_lines text room) ≡ Passed
  pub width : w ≡ width_in text
  pub height : h ≡ height_in text
  pub rows : read_rows w h (rows_at text) (drop (rows_at text) text) ≡ whole m

pub found : (text : List ℕ) (room w h : ℕ) (m : List ℕ) → reading_of text room ≡ read w h m → IsFound text room w h m
unfolding reading_of
found text room w h m e = go (screen (header_lines text room)) refl e
  where
    of_rows_lem : (x : Rows) → rows_in text ≡ x → screen (header_lines text room) ≡ Passed
        → of_rows (width_in text) (height_in text) x ≡ read w h m → IsFound text room w h m
    of_rows_lem (whole n) q p e =
        let width : w ≡ width_in text = cc in
        let height : h ≡ height_in text = cc in
        let cells : n ≡ m = cc in
        record { passed = p; width = width; height = height; rows = rw (width, height) (q ∙ ap whole cells) }
    of_rows_lem (fault n p) q s e = let z : ◌≡◌ {A = ℕ} 0 1 = cc in absurd (omega arith)

    go : (s : Screen) → screen (header_lines text room) ≡ s → after_header text s ≡ read w h m → IsFound text room w h m
    go Passed p e = of_rows_lem (rows_in text) refl p e
    go (Refused n p) q e = let z : ◌≡◌ {A = ℕ} 0 1 = cc in absurd (omega arith)

module _ {text : List ℕ} {room w h : ℕ} {m : List ℕ} (x : IsFound text room w h m) where
  -- the room was long enough
  pub found_room : w * h ≤ room
  found_room =
      let n = none_given (header_lines text room) x.passed in
      rw (x.width, x.height) (nltb→le room (width_in text * height_in text) n.1.1.1.1.0)

  found_rows : judged (read_rows w h (rows_at text) (drop (rows_at text) text)) ≡ Passed
  found_rows = rw x.rows

  pub found_bytes : m ≡ bytes_in w h (drop (rows_at text) text)
  found_bytes = whole_inj (sym x.rows ∙ whole_rows w h (rows_at text) (drop (rows_at text) text) found_rows)

  found_length : length (drop (rows_at text) text) ≡ h * suc w
  found_length = rows_length w h (rows_at text) (drop (rows_at text) text) found_rows

  pub found_facts : MapFacts (record { width = w; height = h; ways = 8 }) m
  found_facts =
      let n = none_given (header_lines text room) x.passed in
      let rest = drop (rows_at text) text in
      record {
        wide = rw x.width (side_positive _ _);
        wide_top = rw x.width (nltb→le greatest_side (width_in text) n.1.1.0);
        high = rw x.height (side_positive _ _);
        high_top = rw x.height (nltb→le greatest_side (height_in text) n.1.0);
        covers = rw found_bytes (bytes_length w h rest (le_of_eq (sym found_length)) ∙ mul_comm h w);
        weights = rw found_bytes (weights_bytes w h rest);
      }

  -- the rows are the text's last h × (w + 1) bytes
  pub found_end : rows_at text + h * suc w ≡ length text
  found_end =
      let some : 0 < suc w = omega arith in
      let rows = mul-pos found_facts.high some in
      omega (arith, found_length, length-drop (rows_at text) text, rows)
