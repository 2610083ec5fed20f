-- How long a header, rows and a text are, and that no text is longer than that of the greatest floor.
use mathlib.Core.Path.{◌≡◌}
use mathlib.Core.List.{List}
use Prim.Native.Nat.{ℕ, suc, ◌+◌, ◌*◌, ◌≤◌, suc-le-suc}
use native.Mathlib.Nat.{mul_comm, mul-le-mul}
use native.Mathlib.Omega.{arith}
use lib.ListN.{length, length-append}
use Rattle.floor.specs.declared.Floor.{Floor}
use Rattle.floor.specs.Screen.{Passed}
use Rattle.floor.specs.Place.{greatest_side}
use Rattle.floor.specs.Refusal.{screen, map_lines}
use Rattle.floor.proofs.Passing.{map_facts}
use Rattle.textlines.specs.Line.{side_line}
use Rattle.textlines.proofs.Decimals.{line_length}
use Rattle.textrows.specs.Rows.{rows}
use Rattle.maptext.specs.Text.{height_word, width_word, header, text_of}
use Rattle.textrows.proofs.Filling.{rows_text_length}

pub header_length : (w h : ℕ) → length (header w h) ≡ 12 + length (side_line height_word h) + length (side_line width_word w) + 4
unfolding header
header_length w h = simp length-append

pub text_length : (w h : ℕ) (m : List ℕ) → h * w ≤ length m → length (text_of w h m) ≡ length (header w h) + h * suc w
unfolding text_of
text_length w h m k = omega (arith, length-append (header w h) (rows w h m), rows_text_length w h m k)

pub longest_text : (f : Floor) (m : List ℕ) → screen (map_lines f m) ≡ Passed
    → length (text_of f.width f.height m) ≤ 39 + greatest_side * suc greatest_side
longest_text f m p =
    let k = map_facts f m p in
    omega (
      arith,
      text_length f.width f.height m (omega (arith, k.covers, mul_comm f.width f.height)),
      header_length f.width f.height,
      line_length height_word f.height k.high k.high_top,
      line_length width_word f.width k.wide k.wide_top,
      mul-le-mul k.high_top (suc-le-suc k.wide_top),
    )
