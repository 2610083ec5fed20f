-- The header, line by line: what each refusal answers, and that the text goes on where the next line starts.
use mathlib.Core.Path.{◌≡◌, refl, sym, ap, ◌∙◌}
use mathlib.Core.Bool.{true, false}
use mathlib.Core.List.{List, [], ◌∷◌}
use Prim.Native.Nat.{ℕ, ◌+◌, ◌*◌, ◌≤◌, ◌<◌}
use native.Mathlib.Omega.{arith}
use borrow.Author.Tests.{lt-ltb, le-ltb}
use lib.Dec.{T}
use lib.ListN.{length, drop, length-drop}
use Rattle.paths.proofs.Bools.{true_T}
use Rattle.floor.specs.Screen.{Screen, Passed, Refused}
use Rattle.floor.specs.Place.{greatest_side}
use Rattle.floor.specs.Refusal.{screen}
use Rattle.floor.specs.Numbers.{Numbers, gives}
use Rattle.textlines.specs.Line.{side_line, begins, side_in}
use Rattle.textrows.specs.Rows.{Rows, whole, fault, read_rows}
use Rattle.textrows.specs.Working.{judged}
use Rattle.maptext.specs.Text.{type_line, height_word, width_word, map_line}
use Rattle.maptext.specs.Reading.{height_in, width_at, width_in, map_at, rows_at, header_lines, of_rows, reading_of, read_for, rows_in}
use Rattle.textlines.proofs.Beginnings.{begins_length}
use Rattle.textlines.proofs.Sides.{side_there}

line_within : (line text : List ℕ) (at : ℕ) → at ≤ length text → T (begins line (drop at text)) → at + length line ≤ length text
line_within line text at h t = omega (arith, begins_length line (drop at text) t, length-drop at text)

side_within : (word text : List ℕ) (at : ℕ) → at ≤ length text → side_in word (drop at text) ≤ greatest_side
    → at + length (side_line word (side_in word (drop at text))) ≤ length text
side_within word text at h k = line_within (side_line word (side_in word (drop at text))) text at h (side_there word (drop at text) k)

-- the lines that were found lie in the text
module _ (text : List ℕ) (first : begins type_line text ≡ true) where
  pub height_within : length type_line ≤ length text
  height_within = begins_length type_line text (true_T (begins type_line text) first)

  module _ (second : height_in text ≤ greatest_side) where
    pub width_within : width_at text ≤ length text
    width_within = side_within _ text (length type_line) height_within second

    module _ (third : width_in text ≤ greatest_side) where
      pub map_within : map_at text ≤ length text
      map_within = side_within _ text (width_at text) width_within third

      module _ (fourth : begins map_line (drop (map_at text) text) ≡ true) where
        pub rows_within : rows_at text ≤ length text
        rows_within = line_within map_line text (map_at text) map_within (true_T (begins map_line (drop (map_at text) text)) fourth)

        pub header_passed : (room : ℕ) → width_in text * height_in text ≤ room → screen (header_lines text room) ≡ Passed
        header_passed room h =
            rw (first, le-ltb greatest_side (height_in text) second, le-ltb greatest_side (width_in text) third, fourth, le-ltb room (width_in text * height_in text) h)

-- the answer to what was found in the rows
abbrev answer_for : Screen → ℕ → ℕ → Numbers
answer_for Passed w h = gives (w ∷ h ∷ 8 ∷ [])
answer_for (Refused n p) w h = Numbers.refused n p

answer_of_lem : (w h : ℕ) (x : Rows) → answer_for (judged x) w h ≡ read_for (of_rows w h x)
answer_of_lem w h (whole m) = refl
answer_of_lem w h (fault n p) = refl

-- the answer at the first line that is not as it should be, and after them all, for a cell room of that length
module _ (text : List ℕ) (room : ℕ) where
  refused : (n p : ℕ) → screen (header_lines text room) ≡ Refused n p → Numbers.refused n p ≡ read_for (reading_of text room)
  unfolding reading_of
  refused n p e = rw e

  pub refused_21 : begins type_line text ≡ false → Numbers.refused 21 0 ≡ read_for (reading_of text room)
  refused_21 e = refused 21 0 (rw e)

  module _ (first : begins type_line text ≡ true) where
    pub refused_22 : greatest_side < height_in text → Numbers.refused 22 (length type_line) ≡ read_for (reading_of text room)
    refused_22 h = refused 22 (length type_line) (rw (first, lt-ltb greatest_side (height_in text) h))

    module _ (second : height_in text ≤ greatest_side) where
      refused_23 : greatest_side < width_in text → Numbers.refused 23 (width_at text) ≡ read_for (reading_of text room)
      refused_23 h = refused 23 (width_at text) (rw (first, le-ltb greatest_side (height_in text) second, lt-ltb greatest_side (width_in text) h))

      module _ (third : width_in text ≤ greatest_side) where
        refused_24 : begins map_line (drop (map_at text) text) ≡ false → Numbers.refused 24 (map_at text) ≡ read_for (reading_of text room)
        refused_24 e = refused 24 (map_at text) (rw (first, le-ltb greatest_side (height_in text) second, le-ltb greatest_side (width_in text) third, e))

        module _ (fourth : begins map_line (drop (map_at text) text) ≡ true) where
          refused_29 : room < width_in text * height_in text → Numbers.refused 29 0 ≡ read_for (reading_of text room)
          refused_29 h =
              refused 29 0
              (rw (first, le-ltb greatest_side (height_in text) second, le-ltb greatest_side (width_in text) third, fourth, lt-ltb room (width_in text * height_in text) h))

          rows_judged : width_in text * height_in text ≤ room → {w h from : ℕ} → w ≡ width_in text → h ≡ height_in text → from ≡ rows_at text
              → answer_for (judged (read_rows w h from (drop from text))) w h ≡ read_for (reading_of text room)
          unfolding reading_of
          rows_judged enough width height start =
              rw (header_passed text first second third fourth room enough, width, height, start)
              (answer_of_lem (width_in text) (height_in text) (rows_in text))

-- what is known once the height's line is found: the height, and where the next line starts
pub record HasHeight (text : List ℕ) (h at : ℕ) : Type 0 where
  pub first : begins type_line text ≡ true
  pub height : h ≡ height_in text
  pub top : h ≤ greatest_side
  pub place : at ≡ width_at text
  pub inside : at ≤ length text

pub has_height : (text : List ℕ) {h l : ℕ} → begins type_line text ≡ true → (h ≡ height_in text) × (h ≤ greatest_side) → l ≡ length (side_line height_word h)
    → HasHeight text h (12 + l)
has_height text {h} {l} first k e =
    let place : 12 + l ≡ width_at text = rw (e, k.0) in
    record { first = first; height = k.0; top = k.1; place = place; inside = rw place (width_within text first (omega arith)) }

-- and once the width's is
pub record HasWidth (text : List ℕ) (h w at : ℕ) : Type 0 where
  pub first : begins type_line text ≡ true
  pub height : h ≡ height_in text
  pub high_top : h ≤ greatest_side
  pub width : w ≡ width_in text
  pub top : w ≤ greatest_side
  pub place : at ≡ map_at text
  pub inside : at ≤ length text

pub has_width : (text : List ℕ) {h w at l : ℕ} → HasHeight text h at → (w ≡ side_in width_word (drop at text)) × (w ≤ greatest_side)
    → l ≡ length (side_line width_word w) → HasWidth text h w (at + l)
has_width text {h} {w} {at} {l} x k e =
    let width : w ≡ width_in text = k.0 ∙ rw x.place in
    let place : at + l ≡ map_at text = rw (e, width, x.place) in
    record {
      first = x.first;
      height = x.height;
      high_top = x.top;
      width = width;
      top = k.1;
      place = place;
      inside = rw place (map_within text x.first (omega (arith, x.height, x.top)) (omega (arith, k.1)));
    }

-- what is answered then, at the next line that is not as it should be, and after them all
module _ (text : List ℕ) (room : ℕ) where
  pub no_width : {h at : ℕ} → HasHeight text h at → greatest_side < side_in width_word (drop at text) → Numbers.refused 23 at ≡ read_for (reading_of text room)
  no_width x k = rw x.place (refused_23 text room x.first (omega (arith, x.height, x.top)) (rw x.place at k))

  module _ {h w at : ℕ} (x : HasWidth text h w at) where
    second : height_in text ≤ greatest_side
    second = omega (arith, x.height, x.high_top)

    third : width_in text ≤ greatest_side
    third = omega (arith, x.width, x.top)

    pub no_map : begins map_line (drop at text) ≡ false → Numbers.refused 24 at ≡ read_for (reading_of text room)
    no_map k = rw x.place (refused_24 text room x.first second third (rw x.place at k))

    module _ (found : begins map_line (drop at text) ≡ true) where
      fourth : begins map_line (drop (map_at text) text) ≡ true
      fourth = rw x.place at found

      pub rows_place : at + 4 ≤ length text
      rows_place = rw x.place (rows_within text x.first second third fourth)

      pub short_cells : room < w * h → Numbers.refused 29 0 ≡ read_for (reading_of text room)
      short_cells k = refused_29 text room x.first second third fourth (rw (x.width, x.height) at k)

      module _ (enough : w * h ≤ room) where
        pub rows_refused : {n p : ℕ} → judged (read_rows w h (at + 4) (drop (at + 4) text)) ≡ Refused n p → Numbers.refused n p ≡ read_for (reading_of text room)
        rows_refused k = ap (λ (s : Screen). answer_for s w h) (sym k) ∙ rows_judged text room x.first second third fourth (rw (x.width, x.height) at enough) x.width x.height (rw x.place refl)

        pub rows_passed : judged (read_rows w h (at + 4) (drop (at + 4) text)) ≡ Passed → gives (w ∷ h ∷ 8 ∷ []) ≡ read_for (reading_of text room)
        rows_passed k = ap (λ (s : Screen). answer_for s w h) (sym k) ∙ rows_judged text room x.first second third fourth (rw (x.width, x.height) at enough) x.width x.height (rw x.place refl)
