-- What the reader refuses, exactly: by the header's lines, or by the rows; and a text that ends inside a line of its header, by that line's LF, which has not come.
use mathlib.Core.Path.{◌≡◌, refl, sym, ◌∙◌, ap}
use mathlib.Core.Logic.Iff
use mathlib.Core.Logic.{◌↔◌, ◌≢◌, ◌⊎◌, inl, inr, ⊎_elim}
use mathlib.Core.Bool.{true, false}
use mathlib.Core.List.{List, [], ◌∷◌, ◌++◌, append_assoc}
use Prim.Native.Nat.{ℕ, suc, ◌-◌, ◌≤◌, ◌<◌}
use native.Mathlib.Omega.{arith}
use borrow.Author.Tests.{le-ltb}
use lib.Dec.{T, eqb, eqb→eq, nltb→le}
use lib.ListN.{length, get_or, take, drop, length-append}
use Rattle.paths.proofs.Bools.{T_true, not_T_false, T_and, T_not-not}
use Rattle.floor.specs.Screen.{Screen, Passed, Refused}
use Rattle.floor.specs.Place.{greatest_side}
use Rattle.floor.specs.Refusal.{Line, line, screen}
use Rattle.floor.specs.LowestLine.{Has}
use Rattle.floor.proofs.Lines.{lowest_line}
use Rattle.floor.proofs.Screens.{none_given}
use Rattle.floor.proofs.Passing.{side}
use Rattle.textlines.specs.Line.{LF, digits, side_line, begins, side_in}
use Rattle.textrows.specs.Rows.{Rows, whole, fault}
use Rattle.maptext.specs.Text.{type_line, height_word, width_word, map_line}
use Rattle.maptext.specs.Reading.{height_in, width_at, width_in, map_at, rows_at, rows_in, header_lines, refused, of_rows, after_header, reading_of}
use Rattle.maptext.specs.Faults.{IsWrong, no_cell, no_line_end, too_soon, further, IsRowsFault, IsFirstFault, EndsTooSoon, LinesBefore, first, second, third, fourth, EndsInLine}
use Rattle.textlines.proofs.Sides.{side_in_none}
use Rattle.maptext.proofs.Headers.{rows_within}
use Rattle.maptext.proofs.Back.{height_line, after_height, width_line, after_width}
use Rattle.maptext.proofs.Faults.{rows_fault_exactly}

-- a header that has passed lies in the text
rows_inside : (text : List ℕ) (room : ℕ) → screen (header_lines text room) ≡ Passed → rows_at text ≤ length text
rows_inside text room e =
    let n = none_given (header_lines text room) e in
    rows_within text (T_true (begins type_line text) (T_not-not (begins type_line text) n.0))
    (nltb→le greatest_side (height_in text) n.1.0)
    (nltb→le greatest_side (width_in text) n.1.1.0)
    (T_true (begins map_line (drop (map_at text) text)) (T_not-not (begins map_line (drop (map_at text) text)) n.1.1.1.0))

-- a reading is refused by the header's lines or by the rows
by_parts : (text : List ℕ) (s : Screen) (n p : ℕ)
    → (after_header text s ≡ refused n p) ↔ ((s ≡ Refused n p) ⊎ ((s ≡ Passed) × (rows_in text ≡ fault n p)))
by_parts text s n p = (from s, to)
  where
    from_rows : (rows : Rows) → of_rows (width_in text) (height_in text) rows ≡ refused n p → rows ≡ fault n p
    from_rows (whole m) x = let z : ◌≡◌ {A = ℕ} 0 1 = cc in absurd (omega arith)
    from_rows (fault a b) x = cc

    from : (s : Screen) → after_header text s ≡ refused n p → (s ≡ Refused n p) ⊎ ((s ≡ Passed) × (rows_in text ≡ fault n p))
    from Passed x = inr (refl, from_rows (rows_in text) x)
    from (Refused a b) x = inl cc

    to : (s ≡ Refused n p) ⊎ ((s ≡ Passed) × (rows_in text ≡ fault n p)) → after_header text s ≡ refused n p
    to (inl x) = rw x refl
    to (inr x) = rw (x.0, x.1) refl

-- 21 to 29, for a cell room of that length
pub refused_exactly : (text : List ℕ) (room n p : ℕ) → (reading_of text room ≡ refused n p) ↔ IsFirstFault text room n p
unfolding reading_of
refused_exactly text room n p =
    let lowest = lowest_line (header_lines text room) 0 tt n p in
    Iff.trans (by_parts text (screen (header_lines text room)) n p) (
      ⊎_elim (λ y. inl (lowest.0 y)) (λ y. inr (y.0, (rows_fault_exactly text (rows_inside text room y.0) n p).0 y.1)),
      ⊎_elim (λ y. inl (lowest.1 y)) (λ y. inr (y.0, (rows_fault_exactly text (rows_inside text room y.0) n p).1 y.1)),
    )

-- no line of the header has the number 27
not_27 : (text : List ℕ) (room p : ℕ) → Has (line 27 true p) (header_lines text room) → ⊥
not_27 text room p (inl e) = omega (arith, ap (λ (l : Line). l.number) e)
not_27 text room p (inr (inl e)) = omega (arith, ap (λ (l : Line). l.number) e)
not_27 text room p (inr (inr (inl e))) = omega (arith, ap (λ (l : Line). l.number) e)
not_27 text room p (inr (inr (inr (inl e)))) = omega (arith, ap (λ (l : Line). l.number) e)
not_27 text room p (inr (inr (inr (inr (inl e))))) = omega (arith, ap (λ (l : Line). l.number) e)
not_27 text room p (inr (inr (inr (inr (inr h))))) = absurd h

-- 27 by itself
pub too_soon_exactly : (text : List ℕ) (room p : ℕ) → (reading_of text room ≡ refused 27 p) ↔ EndsTooSoon text room p
too_soon_exactly text room p =
    Iff.trans (refused_exactly text room 27 p)
    (⊎_elim (λ x. absurd (not_27 text room p x.applies)) (λ x. from x.0 x.1), λ x. inr (x.header, to x))
  where
    from : screen (header_lines text room) ≡ Passed → IsRowsFault text 27 p → EndsTooSoon text room p
    from e x = go x.wrong
      where
        go : IsWrong text (rows_at text) (width_in text) (height_in text) x.offset 27 → EndsTooSoon text room p
        go (no_cell h k l m q) = absurd (omega arith)
        go (no_line_end h k l m q) = absurd (omega arith)
        go (too_soon h k q) = record { header = e; place = omega (arith, x.place); short = omega arith; right = λ i l. x.before i (omega arith) }
        go (further h k q) = absurd (omega arith)

    to : EndsTooSoon text room p → IsRowsFault text 27 p
    to x =
        let inside = rows_inside text room x.header in
        record {
          offset = length text - rows_at text;
          place = omega (arith, x.place);
          before = λ i h. x.right i (omega arith);
          wrong = too_soon (omega arith) (omega (arith, x.short)) refl;
        }

-- a text without LF does not begin with a line
no_line : (line text : List ℕ) → ((i : ℕ) → i < length text → get_or text i 0 ≢ LF) → T (begins (line ++ (LF ∷ [])) text) → ⊥
no_line [] [] k t = absurd t
no_line [] (c ∷ cs) k t = k 0 (omega arith) (sym (eqb→eq LF c (T_and (eqb LF c) _ t).0))
no_line (b ∷ bs) [] k t = absurd t
no_line (b ∷ bs) (c ∷ cs) k t = no_line bs cs (λ i h. k (suc i) (omega arith)) (T_and (eqb b c) _ t).1

no_side : (word text : List ℕ) → ((i : ℕ) → i < length text → get_or text i 0 ≢ LF) → side_in word text ≡ suc greatest_side
unfolding side_line
no_side word text k = side_in_none word text (λ n e p h t. no_line (word ++ digits 4 n) text k t)

by_header : (text : List ℕ) (room n p : ℕ) → screen (header_lines text room) ≡ Refused n p → reading_of text room ≡ refused n p
unfolding reading_of
by_header text room n p e = rw e

-- A text that ends inside a line of the header is refused by that line's number, at its start
pub ends_in_line : (text : List ℕ) (room n p : ℕ) → EndsInLine text n p → reading_of text room ≡ refused n p
ends_in_line text room n p x = rw (x.text_is, x.place) (go x.lines x.begun x.no_end)
  where
    go : {n : ℕ} {before : List ℕ} → LinesBefore n before → (begun : List ℕ) → ((i : ℕ) → i < length begun → get_or begun i 0 ≢ LF)
        → reading_of (before ++ begun) room ≡ refused n (length before)
    go first begun k = by_header begun room 21 0 (rw (not_T_false (begins type_line begun) (no_line (take 11 type_line) begun k)))
    go second begun k = by_header (type_line ++ begun) room 22 12 (rw (no_side height_word begun k))
    go (third h t) begun k =
        let s = side h t in
        let text = type_line ++ (side_line height_word h ++ begun) in
        let height = height_line h s.positive s.top begun in
        let high : height_in text ≤ greatest_side = rw height s.top in
        let none-wide : width_in text ≡ suc greatest_side = ap (side_in width_word) (after_height h s.positive s.top begun) ∙ no_side width_word begun k in
        let start : width_at text ≡ length (type_line ++ side_line height_word h) = rw height (omega arith) in
        rw (← start) (by_header text room 23 (width_at text) (rw (le-ltb greatest_side (height_in text) high, none-wide)))
    go (fourth h w t u) begun k =
        let s = side h t in
        let r = side w u in
        let text = type_line ++ (side_line height_word h ++ (side_line width_word w ++ begun)) in
        let height = height_line h s.positive s.top (side_line width_word w ++ begun) in
        let width = width_line w h r.positive r.top s.positive s.top begun in
        let high : height_in text ≤ greatest_side = rw height s.top in
        let wide : width_in text ≤ greatest_side = rw width r.top in
        let none-map : begins map_line (drop (map_at text) text) ≡ false =
        ap (begins map_line) (after_width w h r.positive r.top s.positive s.top begun) ∙ not_T_false (begins map_line begun) (no_line (take 3 map_line) begun k) in
        let start : map_at text ≡ length (type_line ++ side_line height_word h ++ side_line width_word w) =
        rw (width, height) (omega (arith, length-append (side_line height_word h) (side_line width_word w))) in
        rw (← start, append_assoc (side_line height_word h) (side_line width_word w) begun)
        (by_header text room 24 (map_at text) (rw (le-ltb greatest_side (height_in text) high, le-ltb greatest_side (width_in text) wide, none-map)))

-- and so the empty text
pub empty_text : (room : ℕ) → reading_of [] room ≡ refused 21 0
empty_text room =
    ends_in_line [] room 21 0 (record { before = []; begun = []; lines = first; no_end = λ i h. absurd (omega arith); text_is = refl; place = refl })
