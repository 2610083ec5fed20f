-- Faults of the rows: a row, and then the rows, are right or have a first fault, by the clauses of their reading; and a text has one first fault alone.
use mathlib.Core.Path.{◌≡◌, refl, sym, ◌∙◌, ap, subst}
use mathlib.Core.Logic.{◌↔◌, ◌≢◌}
use mathlib.Core.Bool.{cond}
use mathlib.Core.List.{List, [], ◌∷◌, ◌++◌}
use Prim.Native.Nat.{ℕ, zero, suc, ◌+◌, ◌-◌, ◌*◌, ◌%◌, ◌≤◌, ◌<◌}
use native.Mathlib.Nat.{mod-eq_of_lt, add-mod_left, suc-mul, add-zero}
use native.Mathlib.Decide.{ℕ_discrete, dec_lt}
use native.Mathlib.Omega.{arith}
use borrow.Author.Tests.{eq-eqb, ne_eqb, lt-ltb, le-ltb}
use lib.Dec.{eqb, ltb}
use lib.ListN.{length, get_or, drop, length-drop}
use lib.Seq.{get_or-drop, drop-drop}
use Rattle.textlines.specs.Line.{LF}
use Rattle.textrows.specs.Cell.{Cell, Weight, Blocked, NoCell}
use Rattle.textrows.specs.Chars.{cell_of}
use Rattle.textrows.specs.Rows.{Rows, whole, fault, and_then, one_cell, read_row, read_rows}
use Rattle.maptext.specs.Reading.{height_in, width_in, rows_at, rows_in}
use Rattle.maptext.specs.Faults.{IsRight, IsWrong, no_cell, no_line_end, too_soon, further, IsRowsFault}

-- One row: right, or with a first fault at x
record RowRight (w : ℕ) (bs : List ℕ) : Type 0 where
  long : w < length bs
  cells : (i : ℕ) → i < w → cell_of (get_or bs i 0) ≢ NoCell
  line_end : get_or bs w 0 ≡ LF

data RowWrong (w : ℕ) (bs : List ℕ) (x n : ℕ) : Type 0 where
  at_cell : x < length bs → x < w → cell_of (get_or bs x 0) ≡ NoCell → n ≡ 25 → RowWrong w bs x n
  at_end : x < length bs → x ≡ w → get_or bs x 0 ≢ LF → n ≡ 26 → RowWrong w bs x n
  too_short : x ≡ length bs → x ≤ w → n ≡ 27 → RowWrong w bs x n

data RowIs (w at : ℕ) (bs : List ℕ) (r : Rows) : Type 0 where
  right : (m : List ℕ) → r ≡ whole m → RowRight w bs → RowIs w at bs r
  wrong : (x n : ℕ) → r ≡ fault n (at + x) → ((i : ℕ) → i < x → cell_of (get_or bs i 0) ≢ NoCell) → RowWrong w bs x n → RowIs w at bs r

-- a cell before a row
one_more : (w b : ℕ) (bs : List ℕ) (x n : ℕ) → RowWrong w bs x n → RowWrong (suc w) (b ∷ bs) (suc x) n
one_more w b bs x n (at_cell h k e q) = at_cell (omega arith) (omega arith) e q
one_more w b bs x n (at_end h k e q) = at_end (omega arith) (omega arith) e q
one_more w b bs x n (too_short h k q) = too_short (omega arith) (omega arith) q

more : (w at b : ℕ) (bs : List ℕ) (r : Rows) (m : List ℕ) → cell_of b ≢ NoCell → RowIs w (suc at) bs r → RowIs (suc w) at (b ∷ bs) (and_then (whole m) r)
more w at b bs r m c (right k e x) = right (m ++ k) (rw e refl) (record { long = omega (arith, x.long); cells = cells; line_end = x.line_end })
  where
    cells : (i : ℕ) → i < suc w → cell_of (get_or (b ∷ bs) i 0) ≢ NoCell
    cells zero h = c
    cells (suc i) h = x.cells i (omega arith)
more w at b bs r m c (wrong y n e before x) =
    let place : suc at + y ≡ at + suc y = omega arith in
    wrong (suc y) n (rw (e, place) refl) cells (one_more w b bs y n x)
  where
    cells : (i : ℕ) → i < suc y → cell_of (get_or (b ∷ bs) i 0) ≢ NoCell
    cells zero h = c
    cells (suc i) h = before i (omega arith)

row_is : (w at : ℕ) (bs : List ℕ) → RowIs w at bs (read_row w at bs)
row_is w at [] = wrong 0 27 (rw add-zero refl) (λ i h. absurd (omega arith)) (too_short refl (omega arith) refl)
row_is zero at (b ∷ bs) = go (ℕ_discrete b LF)
  where
    go : Dec (b ≡ LF) → RowIs zero at (b ∷ bs) (cond (eqb b LF) (whole []) (fault 26 at))
    go (yes e) = right [] (rw (eq-eqb b LF e) refl) (record { long = omega arith; cells = λ i h. absurd (omega arith); line_end = e })
    go (no k) = wrong 0 26 (rw (ne_eqb b LF k, add-zero) refl) (λ i h. absurd (omega arith)) (at_end (omega arith) refl k refl)
row_is (suc w) at (b ∷ bs) = go (cell_of b) refl (row_is w (suc at) bs)
  where
    go : (cell : Cell) → cell_of b ≡ cell → RowIs w (suc at) bs (read_row w (suc at) bs)
        → RowIs (suc w) at (b ∷ bs) (and_then (one_cell cell at) (read_row w (suc at) bs))
    go (Weight n) e rest = more w at b bs (read_row w (suc at) bs) (n ∷ []) (λ k. let z : ◌≡◌ {A = ℕ} 0 1 = cc in absurd (omega arith)) rest
    go Blocked e rest = more w at b bs (read_row w (suc at) bs) (0 ∷ []) (λ k. let z : ◌≡◌ {A = ℕ} 0 1 = cc in absurd (omega arith)) rest
    go NoCell e rest = wrong 0 25 (rw add-zero refl) (λ i h. absurd (omega arith)) (at_cell (omega arith) (omega arith) e refl)

-- The rows from `at` on: right to the end of the text, or with a first fault at offset i
data RowsAre (text : List ℕ) (w h at : ℕ) (r : Rows) : Type 0 where
  right : (m : List ℕ) → r ≡ whole m → at + h * suc w ≡ length text → ((i : ℕ) → i < h * suc w → IsRight w i (get_or text (at + i) 0)) → RowsAre text w h at r
  wrong : (i n : ℕ) → r ≡ fault n (at + i) → ((j : ℕ) → j < i → IsRight w j (get_or text (at + j) 0)) → IsWrong text at w h i n → RowsAre text w h at r

module _ (text : List ℕ) (w at : ℕ) where
  -- a byte of the row at `at`
  row_byte : RowRight w (drop at text) → (i : ℕ) → i < suc w → IsRight w i (get_or text (at + i) 0)
  row_byte r i h = rw (← get_or-drop at text i 0) (record {
    cell = λ k. r.cells i (rw (mod-eq_of_lt h) at k);
    line_end = λ k. let e : i ≡ w = rw (mod-eq_of_lt h) at k in rw e r.line_end;
  })

  cell_byte : (i : ℕ) → i < w → cell_of (get_or (drop at text) i 0) ≢ NoCell → IsRight w i (get_or text (at + i) 0)
  cell_byte i h c =
      let inside : i < suc w = omega arith in
      rw (← get_or-drop at text i 0) (record { cell = λ k. c; line_end = λ k. absurd (omega (arith, mod-eq_of_lt inside)) })

  -- a byte of the rows after it
  next_byte : (i : ℕ) → IsRight w i (get_or text (at + suc w + i) 0) → IsRight w (suc w + i) (get_or text (at + (suc w + i)) 0)
  next_byte i r =
      let place : at + (suc w + i) ≡ at + suc w + i = omega arith in
      rw place (record { cell = λ k. r.cell (rw add-mod_left at k); line_end = λ k. r.line_end (rw add-mod_left at k) })

  byte : (h : ℕ) → RowRight w (drop at text) → ((i : ℕ) → i < h → IsRight w i (get_or text (at + suc w + i) 0))
      → (i : ℕ) → i < suc w + h → IsRight w i (get_or text (at + i) 0)
  byte h r rest i k = elim (dec_lt i (suc w)) [
    | yes l ↦ row_byte r i l
    | no l ↦ let e : suc w + (i - suc w) ≡ i = omega arith in subst (λ (j : ℕ). IsRight w j (get_or text (at + j) 0)) e (next_byte (i - suc w) (rest (i - suc w) (omega arith)))
  ]

  -- a fault of the row, and of the rows after it
  row_wrong : (h x n : ℕ) → at ≤ length text → RowWrong w (drop at text) x n → IsWrong text at w (suc h) x n
  row_wrong h x n a (at_cell k l e q) =
      let inside : x < suc w = omega arith in
      no_cell (omega (arith, length-drop at text)) (omega (arith, suc-mul h (suc w))) (rw (mod-eq_of_lt inside) l) (rw (← get_or-drop at text x 0) e) q
  row_wrong h x n a (at_end k l e q) =
      let inside : x < suc w = omega arith in
      no_line_end (omega (arith, length-drop at text)) (omega (arith, suc-mul h (suc w))) (rw (mod-eq_of_lt inside) l) (rw (← get_or-drop at text x 0) e) q
  row_wrong h x n a (too_short k l q) = too_soon (omega (arith, length-drop at text)) (omega (arith, suc-mul h (suc w))) q

  next_wrong : (h i n : ℕ) → IsWrong text (at + suc w) w h i n → IsWrong text at w (suc h) (suc w + i) n
  next_wrong h i n (no_cell k l c e q) =
      let place : at + (suc w + i) ≡ at + suc w + i = omega arith in
      no_cell (omega arith) (omega (arith, suc-mul h (suc w))) (rw add-mod_left c) (rw place e) q
  next_wrong h i n (no_line_end k l c e q) =
      let place : at + (suc w + i) ≡ at + suc w + i = omega arith in
      no_line_end (omega arith) (omega (arith, suc-mul h (suc w))) (rw add-mod_left c) (rw place e) q
  next_wrong h i n (too_soon k l q) = too_soon (omega arith) (omega (arith, suc-mul h (suc w))) q
  next_wrong h i n (further k l q) = further (omega arith) (omega (arith, suc-mul h (suc w))) q

  cells_before : (x n : ℕ) → RowWrong w (drop at text) x n → x ≤ w
  cells_before x n (at_cell k l e q) = omega arith
  cells_before x n (at_end k l e q) = omega arith
  cells_before x n (too_short k l q) = l

  row_and_rows : (h : ℕ) → at ≤ length text → {r s : Rows} → RowIs w at (drop at text) r
      → (at + suc w ≤ length text → RowsAre text w h (at + suc w) s) → RowsAre text w (suc h) at (and_then r s)
  row_and_rows h a (wrong x n e before y) rest =
      wrong x n (rw e refl) (λ j k. cell_byte j (omega (arith, cells_before x n y)) (before j k)) (row_wrong h x n a y)
  row_and_rows h a {r} {s} (right m e y) rest = go (rest (omega (arith, y.long, length-drop at text)))
    where
      go : RowsAre text w h (at + suc w) s → RowsAre text w (suc h) at (and_then r s)
      go (right k f size all) = right (m ++ k) (rw (e, f) refl) (omega (arith, suc-mul h (suc w))) (λ i l. byte (h * suc w) y all i (omega (arith, suc-mul h (suc w))))
      go (wrong i n f before z) =
          let place : at + suc w + i ≡ at + (suc w + i) = omega arith in
          wrong (suc w + i) n (rw (e, f, place) refl) (byte i y before) (next_wrong h i n z)

rows_are : (text : List ℕ) (w h at : ℕ) → at ≤ length text → RowsAre text w h at (read_rows w h at (drop at text))
rows_are text w zero at a = go (drop at text) refl
  where
    go : (bs : List ℕ) → drop at text ≡ bs → RowsAre text w zero at (read_rows w zero at bs)
    go [] e = right [] refl (omega (arith, ap length e, length-drop at text)) (λ i h. absurd (omega arith))
    go (b ∷ bs) e = wrong 0 28 (rw add-zero refl) (λ j h. absurd (omega arith)) (further (omega (arith, ap length e, length-drop at text)) (omega arith) refl)
rows_are text w (suc h) at a =
    rw drop-drop (row_and_rows text w at h a (row_is w at (drop at text)) (rows_are text w h (at + suc w)))

-- A first fault is the only one: nothing before it is wrong
module _ (text : List ℕ) (start w h : ℕ) where
  within : (i n : ℕ) → IsWrong text start w h i n → (start + i ≤ length text) × (i ≤ h * suc w)
  within i n (no_cell k l c e q) = (omega arith, omega arith)
  within i n (no_line_end k l c e q) = (omega arith, omega arith)
  within i n (too_soon k l q) = (omega arith, omega arith)
  within i n (further k l q) = (omega arith, omega arith)

  not_right : (i n : ℕ) → IsWrong text start w h i n → start + i < length text → i < h * suc w → IsRight w i (get_or text (start + i) 0) → ⊥
  not_right i n (no_cell k l c e q) x y r = r.cell c e
  not_right i n (no_line_end k l c e q) x y r = e (r.line_end c)
  not_right i n (too_soon k l q) x y r = omega arith
  not_right i n (further k l q) x y r = omega arith

  -- the number of a fault there
  abbrev number_at : ℕ → ℕ
  number_at i = cond (ltb i (h * suc w)) (cond (ltb (start + i) (length text)) (cond (ltb (i % suc w) w) 25 26) 27) 28

  number_is : (i n : ℕ) → IsWrong text start w h i n → n ≡ number_at i
  number_is i n (no_cell k l c e q) = rw (lt-ltb i (h * suc w) l, lt-ltb (start + i) (length text) k, lt-ltb (i % suc w) w c) q
  number_is i n (no_line_end k l c e q) = rw (lt-ltb i (h * suc w) l, lt-ltb (start + i) (length text) k, le-ltb (i % suc w) w (omega arith)) q
  number_is i n (too_soon k l q) = rw (lt-ltb i (h * suc w) l, le-ltb (start + i) (length text) (omega arith)) q
  number_is i n (further k l q) = rw (le-ltb i (h * suc w) (omega arith)) q

  -- the fault that the reading meets is any that is the first
  reading_is : (r : Rows) → RowsAre text w h start r → (i n : ℕ) → ((j : ℕ) → j < i → IsRight w j (get_or text (start + j) 0)) → IsWrong text start w h i n
      → r ≡ fault n (start + i)
  reading_is r (right m e size all) i n before x = go x
    where
      go : IsWrong text start w h i n → r ≡ fault n (start + i)
      go (no_cell k l c f q) = absurd (not_right i n x k l (all i l))
      go (no_line_end k l c f q) = absurd (not_right i n x k l (all i l))
      go (too_soon k l q) = absurd (omega arith)
      go (further k l q) = absurd (omega arith)
  reading_is r (wrong j o e earlier y) i n before x =
      let p = within i n x in
      let q = within j o y in
      elim (dec_lt i j) [
        | yes l ↦ absurd (not_right i n x (omega arith) (omega arith) (earlier i l))
        | no l ↦ elim (dec_lt j i) [
          | yes k ↦ absurd (not_right j o y (omega arith) (omega arith) (before j k))
          | no k ↦
              let same : j ≡ i = omega arith in
              let number : o ≡ n = number_is j o y ∙ ap number_at same ∙ sym (number_is i n x) in
              rw (e, number, same) refl
        ]
      ]

-- The first fault met in the rows, where the header lies in the text
pub rows_fault_exactly : (text : List ℕ) → rows_at text ≤ length text → (n p : ℕ) → (rows_in text ≡ fault n p) ↔ IsRowsFault text n p
rows_fault_exactly text a n p =
    let rows = rows_are text (width_in text) (height_in text) (rows_at text) a in
    (from rows, λ x. rw x.place (reading_is text (rows_at text) (width_in text) (height_in text) (rows_in text) rows x.offset n x.before x.wrong))
  where
    from : RowsAre text (width_in text) (height_in text) (rows_at text) (rows_in text) → rows_in text ≡ fault n p → IsRowsFault text n p
    from (right m e size all) f = let z : ◌≡◌ {A = ℕ} 0 1 = cc in absurd (omega arith)
    from (wrong i o e before x) f =
        let number : o ≡ n = cc in
        record { offset = i; place = cc; before = before; wrong = rw number at x }
