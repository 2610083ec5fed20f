-- The calls from C say what the reader and the writer say: a refusal has no width, height, ways or length, and a map or a text has them.
use mathlib.Core.Path.{◌≡◌, refl, sym, ap, ◌∙◌}
use mathlib.Core.Logic.Iff
use mathlib.Core.Logic.{◌↔◌, inl, inr}
use mathlib.Core.Bool.{true}
use mathlib.Core.List.{List, [], ◌∷◌, ◌++◌}
use Prim.Native.Nat.{ℕ, zero, suc, ◌≤◌, ◌<◌}
use native.Mathlib.Omega.{arith}
use lib.ListN.{length, take, drop}
use Rattle.floor.specs.declared.Floor.{Floor}
use Rattle.floor.specs.Screen.{Screen, Passed, Refused}
use Rattle.floor.specs.Place.{cells}
use Rattle.floor.specs.Refusal.{line, screen}
use Rattle.floor.specs.LowestLine.{IsLowestLine}
use Rattle.floor.specs.Numbers.{refused, gives, after_screen, written_numbers}
use Rattle.floor.proofs.Lines.{above, lowest_line, refused_lines, by_lines}
use Rattle.maptext.specs.declared.ReadNumbers.{ReadNumbers}
use Rattle.std.specs.Prelude.{Result, Ok}
use Rattle.floor.specs.declared.refusals.Refusal.{Refusal}
use Rattle.floor.specs.declared.written.WrittenNumbers.{WrittenNumbers}
use Rattle.maptext.specs.Text.{header, text_of, write_lines, text_left, IsWritten}
use Rattle.maptext.specs.Reading.{Reading, read, header_lines, reading_of, read_for, numbers_of, cells_left, IsRead}
use Rattle.maptext.specs.Faults.{IsWrong, no_cell, no_line_end, too_soon, further, IsFirstFault}
use Rattle.maptext.specs.Calls.{read_numbers, ReadCalled, WriteCalled}
use Rattle.maptext.proofs.Texts.{read_written}
use Rattle.maptext.proofs.Writing.{text_left_lem}
use Rattle.maptext.proofs.Refusals.{refused_exactly}

-- A second result that keeps the promise of a call is equal
pub one_read_call : (text room : List ℕ) {x y : ReadNumbers} {room₁ room₂ : List ℕ} → ReadCalled text room x room₁ → ReadCalled text room y room₂
    → (x ≡ y) × (room₁ ≡ room₂)
one_read_call text room a b = (a.numbers ∙ sym b.numbers, a.leaves ∙ sym b.leaves)

pub one_write_call : (f : Floor) (m room : List ℕ) {x y : WrittenNumbers} {room₁ room₂ : List ℕ} → WriteCalled f m room x room₁ → WriteCalled f m room y room₂
    → (x ≡ y) × (room₁ ≡ room₂)
one_write_call f m room a b = (a.numbers ∙ sym b.numbers, a.leaves ∙ sym b.leaves)

-- ways is 8 for a map that was read, and 0 for a refusal
reading_refused : (x : Reading) (n p : ℕ) → (read_numbers (read_for x) ≡ read_numbers (refused n p)) ↔ (x ≡ Reading.refused n p)
reading_refused x n p = (from x, λ e. ap (λ (y : Reading). read_numbers (read_for y)) e)
  where
    from : (x : Reading) → read_numbers (read_for x) ≡ read_numbers (refused n p) → x ≡ Reading.refused n p
    from (Reading.refused a b) e =
        let number : a ≡ n = ap (λ (y : ReadNumbers). y.refusal) e in let place : b ≡ p = ap (λ (y : ReadNumbers). y.place) e in rw (number, place)
    from (read w h m) e = absurd (omega (arith, ap (λ (y : ReadNumbers). y.ways) e))

-- A text is refused exactly as the reader refuses it
pub judge_call_refused : (text : List ℕ) (room : ℕ) (x : ReadNumbers) → x ≡ read_numbers (read_for (reading_of text room))
    → (n p : ℕ) → (x ≡ read_numbers (refused n p)) ↔ IsFirstFault text room n p
judge_call_refused text room x e n p =
    Iff.trans (λ k. sym e ∙ k, λ k. e ∙ k) (Iff.trans (reading_refused (reading_of text room) n p) (refused_exactly text room n p))

pub read_call_same : (text room : List ℕ) (x : ReadNumbers) (room' : List ℕ) → ReadCalled text room x room'
    → (n p : ℕ) → x ≡ read_numbers (refused n p) → room' ≡ room
read_call_same text room x room' c n p e =
    c.leaves ∙ ap (λ (y : Reading). cells_left y room) ((reading_refused (reading_of text (length room)) n p).0 (sym c.numbers ∙ e))

-- no refusal has the number 0
above_zero : (text : List ℕ) (room n p : ℕ) → IsFirstFault text room n p → 0 < n
above_zero text room n p (inl low) = above 0 (header_lines text room) tt (line n true p) low.applies
above_zero text room n p (inr x) = go x.1.wrong
  where
    go : {start w h i : ℕ} → IsWrong text start w h i n → 0 < n
    go (no_cell a b c d e) = omega (arith, e)
    go (no_line_end a b c d e) = omega (arith, e)
    go (too_soon a b e) = omega (arith, e)
    go (further a b e) = omega (arith, e)

-- The refusal is 0 exactly where none is due
pub zero_unrefused : (text : List ℕ) (room : ℕ) (x : ReadNumbers) → x ≡ read_numbers (read_for (reading_of text room))
    → (x.refusal ≡ 0) ↔ ((n p : ℕ) → IsFirstFault text room n p → ⊥)
zero_unrefused text room x e = (
  λ z n p due.
      let refusal = ap (λ (y : ReadNumbers). y.refusal) ((judge_call_refused text room x e n p).1 due) in
      omega (arith, z, refusal, above_zero text room n p due),
  λ none. ap (λ (y : ReadNumbers). y.refusal) e ∙ go (reading_of text room) refl none,
)
  where
    go : (y : Reading) → reading_of text room ≡ y → ((n p : ℕ) → IsFirstFault text room n p → ⊥) → (read_numbers (read_for y)).refusal ≡ 0
    go (Reading.refused n p) k none = absurd (none n p ((refused_exactly text room n p).0 k))
    go (read w h m) k none = refl

-- what C gets and has in its room is what the reader answers and leaves
pub called_read : (text room : List ℕ) (x : ReadNumbers) (room' : List ℕ) (r : Result Floor Refusal) (room'' : List ℕ) → ReadCalled text room x room'
    → IsRead text room r room'' → (x ≡ read_numbers (numbers_of r)) × (room' ≡ room'')
called_read text room x room' r room'' c y = (c.numbers ∙ ap read_numbers (sym y.answers), c.leaves ∙ sym y.leaves)

-- no text is empty, and a refusal has the length 0
abbrev of_length : ℕ → ℕ → ℕ → Screen
of_length zero n p = Refused n p
of_length (suc k) n p = Passed

module _ (f : Floor) (m room : List ℕ) (x : WrittenNumbers) (room' : List ℕ) (c : WriteCalled f m room x room') where
  abbrev values : List ℕ
  values = length (text_of f.width f.height m) ∷ []

  abbrev numbers_for : Screen → WrittenNumbers
  numbers_for s = written_numbers (after_screen s (gives values))

  abbrev screen_in : WrittenNumbers → Screen
  screen_in y = of_length y.length y.refusal y.place

  screen_back : (s : Screen) → screen_in (numbers_for s) ≡ s
  unfolding text_of header
  screen_back Passed = refl
  screen_back (Refused n p) = refl

  -- A map is refused exactly as the writer refuses it
  pub write_call_refused : (n p : ℕ) → (x ≡ written_numbers (refused n p)) ↔ IsLowestLine (write_lines f m (length room)) n p
  write_call_refused = by_lines numbers_for screen_in screen_back (write_lines f m (length room)) c.numbers tt

  pub write_call_same : (n p : ℕ) → x ≡ written_numbers (refused n p) → room' ≡ room
  write_call_same n p e =
      c.leaves
      ∙ ap (text_left (text_of f.width f.height m) room) (refused_lines numbers_for screen_in screen_back (write_lines f m (length room)) c.numbers n p e)

  -- a call that is not refused has written
  pub called_written : x.refusal ≡ 0 → IsWritten f m room (Ok x.length) room'
  called_written z = go (screen (write_lines f m (length room))) refl
    where
      go : (s : Screen) → screen (write_lines f m (length room)) ≡ s → IsWritten f m room (Ok x.length) room'
      go Passed e = let n : x ≡ numbers_for Passed = rw e at c.numbers in record { answers = rw (e, n) refl; leaves = c.leaves }
      go (Refused n p) e =
          let low = (lowest_line (write_lines f m (length room)) 0 tt n p).0 e in
          let k : x ≡ numbers_for (Refused n p) = rw e at c.numbers in
          absurd (omega (arith, z, ap (λ (y : WrittenNumbers). y.refusal) k, above 0 (write_lines f m (length room)) tt (line n true p) low.applies))

-- What one call has written the other reads back, ways apart
pub calls_back : (f : Floor) (m room room' : List ℕ) (x : WrittenNumbers) → WriteCalled f m room x room' → x.refusal ≡ 0
    → (cellRoom : List ℕ) (y : ReadNumbers) (cellRoom' : List ℕ) → ReadCalled (take x.length room') cellRoom y cellRoom' → cells f ≤ length cellRoom
    → (y ≡ read_numbers (gives (f.width ∷ f.height ∷ 8 ∷ []))) × (cellRoom' ≡ m ++ drop (length m) cellRoom)
calls_back f m room room' x w z cellRoom y cellRoom' r h =
    let w = text_left_lem f m room room' x.length (called_written f m room x room' w z) in
    let e = read_written f m (length cellRoom) w.passed h in
    let y = rw w.text at r in
    (rw e at y.numbers, rw e at y.leaves)
