-- What the reader and the writer mean together: each theorem from the laws in the files beside this one.
use mathlib.Core.Path.{◌≡◌, refl, sym, ap, ◌∙◌}
use mathlib.Core.Logic.{◌↔◌}
use mathlib.Core.List.{List, [], ◌∷◌, ◌++◌}
use Prim.Native.Nat.{ℕ, ◌+◌, ◌≤◌}
use native.Mathlib.Nat.{mul_comm}
use native.Mathlib.Omega.{arith}
use lib.ListN.{length, get_or, take, drop}
use Rattle.floor.specs.declared.Floor.{Floor}
use Rattle.floor.specs.Screen.{Passed}
use Rattle.floor.specs.Place.{cells}
use Rattle.floor.specs.Refusal.{screen, map_lines}
use Rattle.floor.proofs.Passing.{map_facts, facts_pass}
use Rattle.floor.specs.Numbers.{Numbers, refused, fault, gives, written_as}
use Rattle.floor.proofs.Numbered.{named, named_back, same_written}
use Rattle.textlines.specs.Line.{side_line}
use Rattle.textrows.specs.Rows.{rows}
use Rattle.std.specs.Prelude.{Result}
use Rattle.std.specs.Prelude.{Ok, Err}
use Rattle.floor.specs.declared.refusals.Refusal.{Refusal}
use Rattle.maptext.specs.Text.{header, text_of, IsWritten, CouldWrite}
use Rattle.maptext.specs.Reading.{read, reading_of, numbers_of, IsRead}
use Rattle.maptext.proofs.Writing.{text_left_lem}
use Rattle.maptext.proofs.Back.{lines, header_lines_lem, height_back, width_back, lines_back}
use Rattle.maptext.proofs.Found.{found, found_room, found_facts}

-- an answer of the reader is the only one with its numbers
abbrev pub read_of : Numbers → Result Floor Refusal
read_of (refused n p) = Err (named n p)
read_of (fault n p) = Err (named n p)
read_of (gives vs) = Ok (record { width = get_or vs 0 0; height = get_or vs 1 0; ways = get_or vs 2 0 })

pub read_back : (r : Result Floor Refusal) → read_of (numbers_of r) ≡ r
read_back (Ok f) = refl
read_back (Err r) = ap Err (named_back r)

pub same_read : (r s : Result Floor Refusal) → numbers_of r ≡ numbers_of s → r ≡ s
same_read r s e = sym (read_back r) ∙ ap read_of e ∙ read_back s

text_lines : (w h : ℕ) (m : List ℕ) → text_of w h m ≡ lines w h (rows w h m)
unfolding text_of
text_lines w h m = header_lines_lem w h (rows w h m)

-- reading what was written gives the same width, height and cells
pub read_written : (f : Floor) (m : List ℕ) (room : ℕ) → screen (map_lines f m) ≡ Passed → cells f ≤ room
    → reading_of (text_of f.width f.height m) room ≡ read f.width f.height m
read_written f m room p h =
    let k = map_facts f m p in
    rw (text_lines f.width f.height m)
    (lines_back f.width f.height m k.wide k.wide_top k.high k.high_top (k.covers ∙ mul_comm f.width f.height) k.weights room h)

-- the same of the two functions: what was written, given to the reader
pub reads_back : (f : Floor) (m room room' cellRoom cellRoom' : List ℕ) (n : ℕ) (r : Result Floor Refusal) → IsWritten f m room (Ok n) room'
    → IsRead (take n room') cellRoom r cellRoom' → cells f ≤ length cellRoom
    → (r ≡ Ok (record { width = f.width; height = f.height; ways = 8 })) × (cellRoom' ≡ m ++ drop (length m) cellRoom)
reads_back f m room room' cellRoom cellRoom' n r w x h =
    let a = text_left_lem f m room room' n w in
    let y = rw a.text at x in
    let e = read_written f m (length cellRoom) a.passed h in
    (same_read r (Ok (record { width = f.width; height = f.height; ways = 8 })) (rw e at y.answers), rw e at y.leaves)

-- two maps with the same text are the same map, ways apart
pub same_text : (f g : Floor) (m n : List ℕ) → screen (map_lines f m) ≡ Passed → screen (map_lines g n) ≡ Passed
    → text_of f.width f.height m ≡ text_of g.width g.height n → (f.width ≡ g.width) × (f.height ≡ g.height) × (m ≡ n)
same_text f g m n p q e =
    let room = cells f + cells g in
    let a = read_written f m room p (omega arith) in
    let b = read_written g n room q (omega arith) in
    let same : read f.width f.height m ≡ read g.width g.height n = sym a ∙ rw e b in
    (cc, cc, cc)

-- what was read passes the writer's refusals
pub read_passes : (text : List ℕ) (room w h : ℕ) (m : List ℕ) → reading_of text room ≡ read w h m
    → screen (map_lines (record { width = w; height = h; ways = 8 }) m) ≡ Passed
read_passes text room w h m e = facts_pass _ m (found_facts (found text room w h m e))

-- the writer could have written a text that was read: then what was read is its map
could_write : (text : List ℕ) (room w h : ℕ) (m : List ℕ) → reading_of text room ≡ read w h m → (c : CouldWrite text)
    → read w h m ≡ read c.floor.width c.floor.height c.map
could_write text room w h m e c =
    let x = found text room w h m e in
    let k = map_facts c.floor c.map c.passes in
    let text_is = sym c.writes ∙ text_lines c.floor.width c.floor.height c.map in
    let rest = rows c.floor.width c.floor.height c.map in
    let width : w ≡ c.floor.width = x.width ∙ rw text_is (width_back _ _ k.wide k.wide_top k.high k.high_top rest) in
    let height : h ≡ c.floor.height = x.height ∙ rw text_is (height_back _ _ k.wide k.wide_top k.high k.high_top rest) in
    let enough : cells c.floor ≤ room = rw (width, height) at (found_room x) in
    sym e ∙ rw (← c.writes) (read_written c.floor c.map room c.passes enough)

-- writing what was read gives the text back exactly when the writer could have written it
pub written_back : (text : List ℕ) (room w h : ℕ) (m : List ℕ) → reading_of text room ≡ read w h m → (text_of w h m ≡ text) ↔ CouldWrite text
written_back text room w h m e = (
  λ t. record { floor = record { width = w; height = h; ways = 8 }; map = m; passes = read_passes text room w h m e; writes = t },
  λ c.
      let same = could_write text room w h m e c in
      let width : w ≡ c.floor.width = cc in
      let height : h ≡ c.floor.height = cc in
      let map : m ≡ c.map = cc in
      rw (width, height, map) c.writes,
)

-- a second result that keeps the reader's promise is equal
pub one_reading : (text room : List ℕ) {r s : Result Floor Refusal} {room₁ room₂ : List ℕ} → IsRead text room r room₁ → IsRead text room s room₂
    → (r ≡ s) × (room₁ ≡ room₂)
one_reading text room {r} {s} x y = (same_read r s (x.answers ∙ sym y.answers), x.leaves ∙ sym y.leaves)

-- and so for the writer's
pub one_writing : (f : Floor) (m room : List ℕ) {r s : Result ℕ Refusal} {room₁ room₂ : List ℕ} → IsWritten f m room r room₁ → IsWritten f m room s room₂
    → (r ≡ s) × (room₁ ≡ room₂)
one_writing f m room {r} {s} x y = (same_written r s (x.answers ∙ sym y.answers), x.leaves ∙ sym y.leaves)

-- 01's example, `.@.` over `...`: `type octile`, `height 2`, `width 3`, `map` and the rows, each with LF
abbrev example : List ℕ
example =
    116 ∷ 121 ∷ 112 ∷ 101 ∷ 32 ∷ 111 ∷ 99 ∷ 116 ∷ 105 ∷ 108 ∷ 101 ∷ 10
    ∷ 104 ∷ 101 ∷ 105 ∷ 103 ∷ 104 ∷ 116 ∷ 32 ∷ 50 ∷ 10
    ∷ 119 ∷ 105 ∷ 100 ∷ 116 ∷ 104 ∷ 32 ∷ 51 ∷ 10
    ∷ 109 ∷ 97 ∷ 112 ∷ 10
    ∷ 46 ∷ 64 ∷ 46 ∷ 10
    ∷ 46 ∷ 46 ∷ 46 ∷ 10
    ∷ []

pub example_text : text_of 3 2 (1 ∷ 0 ∷ 1 ∷ 1 ∷ 1 ∷ 1 ∷ []) ≡ example
unfolding text_of header side_line
example_text = refl

pub example_length : length (text_of 3 2 (1 ∷ 0 ∷ 1 ∷ 1 ∷ 1 ∷ 1 ∷ [])) ≡ 41
example_length = ap length example_text
