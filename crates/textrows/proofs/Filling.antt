-- Bytes that are put one after the other, and rows: the bytes that a text gives, and the characters that a map gives.
use mathlib.Core.Path.{◌≡◌, refl, sym, ap, ◌∙◌}
use mathlib.Core.List.{List, [], ◌∷◌, ◌++◌, map, append_assoc, append-nil}
use Prim.Native.Nat.{ℕ, zero, suc, ◌+◌, ◌*◌, ◌≤◌, ◌<◌}
use native.Mathlib.Nat.{suc-mul, zero-mul, mul-le-mul, le_refl}
use native.Mathlib.Numerals.{add-one}
use native.Mathlib.Omega.{arith}
use lib.ListN.{length, get_or, set, take, drop, length-map, length-append, length-drop}
use lib.Seq.{sets, length-take-le, drop-drop}
use Rattle.std.specs.Option.{unwrap_or}
use Rattle.std.proofs.lemmas.List.{map_more}
use Rattle.textlines.specs.Line.{LF}
use Rattle.textrows.specs.Cell.{Cell, Weight, Blocked, NoCell, byte_in}
use Rattle.textrows.specs.Chars.{char_of}
use Rattle.textrows.specs.Rows.{rows}
use Rattle.textrows.specs.Working.{byte_for, byte_or_0, bytes_in}
use Rattle.putting.proofs.Puts.{sets_append}

pub mapped_length : (f : ℕ → ℕ) (w : ℕ) (xs : List ℕ) → w ≤ length xs → length (map f (take w xs)) ≡ w
mapped_length f w xs h = length-map (take w xs) f ∙ length-take-le w xs h

-- one more of the mapped bytes is put
pub mapped_more : (f : ℕ → ℕ) (xs room : List ℕ) (to i : ℕ) → i < length xs
    → set (sets room to (map f (take i xs))) (to + i) (f (get_or xs i 0)) ≡ sets room to (map f (take (i + 1) xs))
mapped_more f xs room to i h =
    let done = map f (take i xs) in
    let size : length done ≡ i = mapped_length f i xs (omega arith) in
    sym (ap (λ (l : List ℕ). sets room to l) (map_more f xs i 0 h) ∙ sets_append done (f (get_or xs i 0) ∷ []) room to ∙ rw size)

pub mapped_next : (f : ℕ → ℕ) (xs room : List ℕ) {room' : List ℕ} (to : ℕ) {i v : ℕ} → i < length xs → room' ≡ sets room to (map f (take i xs)) → v ≡ f (get_or xs i 0)
    → set room' (to + i) v ≡ sets room to (map f (take (i + 1) xs))
mapped_next f xs room to {i} h e b = rw (e, b) (mapped_more f xs room to i h)

-- the byte of no cell is told as 0
pub byte_told : (cell : Cell) → unwrap_or (byte_in cell) 0 ≡ byte_for cell
byte_told (Weight n) = refl
byte_told Blocked = refl
byte_told NoCell = refl

-- a further row fits
pub row_fits : (y h k : ℕ) → y < h → y * k + k ≤ h * k
row_fits y h k l = let m : suc y * k ≤ h * k = mul-le-mul l (le_refl k) in omega (arith, suc-mul y k)

pub bytes_length : (w h : ℕ) (text : List ℕ) → h * suc w ≤ length text → length (bytes_in w h text) ≡ h * w
bytes_length w zero text k = omega arith
bytes_length w (suc h) text k =
    let row : length (map byte_or_0 (take w text)) ≡ w = mapped_length byte_or_0 w text (omega (arith, suc-mul h (suc w))) in
    let rest = bytes_length w h (drop (suc w) text) (omega (arith, suc-mul h (suc w), length-drop (suc w) text)) in
    omega (arith, length-append (map byte_or_0 (take w text)) (bytes_in w h (drop (suc w) text)), row, rest, suc-mul h w)

-- y rows of bytes, and then the next
pub bytes_more : (w y : ℕ) (text : List ℕ) → bytes_in w (suc y) text ≡ bytes_in w y text ++ map byte_or_0 (take w (drop (y * suc w) text))
bytes_more w zero text = rw (append-nil, zero-mul)
bytes_more w (suc y) text =
    let first = map byte_or_0 (take w text) in
    let past : suc w + y * suc w ≡ suc y * suc w = omega (arith, suc-mul y (suc w)) in
    ap (λ (l : List ℕ). first ++ l) (bytes_more w y (drop (suc w) text)) ∙ rw (drop-drop, past)
    (sym (append_assoc first (bytes_in w y (drop (suc w) text)) (map byte_or_0 (take w (drop (suc y * suc w) text)))))

-- the next row is stored, at the offset that the text has it at
pub next_stored : (w y from : ℕ) (text room : List ℕ) {room' room'' : List ℕ} → from + y * suc w ≤ length text → room' ≡ sets room 0 (bytes_in w y (drop from text))
    → room'' ≡ sets room' (y * w) (map byte_or_0 (take w (drop (from + y * suc w) text))) → room'' ≡ sets room 0 (bytes_in w (y + 1) (drop from text))
next_stored w y from text room h e k =
    let done = bytes_in w y (drop from text) in
    let row = map byte_or_0 (take w (drop (y * suc w) (drop from text))) in
    let size : 0 + length done ≡ y * w = omega (arith, bytes_length w y (drop from text) (omega (arith, length-drop from text))) in
    let all : bytes_in w (y + 1) (drop from text) ≡ done ++ row = rw add-one (bytes_more w y (drop from text)) in
    let here : sets (sets room 0 done) (0 + length done) row ≡ sets (sets room 0 done) (y * w) row = ap (λ (n : ℕ). sets (sets room 0 done) n row) size in
    k ∙ rw (e, all) (sym (sets_append done row room 0 ∙ here ∙ rw drop-drop))

-- and of characters
pub rows_more : (w y : ℕ) (m : List ℕ) → rows w (suc y) m ≡ rows w y m ++ (map char_of (take w (drop (y * w) m)) ++ (LF ∷ []))
rows_more w zero m = rw zero-mul
rows_more w (suc y) m =
    let first = map char_of (take w m) in
    let past : w + y * w ≡ suc y * w = omega (arith, suc-mul y w) in
    ap (λ (l : List ℕ). first ++ (LF ∷ l)) (rows_more w y (drop w m)) ∙ rw (drop-drop, past)
    (sym (append_assoc first (LF ∷ rows w y (drop w m)) (map char_of (take w (drop (suc y * w) m)) ++ (LF ∷ []))))

pub rows_text_length : (w h : ℕ) (m : List ℕ) → h * w ≤ length m → length (rows w h m) ≡ h * suc w
rows_text_length w zero m k = omega arith
rows_text_length w (suc h) m k =
    let row : length (map char_of (take w m)) ≡ w = mapped_length char_of w m (omega (arith, suc-mul h w)) in
    let rest = rows_text_length w h (drop w m) (omega (arith, suc-mul h w, length-drop w m)) in
    omega (arith, length-append (map char_of (take w m)) (LF ∷ rows w h (drop w m)), row, rest, suc-mul h (suc w))
