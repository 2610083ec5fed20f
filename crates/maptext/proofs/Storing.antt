-- A text that is judged to be a map: its rows are the last bytes of the text, and stored they are what the reader leaves.
use mathlib.Core.Path.{◌≡◌, refl, sym, ◌∙◌, ap}
use mathlib.Core.List.{List}
use Prim.Native.Nat.{ℕ, suc, ◌+◌, ◌-◌, ◌*◌, ◌≤◌}
use native.Mathlib.Omega.{arith}
use lib.ListN.{length, drop}
use lib.Seq.{sets}
use Rattle.floor.specs.declared.Floor.{Floor}
use Rattle.floor.specs.Place.{greatest_side, cells}
use Rattle.textrows.specs.Working.{bytes_in}
use Rattle.std.specs.Prelude.{Result}
use Rattle.std.specs.Prelude.{Ok}
use Rattle.floor.specs.declared.refusals.Refusal.{Refusal}
use Rattle.maptext.specs.Reading.{Reading, refused, read, rows_at, reading_of, numbers_of, read_for, IsRead}
use Rattle.putting.proofs.Puts.{sets_whole}
use Rattle.maptext.proofs.Found.{IsFound, found, found_room, found_bytes, found_facts, found_end}

-- the text is a map, for a cell room of that length
pub record HasMap (text : List ℕ) (room : ℕ) (f : Floor) : Type 0 where
  pub map : List ℕ
  pub reading : reading_of text room ≡ read f.width f.height map
  pub ways : f.ways ≡ 8

pub has_map : (text : List ℕ) (room : ℕ) (f : Floor) {r : Result Floor Refusal} → r ≡ Ok f → numbers_of r ≡ read_for (reading_of text room) → HasMap text room f
has_map text room f given e = go (reading_of text room) refl (ap numbers_of (sym given) ∙ e)
  where
    go : (x : Reading) → reading_of text room ≡ x → numbers_of (Ok f) ≡ read_for x → HasMap text room f
    go (refused n p) r e = let z : ◌≡◌ {A = ℕ} 0 1 = cc in absurd (omega arith)
    go (read w h m) r e =
        let width : f.width ≡ w = cc in
        let height : f.height ≡ h = cc in
        record { map = m; reading = rw (width, height) r; ways = cc }

module _ {text : List ℕ} {room : ℕ} {f : Floor} (x : HasMap text room f) where
  is_found : IsFound text room f.width f.height x.map
  is_found = found text room f.width f.height x.map x.reading

  pub rows_start : rows_at text + f.height * suc f.width ≡ length text
  rows_start = found_end is_found

  pub cells_fit : cells f ≤ room
  cells_fit = found_room is_found

  pub width_small : f.width ≤ greatest_side
  width_small = (found_facts is_found).wide_top

pub left_stored : {text room room' : List ℕ} {f : Floor} → HasMap text (length room) f
    → room' ≡ sets room 0 (bytes_in f.width f.height (drop (length text - f.height * (f.width + 1)) text)) → IsRead text room (Ok f) room'
left_stored {text} {room} {room'} {f} x e =
    let y = is_found x in
    let start : length text - f.height * (f.width + 1) ≡ rows_at text = omega (arith, rows_start x) in
    let size : length x.map ≤ length room = omega (arith, (found_facts y).covers, found_room y) in
    record {
      answers = rw (x.reading, x.ways);
      leaves = rw x.reading (e ∙ rw (start, ← found_bytes y) (sets_whole x.map room size));
    }
