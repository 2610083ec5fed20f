-- What was read, given to the writer: the room's first cells are the map of the reading, so that the writer's text of it is compared with the text read.
use mathlib.Core.Path.{◌≡◌, refl, sym, ◌∙◌, subst}
use mathlib.Core.Logic.{◌↔◌}
use mathlib.Core.List.{List, ◌++◌}
use Prim.Native.Nat.{ℕ, ◌≤◌}
use native.Mathlib.Decide.{dec_le}
use native.Mathlib.Omega.{arith}
use lib.ListN.{length, take, drop}
use lib.Seq.{take_at, take-append_seam}
use Rattle.floor.specs.declared.Floor.{Floor}
use Rattle.floor.specs.Screen.{Passed}
use Rattle.floor.specs.Place.{cells}
use Rattle.floor.specs.Refusal.{screen, map_lines}
use Rattle.std.specs.Prelude.{Result}
use Rattle.std.specs.Prelude.{Ok}
use Rattle.floor.specs.declared.refusals.Refusal.{Refusal}
use Rattle.maptext.specs.Text.{text_of, IsWritten, CouldWrite}
use Rattle.maptext.specs.Reading.{read, reading_of, IsRead}
use Rattle.maptext.proofs.Writing.{written_short, room_enough, text_left_lem}
use Rattle.maptext.proofs.Found.{found, found_facts}
use Rattle.maptext.proofs.Storing.{has_map}
use Rattle.floor.proofs.Numbered.{same_written}
use Rattle.maptext.proofs.Texts.{read_passes, written_back, one_writing}

-- a text that reads as the map m of the floor f, for a cell room of that length
module _ (f : Floor) (m text : List ℕ) (size : ℕ) (reads : reading_of text size ≡ read f.width f.height m) (ways : f.ways ≡ 8) where
  passes : screen (map_lines f m) ≡ Passed
  passes =
      subst (λ (n : ℕ). screen (map_lines (record { width = f.width; height = f.height; ways = n }) m) ≡ Passed) (sym ways)
      (read_passes text size f.width f.height m reads)

  back : (text_of f.width f.height m ≡ text) ↔ CouldWrite text
  back = written_back text size f.width f.height m reads

  module _ (room : List ℕ) (w : Result ℕ Refusal) (room' : List ℕ) (x : IsWritten f m room w room') where
    given_back : w ≡ Ok (length text) → take (length text) room' ≡ text → CouldWrite text × (length text ≤ length room)
    given_back e t =
        let y : IsWritten f m room (Ok (length text)) room' = rw e at x in
        let same = sym (text_left_lem f m room room' (length text) y).text ∙ t in
        (back.0 same, go same y (dec_le (length text) (length room)))
      where
        go : text_of f.width f.height m ≡ text → IsWritten f m room (Ok (length text)) room' → Dec (length text ≤ length room) → length text ≤ length room
        go same y (yes h) = h
        go same y (no k) =
            let other = (one_writing f m room y (written_short f m room passes (rw same (omega arith)))).0 in
            let z : ◌≡◌ {A = ℕ} 0 1 = cc in
            absurd (omega arith)

    gives_back : CouldWrite text → length text ≤ length room → (w ≡ Ok (length text)) × (take (length text) room' ≡ text)
    gives_back c h =
        let same = back.1 c in
        let enough = room_enough f m room passes (rw same h) in
        let left : room' ≡ text ++ drop (length text) room = x.leaves ∙ rw (enough, same) refl in
        (same_written w (Ok (length text)) (x.answers ∙ rw (enough, same) refl), rw left (take-append_seam text (drop (length text) room)))

-- Writing what was read gives the text back exactly when the writer could have written it, and the room is long enough
pub writes_back : (f : Floor) (text cellRoom cellRoom' room room' : List ℕ) (w : Result ℕ Refusal) → IsRead text cellRoom (Ok f) cellRoom'
    → IsWritten f (take (cells f) cellRoom') room w room'
    → ((w ≡ Ok (length text)) × (take (length text) room' ≡ text)) ↔ (CouldWrite text × (length text ≤ length room))
writes_back f text cellRoom cellRoom' room room' w x y =
    let has = has_map text (length cellRoom) f refl x.answers in
    go has.map has.reading has.ways
  where
    go : (m : List ℕ) → reading_of text (length cellRoom) ≡ read f.width f.height m → f.ways ≡ 8
        → ((w ≡ Ok (length text)) × (take (length text) room' ≡ text)) ↔ (CouldWrite text × (length text ≤ length room))
    go m reads ways =
        let size : length m ≡ cells f = (found_facts (found text (length cellRoom) f.width f.height m reads)).covers in
        let left : cellRoom' ≡ m ++ drop (length m) cellRoom = x.leaves ∙ rw reads refl in
        let map-left : take (cells f) cellRoom' ≡ m = rw left (take_at m (drop (length m) cellRoom) (cells f) size) in
        let written : IsWritten f m room w room' = rw map-left at y in (
          λ e. given_back f m text (length cellRoom) reads ways room w room' written e.0 e.1,
          λ c. gives_back f m text (length cellRoom) reads ways room w room' written c.0 c.1,
        )
