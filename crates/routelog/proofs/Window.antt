-- A piece of a file in which its first entry ends reads as the whole file: nothing that follows an entry is looked at.
use mathlib.Core.Path.{◌≡◌, refl, sym, ap, ◌∙◌}
use mathlib.Core.Logic.{◌≢◌}
use mathlib.Core.Bool.{Bool, true, false}
use mathlib.Core.List.{List, ◌++◌}
use Prim.Native.Nat.{ℕ, ◌+◌, ◌-◌, ◌≤◌, ◌<◌}
use native.Mathlib.Decide.{dec_lt}
use native.Mathlib.Omega.{arith}
use borrow.Author.Tests.{le-ltb}
use lib.ListN.{length, take, drop, length-append, length-drop, take-append-drop}
use lib.Seq.{length-take-le, take_all, take-append-le, drop-append-le}
use Rattle.paths.proofs.Bools.{true_T}
use Rattle.std.specs.Prelude.{Option, Result}
use Rattle.floor.specs.declared.refusals.Refusal.{Refusal}
use Rattle.floor.specs.Screen.{Screen, Passed, Refused}
use Rattle.floor.specs.Refusal.{screen}
use Rattle.recordlayout.specs.Record.{record_size}
use Rattle.routelog.specs.declared.EntryRead.{EntryRead}
use Rattle.logentries.specs.Entry.{route_size, greatest_length, can_be_logged, steps_in}
use Rattle.routelog.specs.Reading.{answer_at, route_at, entry_at, route_lines, read_lines, refused, entry, after_lines, reading_of, greatest_entry, IsRead}
use Rattle.logentries.proofs.Answers.{steps_few}
use Rattle.logentries.proofs.Sizes.{size_holds, sizes_rise}
use Rattle.routelog.proofs.Judging.{head_ends, wrong_answer, by_route, route_ends}
use Rattle.routelog.proofs.Passing.{passes}
use Rattle.routelog.proofs.Taking.{reading_judged}
use Rattle.routelog.proofs.Back.{same_entry}

-- of a route whose records are there, nothing that follows them is looked at
route_alone : (bytes more : List ℕ) (n room : ℕ) → route_size n ≤ length bytes → screen (route_lines (bytes ++ more) n room) ≡ screen (route_lines bytes n room)
route_alone bytes more n room long =
    let held = size_holds n in
    let ends = length-append bytes more in
    let fill = route_size n - n in
    rw (
      le-ltb (length (bytes ++ more)) (route_size n) (omega arith),
      le-ltb (length bytes) (route_size n) long,
      take-append-le n bytes more (omega arith),
      drop-append-le n bytes more (omega arith),
      take-append-le fill (drop n bytes) more (omega (arith, length-drop n bytes)),
    )

-- the two records are in the piece and, if the answer can be logged, those of the route
module _ (piece more : List ℕ) (room : ℕ) (long : record_size + record_size ≤ length piece)
    (route_long : can_be_logged (answer_at piece) ≡ true → route_size (steps_in (answer_at piece)) ≤ length (route_at piece)) where
  abbrev file : List ℕ
  file = piece ++ more

  file_long : record_size + record_size ≤ length file
  file_long = omega (arith, long, length-append piece more)

  same_answer : answer_at file ≡ answer_at piece
  same_answer =
      rw (drop-append-le record_size piece more (omega (arith, long)))
      (take-append-le record_size (drop record_size piece) more (omega (arith, long, length-drop record_size piece)))

  same_route : route_at file ≡ route_at piece ++ more
  same_route = drop-append-le (record_size + record_size) piece more long

  judged_alike : screen (read_lines file room) ≡ screen (read_lines piece room)
  judged_alike = go (can_be_logged (answer_at piece)) refl
    where
      go : (b : Bool) → can_be_logged (answer_at piece) ≡ b → screen (read_lines file room) ≡ screen (read_lines piece room)
      go false e = wrong_answer file room file_long (ap can_be_logged same_answer ∙ e) ∙ sym (wrong_answer piece room long e)
      go true e =
          by_route file room file_long (ap can_be_logged same_answer ∙ e) (sym same_route) (ap steps_in (sym same_answer))
          ∙ route_alone (route_at piece) more (steps_in (answer_at piece)) room (route_long e)
          ∙ sym (by_route piece room long e refl refl)

  entry_alike : screen (read_lines piece room) ≡ Passed → entry_at file ≡ entry_at piece
  entry_alike e =
      let n = steps_in (answer_at piece) in
      let there : n ≤ length (route_at piece) = omega (arith, (passes piece room e).route_long, size_holds n) in
      same_entry (take-append-le record_size piece more (omega (arith, long))) same_answer (rw (same_answer, same_route) (take-append-le n (route_at piece) more there))

  pub piece_reads : reading_of file room ≡ reading_of piece room
  piece_reads =
      reading_judged file room (λ z. omega (arith, file_long)) judged_alike ∙ go (screen (read_lines piece room)) refl
      ∙ sym (reading_judged piece room (λ z. omega (arith, long)) refl)
    where
      go : (s : Screen) → screen (read_lines piece room) ≡ s → after_lines s file ≡ after_lines s piece
      go Passed e = ap entry (entry_alike e)
      go (Refused n p) e = refl

-- as many bytes of the rest of a file as the longest entry has, or all that are left, read as the rest does
pub window_reads : (rest : List ℕ) (room n : ℕ) → greatest_entry ≤ n → reading_of (take n rest) room ≡ reading_of rest room
window_reads rest room n h = elim (dec_lt n (length rest)) [
  | no l ↦ ap (λ (bytes : List ℕ). reading_of bytes room) (take_all n rest (omega arith))
  | yes l ↦
      let piece = take n rest in
      let long : record_size + record_size + route_size greatest_length ≤ length piece = omega (arith, h, length-take-le n rest (omega arith)) in
      sym (piece_reads piece (drop n rest) room (omega (arith, long)) (λ e. omega (arith, long, few piece e, length-drop (record_size + record_size) piece)))
      ∙ ap (λ (bytes : List ℕ). reading_of bytes room) (take-append-drop n rest)
]
  where
    few : (piece : List ℕ) → can_be_logged (answer_at piece) ≡ true → route_size (steps_in (answer_at piece)) ≤ route_size greatest_length
    few piece e = sizes_rise (steps_in (answer_at piece)) greatest_length (steps_few (answer_at piece) (true_T (can_be_logged (answer_at piece)) e))

-- so the reader may be lent a window of the file
pub window_read : (rest room : List ℕ) (n : ℕ) {r : Result (Option EntryRead) Refusal} {room' : List ℕ} → greatest_entry ≤ n → IsRead (take n rest) room r room' → IsRead rest room r room'
window_read rest room n h x = rw (← window_reads rest (length room) n h) x

-- and a piece of any length but 0, unless that is refused as 61, reads as the file does
pub piece_tells : (piece more : List ℕ) (room : ℕ) → length piece ≢ 0 → reading_of piece room ≢ refused 61 0 → reading_of (piece ++ more) room ≡ reading_of piece room
piece_tells piece more room some tells = piece_reads piece more room long (λ e. there e (dec_lt (length (route_at piece)) (route_size (steps_in (answer_at piece)))))
  where
    long : record_size + record_size ≤ length piece
    long = elim (dec_lt (length piece) (record_size + record_size)) [
      | yes h ↦ absurd (tells (reading_judged piece room some (head_ends piece room h)))
      | no h ↦ omega arith
    ]

    there : can_be_logged (answer_at piece) ≡ true → Dec (length (route_at piece) < route_size (steps_in (answer_at piece)))
        → route_size (steps_in (answer_at piece)) ≤ length (route_at piece)
    there e (yes h) =
        absurd (tells (reading_judged piece room some (by_route piece room long e refl refl ∙ route_ends (route_at piece) (steps_in (answer_at piece)) room h)))
    there e (no h) = omega arith
