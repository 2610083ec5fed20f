-- The reader's three answers: the rest of the file is empty, it is refused, or it begins with an entry.
use mathlib.Core.Path.{◌≡◌, refl, ap, ◌∙◌}
use mathlib.Core.Logic.{◌≢◌}
use mathlib.Core.List.{List, ◌++◌}
use Prim.Native.Nat.{ℕ, ◌+◌, ◌-◌}
use native.Mathlib.Omega.{arith}
use borrow.Author.Tests.{eq-eqb, ne_eqb}
use lib.ListN.{length, take, drop}
use lib.Seq.{take-length}
use Rattle.std.specs.Prelude.{Option, Some, None, Result, Ok, Err}
use Rattle.floor.specs.declared.refusals.Refusal.{Refusal}
use Rattle.floor.specs.Refusals.{number_of, place_of}
use Rattle.floor.specs.Screen.{Screen, Passed, Refused}
use Rattle.floor.specs.Refusal.{screen}
use Rattle.recordlayout.specs.Record.{record_size}
use Rattle.routelog.specs.declared.EntryRead.{EntryRead}
use Rattle.logentries.specs.Entry.{route_size, steps_in}
use Rattle.routelog.specs.Reading.{question_at, answer_at, route_at, entry_at, read_lines, empty, refused, entry, after_lines, reading_of, ReadAs, IsRead}
use Rattle.routelog.proofs.Passing.{Passes, steps_there, bytes_taken}

module _ (rest : List ℕ) (room : ℕ) where
  pub reading_empty : length rest ≡ 0 → reading_of rest room ≡ empty
  unfolding reading_of
  reading_empty e = rw (eq-eqb (length rest) 0 e)

  pub reading_judged : length rest ≢ 0 → {s : Screen} → screen (read_lines rest room) ≡ s → reading_of rest room ≡ after_lines s rest
  unfolding reading_of
  reading_judged some e = rw (ne_eqb (length rest) 0 some, e)

module _ (rest room : List ℕ) where
  pub read_empty : length rest ≡ 0 → IsRead rest room (Ok None) room
  read_empty e = rw (reading_empty rest (length room) e) (record { outcome = refl; question = refl; answer = refl; leaves = refl })

  module _ (some : length rest ≢ 0) where
    pub read_refused : {x : Refusal} → screen (read_lines rest (length room)) ≡ Refused (number_of x) (place_of x) → IsRead rest room (Err x) room
    read_refused e = rw (reading_judged rest (length room) some e) (record { outcome = refl; question = refl; answer = refl; leaves = refl })

    pub read_logged : {r : Result (Option EntryRead) Refusal} {room' : List ℕ} → screen (read_lines rest (length room)) ≡ Passed → ReadAs (entry (entry_at rest)) room r room' → IsRead rest room r room'
    read_logged e x = rw (reading_judged rest (length room) some e) x

-- what was copied is the route, and the bytes that were counted are the entry's
pub taken : {rest room room' q a : List ℕ} {n size : ℕ} → Passes rest (length room) → q ≡ question_at rest → a ≡ answer_at rest → n ≡ steps_in (answer_at rest)
    → size ≡ route_size n
    → (let part = take (record_size + record_size + n - (record_size + record_size)) (route_at rest) in room' ≡ take (length part) part ++ drop (length part) room)
    → ReadAs (entry (entry_at rest)) room (Ok (Some (record { length = n; taken = record_size + record_size + size; question = q; answer = a }))) room'
taken {rest} {room} {n = n} p question answer steps bytes copied =
    let count : record_size + record_size + n - (record_size + record_size) ≡ steps_in (answer_at rest) = omega arith in
    let route = (entry_at rest).route in
    record {
      outcome = rw (steps_there p, bytes_taken p, bytes, steps);
      question = question;
      answer = answer;
      leaves = rw count at copied ∙ ap (λ (front : List ℕ). front ++ drop (length route) room) (take-length route);
    }
