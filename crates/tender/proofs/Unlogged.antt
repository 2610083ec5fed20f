-- What the route log refuses: an answer is a refusal exactly when the reading is, or the writer's lines give one, and then the room is as it was.
use mathlib.Core.Path.{◌≡◌, ap, ◌∙◌}
use mathlib.Core.Logic.Iff
use mathlib.Core.Logic.{◌↔◌}
use mathlib.Core.List.{List}
use Prim.Native.Nat.{ℕ, ◌<◌}
use lib.ListN.{length}
use Rattle.std.specs.Prelude.{Option, Result}
use Rattle.floor.specs.declared.refusals.Refusal.{Refusal}
use Rattle.floor.specs.declared.written.WrittenNumbers.{WrittenNumbers}
use Rattle.floor.specs.Screen.{Screen, Refused}
use Rattle.floor.specs.Numbers.{Numbers, written_as}
use Rattle.floor.specs.Refusal.{screen}
use Rattle.routelog.specs.declared.EntryRead.{EntryRead}
use Rattle.routelog.specs.declared.EntryNumbers.{EntryNumbers}
use Rattle.logentries.specs.Entry.{Entry}
use Rattle.routelog.specs.Reading.{Reading, refused, reading_of, numbers_of, route_left, IsRead}
use Rattle.routelog.specs.Writing.{write_lines, entry_left, IsWritten}
use Rattle.routelog.specs.Refusals.{ReaderRefuses, WriterRefuses}
use Rattle.routelog.specs.Calls.{ReadCalled, WriteCalled}
use Rattle.routelog.proofs.Refusals as words
use Rattle.routelog.proofs.Calls.{reader_number, writer_number, read_call_refused, write_call_refused}
use Rattle.tender.specs.FirstCondition.{Refuses, Says}

-- numbers say what is due, if nothing is due with the number 0
says : {refusal place : ℕ} {A : ℕ → ℕ → Type 0} → ((n p : ℕ) → 0 < n → ((refusal ≡ n) × (place ≡ p)) ↔ A n p) → ((n p : ℕ) → A n p → 0 < n)
    → (n p : ℕ) → Says refusal place n p ↔ A n p
says exactly some n p = (
  λ s. (exactly n p s.some).0 (s.number, s.at),
  λ a. let b = (exactly n p (some n p a)).1 a in record { number = b.0; at = b.1; some = some n p a },
)

module _ (rest room room' : List ℕ) where
  abbrev reading : Reading
  reading = reading_of rest (length room)

  abbrev ReadDue : ℕ → ℕ → Type 0
  ReadDue n p = ReaderRefuses rest (length room) n × (p ≡ 0)

  -- a refusal that is told exactly when the reading is one
  of_reading : {Told : ℕ → ℕ → Type 0} → room' ≡ route_left reading room → ((n p : ℕ) → Told n p ↔ (reading ≡ refused n p)) → Refuses ReadDue Told (room' ≡ room)
  of_reading leaves exactly = record {
    exactly = λ n p. Iff.trans (exactly n p) (words.reader_refuses rest (length room) n p);
    alters_nothing = λ n p e. leaves ∙ ap (λ (y : Reading). route_left y room) ((exactly n p).0 e);
  }

  pub log_reader_refuses : (r : Result (Option EntryRead) Refusal) → IsRead rest room r room' → Refuses ReadDue (λ n p. numbers_of r ≡ Numbers.refused n p) (room' ≡ room)
  log_reader_refuses r x = of_reading x.leaves (λ n p. words.outcome_refused reading r n p x.outcome)

  pub log_reader_call_refuses : (x : EntryNumbers) → ReadCalled rest room x room' → Refuses ReadDue (Says x.refusal x.place) (room' ≡ room)
  log_reader_call_refuses x c =
      of_reading c.leaves
      (says (λ n p. read_call_refused reading x n p c.numbers) (λ n p e. reader_number ((words.reader_refuses rest (length room) n p).0 e).0))

module _ (e : Entry) (room room' : List ℕ) where
  abbrev lines : Screen
  lines = screen (write_lines e (length room))

  abbrev WriteDue : ℕ → ℕ → Type 0
  WriteDue n p = WriterRefuses e (length room) n × (p ≡ 0)

  of_lines : {Told : ℕ → ℕ → Type 0} → room' ≡ entry_left e room lines → ((n p : ℕ) → Told n p ↔ (lines ≡ Refused n p)) → Refuses WriteDue Told (room' ≡ room)
  of_lines leaves exactly = record {
    exactly = λ n p. Iff.trans (exactly n p) (words.writer_refuses e (length room) n p);
    alters_nothing = λ n p h. leaves ∙ ap (entry_left e room) ((exactly n p).0 h);
  }

  pub log_writer_refuses : (w : Result ℕ Refusal) → IsWritten e room w room' → Refuses WriteDue (λ n p. written_as w ≡ Numbers.refused n p) (room' ≡ room)
  log_writer_refuses w x = of_lines x.leaves (λ n p. words.written_refused e lines w n p x.answers)

  pub log_writer_call_refuses : (x : WrittenNumbers) → WriteCalled e room x room' → Refuses WriteDue (Says x.refusal x.place) (room' ≡ room)
  log_writer_call_refuses x c =
      of_lines c.leaves
      (says (λ n p. write_call_refused e lines x n p c.numbers) (λ n p h. writer_number ((words.writer_refuses e (length room) n p).0 h).0))
