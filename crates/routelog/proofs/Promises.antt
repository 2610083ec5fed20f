-- The promises leave nothing open: a second result, with the room, is equal to the first, since an answer is the only one with its numbers and records.
use mathlib.Core.Path.{◌≡◌, refl, sym, ap, ◌∙◌}
use mathlib.Core.List.{List, [], ◌∷◌}
use Prim.Native.Nat.{ℕ}
use Rattle.std.specs.Prelude.{Option, Some, None, Result, Ok, Err}
use Rattle.floor.specs.declared.refusals.Refusal.{Refusal}
use Rattle.floor.specs.Numbers.{Numbers, refused, fault, gives}
use Rattle.floor.proofs.Numbered.{named, named_back, same_written}
use Rattle.routelog.specs.declared.EntryRead.{EntryRead}
use Rattle.logentries.specs.Entry.{Entry}
use Rattle.routelog.specs.Reading.{Reading, numbers_of, question_read, answer_read, ReadAs}
use Rattle.routelog.specs.Writing.{IsWritten}

-- the reader's answer with some numbers, and with these records where it is an entry
abbrev pub outcome_of : Numbers → List ℕ → List ℕ → Result (Option EntryRead) Refusal
outcome_of (refused n p) q a = Err (named n p)
outcome_of (fault n p) q a = Err (named n p)
outcome_of (gives []) q a = Ok None
outcome_of (gives (n ∷ [])) q a = Ok None
outcome_of (gives (n ∷ t ∷ vs)) q a = Ok (Some (record { length = n; taken = t; question = q; answer = a }))

pub outcome_back : (r : Result (Option EntryRead) Refusal) → outcome_of (numbers_of r) (question_read r) (answer_read r) ≡ r
outcome_back (Ok None) = refl
outcome_back (Ok (Some e)) = refl
outcome_back (Err r) = ap Err (named_back r)

pub same_read : (r s : Result (Option EntryRead) Refusal) → numbers_of r ≡ numbers_of s → question_read r ≡ question_read s → answer_read r ≡ answer_read s → r ≡ s
same_read r s n q a = sym (outcome_back r) ∙ rw (n, q, a) (outcome_back s)

-- of the reader, by any reading of the rest of the file
pub one_read : {x : Reading} {room : List ℕ} {r s : Result (Option EntryRead) Refusal} {room₁ room₂ : List ℕ} → ReadAs x room r room₁ → ReadAs x room s room₂
    → (r ≡ s) × (room₁ ≡ room₂)
one_read {r = r} {s} x y =
    (same_read r s (x.outcome ∙ sym y.outcome) (x.question ∙ sym y.question) (x.answer ∙ sym y.answer), x.leaves ∙ sym y.leaves)

-- and of the writer
pub one_written : {e : Entry} {room : List ℕ} {r s : Result ℕ Refusal} {room₁ room₂ : List ℕ} → IsWritten e room r room₁ → IsWritten e room s room₂
    → (r ≡ s) × (room₁ ≡ room₂)
one_written {r = r} {s} x y = (same_written r s (x.answers ∙ sym y.answers), x.leaves ∙ sym y.leaves)
