-- Which answers of the search can be logged as they stand in their records, and 01's example as an entry.
use mathlib.Core.Path.{◌≡◌, refl}
use mathlib.Core.List.{List, [], ◌∷◌, ◌++◌}
use Prim.Native.Nat.{ℕ, ◌≤◌, ◌<◌}
use native.Mathlib.Omega.{arith}
use borrow.Author.Tests.{ne_eqb, lt-ltb, le-leb}
use lib.Dec.{T}
use lib.ListN.{replicate}
use Rattle.paths.specs.Graph.{MARK}
use Rattle.floor.specs.declared.RouteLength.{RouteLength}
use Rattle.answering.specs.Answer.{Answer, Found, None, Stopped}
use Rattle.answering.specs.Answers.{numbers_of}
use Rattle.recordlayout.specs.Record.{record_of, answer_in}
use Rattle.recordlayout.proofs.Records.{number_back}
use Rattle.logentries.specs.Entry.{entry_of, route_size, route_bytes, entry_bytes, greatest_refusal, greatest_length, kind_fits, can_be_logged, steps_in}

-- a refusal up to 15, a found cost that isn't MARK with a route up to 4,095, none, a floor that isn't MARK; any settled count
pub data CanLog : Answer → Type 0 where
  refused : (n p : ℕ) → 0 < n → n ≤ greatest_refusal → CanLog (Answer.Refused n p)
  found : (s c : ℕ) (l : RouteLength) → c < MARK → l.steps ≤ greatest_length → CanLog (Found s c l)
  nothing : (s : ℕ) → CanLog (None s)
  stopped : (s c : ℕ) → c < MARK → CanLog (Stopped s c)

pub answer_logged : {a : Answer} → CanLog a → T (can_be_logged (record_of a)) × (steps_in (record_of a) ≡ (numbers_of a).length)
unfolding record_of answer_in can_be_logged kind_fits
answer_logged (refused n p least h) = (rw (lt-ltb 0 n least, le-leb n greatest_refusal h) tt, refl)
answer_logged (found s c l cost h) =
    let steps = number_back l.steps (omega arith) in
    (rw (number_back c (omega arith), steps, ne_eqb c MARK (λ e. omega arith), le-leb l.steps greatest_length h) tt, steps)
answer_logged (nothing s) = (tt, refl)
answer_logged (stopped s c cost) = (rw (number_back c (omega arith), ne_eqb c MARK (λ e. omega arith)) tt, refl)

-- 01's example, case a, with its route 4 2 2 0: three records
abbrev question : List ℕ
question = 0 ∷ 0 ∷ 0 ∷ 0 ∷ 2 ∷ 0 ∷ 0 ∷ 0 ∷ 5 ∷ 0 ∷ 0 ∷ 0 ∷ 8 ∷ replicate 19 0

pub example_entry : entry_bytes (entry_of question (record_of (Found 5 560 (record { steps = 4; p = 8; q = 0 }))) (4 ∷ 2 ∷ 2 ∷ 0 ∷ []))
    ≡ 0 ∷ 0 ∷ 0 ∷ 0 ∷ 2 ∷ 0 ∷ 0 ∷ 0 ∷ 5 ∷ 0 ∷ 0 ∷ 0 ∷ 8 ∷ replicate 19 0
    ++ (1 ∷ 0 ∷ 0 ∷ 0 ∷ 5 ∷ 0 ∷ 0 ∷ 0 ∷ 48 ∷ 2 ∷ 0 ∷ 0 ∷ 4 ∷ 0 ∷ 0 ∷ 0 ∷ 8 ∷ 0 ∷ 0 ∷ 0 ∷ 0 ∷ 0 ∷ 0 ∷ 0 ∷ replicate 8 0)
    ++ (4 ∷ 2 ∷ 2 ∷ 0 ∷ replicate 28 255)
unfolding entry_bytes route_bytes route_size record_of
example_entry = refl
