-- What is put into a record is read back from it, and 01's example holds of the definitions.
use mathlib.Core.Path.{◌≡◌, refl, sym}
use mathlib.Core.Bool.{true}
use mathlib.Core.List.{List, ◌∷◌}
use Prim.Native.Nat.{ℕ, ◌+◌, ◌*◌, ◌/◌, ◌%◌, ◌≤◌, ◌<◌}
use native.Mathlib.Nat.{mod-eq_of_lt}
use native.Mathlib.Omega.{arith}
use lib.Arith.{mod-mul}
use lib.ListN.{length, get_or, replicate}
use Rattle.paths.specs.Graph.{MARK}
use Rattle.answering.specs.Answer.{Answer, Found}
use Rattle.answering.specs.declared.AnswerNumbers.{AnswerNumbers}
use Rattle.answering.specs.Answers.{numbers_of}
use Rattle.answering.specs.Question.{question}
use Rattle.recordlayout.specs.Record.{record_size, little, number_at, question_in, ways_in, ends_in_zeros, record_for, record_of, answer_in}
use Rattle.recordlayout.specs.Fields.{InRecord}

pub record_length : (a : Answer) → length (record_of a) ≡ record_size
unfolding record_of
record_length a = refl

-- 01's example in the form that R-6 gives it: the question, and what its answer is written as
abbrev example : List ℕ
example = 0 ∷ 0 ∷ 0 ∷ 0 ∷ 2 ∷ 0 ∷ 0 ∷ 0 ∷ 5 ∷ 0 ∷ 0 ∷ 0 ∷ 8 ∷ replicate 19 0

pub example_length : length example ≡ record_size
example_length = refl

pub example_question : (question_in example ≡ question 0 2 5) × (ways_in example ≡ 8) × (ends_in_zeros example ≡ true)
example_question = (refl, refl, refl)

pub example_answer : record_of (Found 5 560 (record { steps = 4; p = 8; q = 0 }))
    ≡ 1 ∷ 0 ∷ 0 ∷ 0 ∷ 5 ∷ 0 ∷ 0 ∷ 0 ∷ 48 ∷ 2 ∷ 0 ∷ 0 ∷ 4 ∷ 0 ∷ 0 ∷ 0 ∷ 8 ∷ 0 ∷ 0 ∷ 0 ∷ 0 ∷ 0 ∷ 0 ∷ 0 ∷ replicate 8 0
unfolding record_of
example_answer = refl

-- a number of four bytes
pub number_small : (bytes : List ℕ) (at : ℕ) → ((v : ℕ) → get_or bytes v 0 < 256) → number_at bytes at ≤ MARK
number_small bytes at small = omega (arith, small at, small (at + 1), small (at + 2), small (at + 3))

-- a number is read back from its four bytes
pub number_back : (n : ℕ) → n < 4294967296 → number_at (little n) 0 ≡ n
number_back n h =
    let two : n % 65536 ≡ n / 256 % 256 * 256 + n % 256 = mod-mul n {m = 256} {c = 256} (omega arith) (omega arith) in
    let three : n % 16777216 ≡ n / 65536 % 256 * 65536 + n % 65536 = mod-mul n {m = 256} {c = 65536} (omega arith) (omega arith) in
    let four : n % 4294967296 ≡ n / 16777216 % 256 * 16777216 + n % 16777216 = mod-mul n {m = 256} {c = 16777216} (omega arith) (omega arith) in
    omega (arith, two, three, four, mod-eq_of_lt h)

-- and so are the numbers of an answer from its record
pub record ReadsBack (n : AnswerNumbers) (bytes : List ℕ) : Type 0 where
  pub settled : number_at bytes 4 ≡ n.settled
  pub number : number_at bytes 8 ≡ n.number
  pub length : number_at bytes 12 ≡ n.length
  pub p : number_at bytes 16 ≡ n.p
  pub q : number_at bytes 20 ≡ n.q

pub answer_back : (n : AnswerNumbers) → InRecord n → ReadsBack n (record_for n)
answer_back n fits = record {
  settled = number_back n.settled (omega (arith, fits.settled_fits));
  number = number_back n.number (omega (arith, fits.number_fits));
  length = number_back n.length (omega (arith, fits.length_fits));
  p = number_back n.p (omega (arith, fits.p_fits));
  q = number_back n.q (omega (arith, fits.q_fits));
}

same_numbers : (n : AnswerNumbers) (bytes : List ℕ) → ReadsBack n bytes → {k r a : ℕ} → k ≡ n.kind → r ≡ n.refusal → a ≡ n.place
    → record { kind = k; refusal = r; place = a; settled = number_at bytes 4; number = number_at bytes 8; length = number_at bytes 12; p = number_at bytes 16; q = number_at bytes 20 } ≡ n
same_numbers n bytes back k r a = rw (k, r, a, back.settled, back.number, back.length, back.p, back.q)

-- all of them at once; a place stands in no record
pub numbers_back : (n : AnswerNumbers) → InRecord n → n.place ≡ 0 → answer_in (record_for n) ≡ n
unfolding answer_in
numbers_back n fits none = same_numbers n (record_for n) (answer_back n fits) refl refl (sym none)

pub refusal_in_record : (n p : ℕ) → n < 256 → InRecord (numbers_of (Answer.Refused n p))
refusal_in_record n p h = record {
  kind_fits = omega arith;
  refusal_fits = h;
  settled_fits = omega arith;
  number_fits = omega arith;
  length_fits = omega arith;
  p_fits = omega arith;
  q_fits = omega arith;
}
