-- Question and answer records: 01, "The program", and 02, R-6.
use Rattle.std.specs.Prelude.{Bool, List, [], ◌∷◌, ◌++◌, ℕ, ◌+◌, ◌*◌, ◌/◌, ◌%◌, eqb, get_or, drop, replicate}
use Rattle.std.specs.List.{list_all}
use Rattle.answering.specs.Answer.{Answer}
use Rattle.answering.specs.declared.AnswerNumbers.{AnswerNumbers}
use Rattle.answering.specs.Answers.{numbers_of}
use Rattle.answering.specs.declared.Question.{Question}
use Rattle.answering.specs.Question.{question}

abbrev pub record_size : ℕ
record_size = 32

-- a number's four bytes, the lowest first, and the number that they give
abbrev pub little : ℕ → List ℕ
little n = n % 256 ∷ n / 256 % 256 ∷ n / 65536 % 256 ∷ n / 16777216 % 256 ∷ []

abbrev pub number_at : List ℕ → ℕ → ℕ
number_at bytes at = get_or bytes at 0 + 256 * get_or bytes (at + 1) 0 + 65536 * get_or bytes (at + 2) 0 + 16777216 * get_or bytes (at + 3) 0

-- a question record: start, goal and limit, ways, 19 zeros
abbrev pub question_in : List ℕ → Question
question_in bytes = question (number_at bytes 0) (number_at bytes 4) (number_at bytes 8)

abbrev pub ways_in : List ℕ → ℕ
ways_in bytes = get_or bytes 12 0

abbrev pub all_zero : List ℕ → Bool
all_zero bytes = list_all (λ b. eqb b 0) bytes

abbrev pub ends_in_zeros : List ℕ → Bool
ends_in_zeros bytes = all_zero (drop 13 bytes)

-- an answer record: kind, refusal number, two zeros, settled, number returned, route length, P, Q, eight zeros
abbrev pub record_for : AnswerNumbers → List ℕ
record_for n =
    n.kind ∷ n.refusal ∷ 0 ∷ 0 ∷ little n.settled ++ little n.number ++ little n.length ++ little n.p ++ little n.q ++ replicate 8 0

-- an answer record ends in eight zeros
abbrev pub ends_in_eight_zeros : List ℕ → Bool
ends_in_eight_zeros bytes = all_zero (drop 24 bytes)

unfoldable pub record_of : Answer → List ℕ
record_of a = record_for (numbers_of a)

-- and the numbers that stand in one
unfoldable pub answer_in : List ℕ → AnswerNumbers
answer_in bytes = record {
  kind = get_or bytes 0 0;
  refusal = get_or bytes 1 0;
  place = 0;
  settled = number_at bytes 4;
  number = number_at bytes 8;
  length = number_at bytes 12;
  p = number_at bytes 16;
  q = number_at bytes 20;
}
