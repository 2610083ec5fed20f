-- A question: start, goal and limit.
use Rattle.std.specs.Prelude.{ℕ}
use Rattle.answering.specs.declared.Question.{Question}

abbrev pub question : ℕ → ℕ → ℕ → Question
question s g k = record { start = s; goal = g; limit = k }
