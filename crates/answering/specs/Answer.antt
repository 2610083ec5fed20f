-- What a search answers: a row of 01's table, or a refusal with its number and place.
use Rattle.std.specs.Prelude.{Result, Ok, Err, ℕ}
use Rattle.floor.specs.declared.refusals.Refusal.{Refusal}
use Rattle.floor.specs.declared.RouteLength.{RouteLength}
use Rattle.floor.specs.Refusals.{number_of, place_of}
use Rattle.answering.specs.declared.Outcome.{Outcome}
use Rattle.answering.specs.declared.Outcome.TheVariants as outcome

pub data Answer : Type 0 where
  Refused : ℕ → ℕ → Answer
  -- settled, the goal's least cost, how long the route is
  Found : ℕ → ℕ → RouteLength → Answer
  -- settled
  None : ℕ → Answer
  -- settled, the floor
  Stopped : ℕ → ℕ → Answer

abbrev pub come_to : Outcome → Answer
come_to (outcome.Found s c l) = Found s c l
come_to (outcome.NoRoute s) = None s
come_to (outcome.Stopped s c) = Stopped s c

-- by what a function answers: a refusal in 01's numbers, or what the search comes to
abbrev pub answer_of : Result Outcome Refusal → Answer
answer_of (Ok o) = come_to o
answer_of (Err r) = Refused (number_of r) (place_of r)
