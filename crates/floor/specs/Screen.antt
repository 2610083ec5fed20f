-- What the refusals say of an input: it has passed, or it is refused with a number and a place.
use Rattle.std.specs.Prelude.{Result, Ok, Err, ℕ}
use Rattle.floor.specs.declared.refusals.Refusal.{Refusal}
use Rattle.floor.specs.Refusals.{number_of, place_of}

pub data Screen : Type 0 where
  Passed : Screen
  Refused : ℕ → ℕ → Screen

-- by what a function answers: a refusal in 01's numbers; whatever else it answers has passed
abbrev pub screened : {A : Type 0} → Result A Refusal → Screen
screened (Ok a) = Passed
screened (Err r) = Refused (number_of r) (place_of r)
