-- Answers in 01's numbers. What a function answers with has a definition `numbers_of`, one line for each of its cases, and the promise is said by it.
use Rattle.std.specs.Prelude.{Result, Ok, Err, List, [], ◌∷◌, ℕ, get_or}
use Rattle.floor.specs.declared.refusals.Refusal.{Refusal}
use Rattle.floor.specs.declared.written.WrittenNumbers.{WrittenNumbers}
use Rattle.floor.specs.Refusals.{number_of, place_of}
use Rattle.floor.specs.Screen.{Screen, Passed, Refused}

-- a refusal or a fault has its number and its place; any other answer gives its values
pub data Numbers : Type 0 where
  refused : ℕ → ℕ → Numbers
  fault : ℕ → ℕ → Numbers
  gives : List ℕ → Numbers

-- the numbers of a refusal
abbrev pub refused_as : Refusal → Numbers
refused_as r = refused (number_of r) (place_of r)

-- the answer after a screen: its refusal, or, where it has passed, the answer that is left
abbrev pub after_screen : Screen → Numbers → Numbers
after_screen Passed a = a
after_screen (Refused n p) a = refused n p

-- the numbers of a screen: one that has passed gives nothing
abbrev pub numbers_of : Screen → Numbers
numbers_of s = after_screen s (gives [])

-- a writer's answer: the length of what it wrote, or the refusal
abbrev pub written_as : Result ℕ Refusal → Numbers
written_as (Ok n) = gives (n ∷ [])
written_as (Err r) = refused_as r

-- the same for callers from C, in a struct in which those that a case does not have are 0
abbrev pub written_numbers : Numbers → WrittenNumbers
written_numbers (refused n p) = record { refusal = n; place = p; length = 0 }
written_numbers (fault n p) = record { refusal = n; place = p; length = 0 }
written_numbers (gives vs) = record { refusal = 0; place = 0; length = get_or vs 0 0 }
