-- What was read before the last piece lies in the room.
use Rattle.std.specs.Prelude.{List, ℕ, ◌≤◌, length, Result, Ok, Err}
use Rattle.streams.specs.Streams.{TextIn, text_at_end}

pub text_in : {E : Type 0} (room : List ℕ) (have : ℕ) (x : Result ℕ E) → have ≤ length room → TextIn room (text_at_end x have)
text_in room have (Ok n) h = h
text_in room have (Err e) h = tt
