-- What is read lies in the room that it is read into.
use Rattle.std.specs.Prelude.{List, ℕ, ◌+◌, ◌≤◌, length, Result, Ok, Err, IfOk}

-- a piece that was read lies behind the first bytes of the room, `have` of them
abbrev pub PieceIn : {E : Type 0} → List ℕ → ℕ → Result ℕ E → Type 0
PieceIn room have piece = IfOk piece (λ n. have + n ≤ length room)

abbrev pub TextIn : {E : Type 0} → List ℕ → Result ℕ E → Type 0
TextIn room text = IfOk text (λ n. n ≤ length room)

-- the text at the last piece, which had no bytes: what was read before, unless that piece could not be read
abbrev pub text_at_end : {E : Type 0} → Result ℕ E → ℕ → Result ℕ E
text_at_end (Ok n) have = Ok have
text_at_end (Err e) have = Err e
