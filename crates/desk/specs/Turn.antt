-- Questions that arrive in pieces: 01, "The program". Every whole record is answered as soon as it has arrived, and a broken last record gets no answer.
use Rattle.std.specs.Prelude.{◌≡◌, List, [], ◌∷◌, ◌++◌, ℕ, length, take, drop}
use Rattle.std.proofs.Math.Seq.{slice}
use Rattle.floor.specs.declared.Floor.{Floor}
use Rattle.answering.specs.Rooms.{Rooms}
use Rattle.desk.specs.Desk.{IsAnswered}

-- A turn: what is written and then what is kept are the bytes kept before and those of the piece, with every whole record answered.
-- So a broken last record is what is kept
pub record Turn (f : Floor) (m kept piece : List ℕ) (r : Rooms) (written kept' : List ℕ) (r' : Rooms) : Type 0 where
  pub answered : IsAnswered f m (kept ++ piece) r (length written) (written ++ kept') r'

-- a turn, and then the others, with the bytes and in the rooms as it left them
pub record TurnFirst (f : Floor) (m piece : List ℕ) (Others : List ℕ → Rooms → List ℕ → List ℕ → Rooms → Type 0) (kept : List ℕ) (r : Rooms) (written kept' : List ℕ) (r' : Rooms) : Type 0 where
  pub first : List ℕ
  pub rest : List ℕ
  pub between : List ℕ
  pub left : Rooms
  pub turn : Turn f m kept piece r first between left
  pub others : Others between left rest kept' r'
  pub writes : written ≡ first ++ rest

-- a turn for each piece, in order
abbrev pub Turns : Floor → List ℕ → List (List ℕ) → List ℕ → Rooms → List ℕ → List ℕ → Rooms → Type 0
Turns f m [] kept r written kept' r' = (written ≡ []) × (kept' ≡ kept) × (r' ≡ r)
Turns f m (piece ∷ pieces) kept r written kept' r' = TurnFirst f m piece (Turns f m pieces) kept r written kept' r'

-- The promise of `answer_arrived`: the first `end` bytes of the buffer have arrived, or all that it has; what lies beyond stays
pub record ArrivedAnswered (f : Floor) (m buffer : List ℕ) (end : ℕ) (r : Rooms) (n : ℕ) (buffer' : List ℕ) (r' : Rooms) : Type 0 where
  pub arrived : IsAnswered f m (take end buffer) r n (take end buffer') r'
  pub beyond : drop end buffer' ≡ drop end buffer

-- The promise of `keep_tail`: the bytes from `from` up to `end`, n of them, stand at the front; what they do not cover stays
pub record IsKept (buffer : List ℕ) (from end n : ℕ) (buffer' : List ℕ) : Type 0 where
  pub count : n ≡ length (slice from end buffer)
  pub leaves : buffer' ≡ slice from end buffer ++ drop n buffer
