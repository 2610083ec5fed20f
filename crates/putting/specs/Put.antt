-- Bytes that were put into a lent room.
use Rattle.std.specs.Prelude.{◌≡◌, List, ℕ, ◌+◌, length}
use Rattle.std.proofs.lemmas.List.Edits.{sets}

-- bs was put into the room at a place, and r is the place after it
pub record IsPut (bs room : List ℕ) (at r : ℕ) (room' : List ℕ) : Type 0 where
  pub next : r ≡ at + length bs
  pub leaves : room' ≡ sets room at bs
