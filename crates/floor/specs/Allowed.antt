-- An allowed step in 01's words. That `allowed` is this is `allowed_words` (proofs/Allowed.antt).
use Rattle.std.specs.Prelude.{List, ℕ, T}
use Rattle.floor.specs.declared.Floor.{Floor}
use Rattle.floor.specs.Direction.{is_diagonal}
use Rattle.floor.specs.Place.{place_of, moved, corner, is_open}
use Rattle.floor.specs.Step.{is_direction}

-- Both cells are on the map and open, the direction exists, and a diagonal step has both cells beside it open
pub record Allowed (f : Floor) (m : List ℕ) (v d : ℕ) : Type 0 where
  pub direction : T (is_direction f d)
  pub here : T (is_open f m (place_of f v))
  pub there : T (is_open f m (moved (place_of f v) d))
  pub beside : T (is_diagonal d)
      → T (is_open f m (corner (moved (place_of f v) d) (place_of f v))) × T (is_open f m (corner (place_of f v) (moved (place_of f v) d)))
