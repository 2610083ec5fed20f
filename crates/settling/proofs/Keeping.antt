-- A room whose cells are overwritten one after the other: the values of f stand up to i, and from i on what stood there. The cell at hand opens the room in two.
use mathlib.Core.Path.{◌≡◌, refl, sym}
use mathlib.Core.List.{List, ◌∷◌, ◌++◌, append-nil}
use Prim.Native.Nat.{ℕ, suc, ◌+◌, ◌≤◌, ◌<◌}
use native.Mathlib.Omega.{arith}
use native.Mathlib.Numerals.{add-one}
use lib.ListN.{length, get_or, set, drop, length-append, length-drop}
use lib.Seq.{drop-cons, drop-length, append_snoc, get_or_at, set_at}
use Rattle.paths.specs.Below.{values}
use Rattle.paths.proofs.Below.{length_values}

-- the room, overwritten up to cell i
unfoldable pub kept_to : (ℕ → ℕ) → List ℕ → ℕ → List ℕ
kept_to f room i = values f i ++ drop i room

module _ (f : ℕ → ℕ) (room : List ℕ) where
  pub kept_none : kept_to f room 0 ≡ room
  unfolding kept_to
  kept_none = refl

  pub kept_all : kept_to f room (length room) ≡ values f (length room)
  unfolding kept_to
  kept_all = rw (drop-length room, append-nil (values f (length room)))

  pub length_kept : (i : ℕ) → i ≤ length room → length (kept_to f room i) ≡ length room
  unfolding kept_to
  length_kept i h = simp (length-append, length_values, length-drop) (omega arith)

  module _ (i : ℕ) (h : i < length room) where
    opened : kept_to f room i ≡ values f i ++ get_or room i 0 ∷ drop (suc i) room
    unfolding kept_to
    opened = rw (drop-cons room i 0 h)

    closed : kept_to f room (i + 1) ≡ values f i ++ f i ∷ drop (suc i) room
    unfolding kept_to
    closed = rw add-one (append_snoc (values f i) (f i) (drop (suc i) room))

    -- the cell at hand is still as it was
    pub kept_at : get_or (kept_to f room i) i 0 ≡ get_or room i 0
    kept_at = rw opened (get_or_at (values f i) (get_or room i 0) (drop (suc i) room) 0 i (length_values f i))

    -- and is overwritten
    pub kept_next : set (kept_to f room i) i (f i) ≡ kept_to f room (i + 1)
    kept_next = rw (opened, set_at (values f i) (get_or room i 0) (drop (suc i) room) (f i) i (length_values f i)) (sym closed)
