-- All steps of a cell by what stands around it: the tests of `step_of` that a step has passed are those of two weights, that of the cell left and the one ahead.
use Rattle.std.specs.Prelude.{Some, None, Result, Err}
use Rattle.floor.specs.declared.Step.{Step}
use mathlib.Core.Path.{◌≡◌, refl, ◌∙◌}
use mathlib.Core.Bool.{Bool, true, false, cond, not, ◌||◌}
use mathlib.Core.List.{List}
use Prim.Native.Nat.{ℕ, ◌+◌, ◌-◌, ◌*◌, ◌%◌, ◌<◌}
use native.Mathlib.Decide.{dec_lt}
use native.Mathlib.Omega.{arith}
use borrow.Author.Tests.{lt-ltb, le-ltb, eq-eqb, ne_eqb}
use lib.Dec.{T, eqb}
use lib.ListN.{get_or, get_or-eq_default}
use Rattle.paths.proofs.Bools.{T_true}
use Rattle.floor.specs.declared.Around.{Around}
use Rattle.floor.specs.declared.Floor.{Floor}
use Rattle.floor.specs.declared.Reason.{Reason}
use Rattle.floor.specs.Direction.{row_of}
use Rattle.floor.specs.Place.{cells, place_of, cell_at, moved, on_map}
use Rattle.floor.specs.Step.{step, is_direction, step_weight, step_cost, cuts_corner, entering, step_of, onward}
use Rattle.floor.specs.Around.{weight_at, weight_beside, around_of, weight_ahead}
use Rattle.floor.proofs.Passing.{MapFacts}
use Rattle.floor.proofs.Places.{place_open}
use Rattle.floor.proofs.Beside.{there_weighs, open_weighs, weight_there, straight_uncut, diagonal_cuts, diagonal_on_map}

-- what stands around a cell of the map
abbrev pub around_cell : Floor → List ℕ → ℕ → Around
around_cell f m v = record { weight = get_or m v 0; north = weight_beside f m v 0; east = weight_beside f m v 2; south = weight_beside f m v 4; west = weight_beside f m v 6 }

pub around_cell_lem : (f : Floor) (m : List ℕ) (v : ℕ) → v < cells f → around_of f m v ≡ around_cell f m v
unfolding around_of
around_cell_lem f m v h = rw (lt-ltb v (cells f) h)

-- the weight of a cell, 0 off the map
module _ {f : Floor} {m : List ℕ} (k : MapFacts f m) (v : ℕ) where
  pub around_weight : (around_of f m v).weight ≡ get_or m v 0
  unfolding around_of
  around_weight = elim (dec_lt v (cells f)) [
    | yes l ↦ rw (lt-ltb v (cells f) l)
    | no l ↦ rw (le-ltb v (cells f) (omega arith), get_or-eq_default m 0 {n = v} (omega (arith, k.covers)))
  ]

  pub weight_inside : 0 < get_or m v 0 → v < cells f
  weight_inside h = elim (dec_lt v (cells f)) [
    | yes l ↦ l
    | no l ↦ absurd (omega (arith, get_or-eq_default m 0 {n = v} (omega (arith, k.covers))))
  ]

-- the weight ahead of a straight step, and of a diagonal one by the cells beside it
module _ (f : Floor) (m : List ℕ) (v d : ℕ) where
  pub ahead_straight : d % 2 ≡ 0 → weight_ahead f m v d ≡ weight_beside f m v d
  unfolding weight_ahead
  ahead_straight e = rw (straight_uncut f m d (place_of f v) e)

  module _ (h : d < 8) (odd : d % 2 ≡ 1) where
    pub ahead_before : weight_beside f m v (d - 1) ≡ 0 → weight_ahead f m v d ≡ 0
    unfolding weight_ahead
    ahead_before e = rw (diagonal_cuts f m d (place_of f v) h odd, e)

    pub ahead_after : weight_beside f m v ((d + 1) % 8) ≡ 0 → weight_ahead f m v d ≡ 0
    unfolding weight_ahead
    ahead_after e = rw (diagonal_cuts f m d (place_of f v) h odd, e) (cut (eqb (weight_beside f m v (d - 1)) 0))
      where
        cut : (b : Bool) → cond (b || true) 0 (weight_beside f m v d) ≡ 0
        cut true = refl
        cut false = refl

    module _ (a : 0 < weight_beside f m v (d - 1)) (b : 0 < weight_beside f m v ((d + 1) % 8)) where
      pub ahead_on_map : T (on_map f (moved (place_of f v) d))
      ahead_on_map =
          let p = place_of f v in
          diagonal_on_map f m d p h odd (weight_there f m (moved p (d - 1)) a).0 (weight_there f m (moved p ((d + 1) % 8)) b).0

      pub ahead_diagonal : weight_ahead f m v d ≡ get_or m (cell_at f (moved (place_of f v) d)) 0
      unfolding weight_ahead
      ahead_diagonal =
          rw (diagonal_cuts f m d (place_of f v) h odd, ne_eqb (weight_beside f m v (d - 1)) 0 (λ e. omega arith), ne_eqb (weight_beside f m v ((d + 1) % 8)) 0 (λ e. omega arith))
          (there_weighs f m (moved (place_of f v) d) ahead_on_map)

-- the step: nowhere if one of the two weights is 0, and else into the neighbour
module _ {f : Floor} {m : List ℕ} (k : MapFacts f m) (v d : ℕ) where
  pub no_direction_onward : is_direction f d ≡ false → None ≡ onward (step_of f m v d)
  unfolding step_of
  no_direction_onward e = rw e

  pub blocked_onward : is_direction f d ≡ true → get_or m v 0 ≡ 0 → None ≡ onward (step_of f m v d)
  unfolding step_of
  blocked_onward e z = elim (dec_lt v (cells f)) [
    | yes l ↦ rw (e, lt-ltb v (cells f) l, place_open k v l, z)
    | no l ↦ rw (e, le-ltb v (cells f) (omega arith))
  ]

  module _ (t : is_direction f d ≡ true) (leaves : 0 < get_or m v 0) where
    -- what the first three tests leave
    entered : step_of f m v d ≡ entering f m v d (place_of f v) (moved (place_of f v) d)
    unfolding step_of
    entered =
        let l = weight_inside k v leaves in
        rw (t, lt-ltb v (cells f) l, place_open k v l, lt-ltb 0 (get_or m v 0) leaves)

    pub barred_onward : weight_ahead f m v d ≡ 0 → None ≡ onward (step_of f m v d)
    unfolding entering weight_ahead
    barred_onward e =
        let there = moved (place_of f v) d in
        rw (entered, open_weighs f m there)
        (nowhere (on_map f there) (cuts_corner f m d (place_of f v) there) (weight_at f m there) _ _ _ _ e)
      where
        nowhere : (on cut : Bool) (w : ℕ) (r r' r'' : Reason) (s : Result Step Reason) → cond cut 0 w ≡ 0
            → None ≡ onward (cond (not on) (Err r) (cond (not (not (eqb w 0))) (Err r') (cond cut (Err r'') s)))
        nowhere false cut w r r' r'' s e = refl
        nowhere true true w r r' r'' s e = elim (dec_lt 0 w) [
          | yes l ↦ rw (ne_eqb w 0 (λ z. omega arith))
          | no l ↦ rw (eq-eqb w 0 (omega arith))
        ]
        nowhere true false w r r' r'' s e = rw e

    module _ (free : 0 < weight_ahead f m v d) where
      uncut : (cuts_corner f m d (place_of f v) (moved (place_of f v) d) ≡ false) × (weight_ahead f m v d ≡ weight_beside f m v d)
      unfolding weight_ahead
      uncut = go (cuts_corner f m d (place_of f v) (moved (place_of f v) d)) free
        where
          go : (b : Bool) → 0 < cond b 0 (weight_beside f m v d) → (b ≡ false) × (cond b 0 (weight_beside f m v d) ≡ weight_beside f m v d)
          go true h = absurd (omega arith)
          go false h = (refl, refl)

      weighs : 0 < weight_beside f m v d
      weighs = omega (arith, free, uncut.1)

      pub free_on_map : T (on_map f (moved (place_of f v) d))
      free_on_map = (weight_there f m (moved (place_of f v) d) weighs).0

      pub free_weight : weight_ahead f m v d ≡ get_or m (cell_at f (moved (place_of f v) d)) 0
      free_weight = uncut.1 ∙ there_weighs f m (moved (place_of f v) d) free_on_map

      pub free_onward : Some (step (cell_at f (moved (place_of f v) d)) ((row_of d).unit * (get_or m v 0 + weight_ahead f m v d))) ≡ onward (step_of f m v d)
      unfolding entering step_cost step_weight
      free_onward =
          let there = moved (place_of f v) d in
          rw (entered, T_true (on_map f there) free_on_map, open_weighs f m there, ne_eqb (weight_at f m there) 0 (λ e. omega (arith, weighs)), uncut.0, free_weight)
