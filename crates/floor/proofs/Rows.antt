-- The table of directions, by a test of every row: its greatest entries, what its offsets do to a column or a row, and their bits.
use mathlib.Core.Path.{◌≡◌, refl, ap}
use mathlib.Core.Logic.{◌≢◌, ◌⊎◌, inl, inr, ⊎_elim}
use mathlib.Core.Bool.{Bool, true, false, ◌||◌}
use Prim.Native.Nat.{ℕ, zero, suc, ◌+◌, ◌-◌, ◌%◌, ◌≤◌, ◌<◌}
use native.Mathlib.Omega.{arith}
use borrow.Author.Tests.{le-ltb}
use lib.Dec.{T, eqb, leb, ltb, leb→le, ltb→lt}
use lib.IntN.{ℤ, pos, negsuc, ◌+ℤ◌}
use mir.Syntax.{w32}
use mir.Val.{of_z, SFits}
use Rattle.floor.specs.declared.Floor.{Floor}
use Rattle.floor.specs.Direction.{row_of, plus_one, IsSmall, east_of, south_of}
use Rattle.floor.specs.Step.{is_direction}
use Rattle.paths.proofs.Bools.{T_and}
use Rattle.paths.proofs.Below.{every_at}

-- a direction of a floor is a row of the table
pub direction_lt : (f : Floor) (d : ℕ) → T (is_direction f d) → d < 8
unfolding is_direction
direction_lt f d t = ltb→lt d 8 (T_and (ltb d 8) (eqb f.ways 8 || eqb (d % 2) 0) t).0

pub bounds : (d : ℕ) → d < 8 → IsSmall (row_of d)
bounds d h = record {
  east = leb→le (east_of d) 2 (every_at (λ d. leb (east_of d) 2) 8 tt d h);
  south = leb→le (south_of d) 2 (every_at (λ d. leb (south_of d) 2) 8 tt d h);
  unit = leb→le (row_of d).unit 99 (every_at (λ d. leb (row_of d).unit 99) 8 tt d h);
}

-- an offset is at least -1, and moves a column or a row by itself
abbrev is_offset : ℤ → Bool
is_offset (pos n) = true
is_offset (negsuc zero) = true
is_offset (negsuc (suc n)) = false

moved_by_lem : (n : ℕ) (z : ℤ) → T (is_offset z) → 0 < n → pos (n + plus_one z - 1) ≡ pos n +ℤ z
moved_by_lem n (pos k) t h = ap pos (omega arith)
moved_by_lem n (negsuc zero) t h = rw (le-ltb n 1 h) (ap pos (omega arith))
moved_by_lem n (negsuc (suc k)) t h = absurd t

module _ (d : ℕ) (h : d < 8) (n : ℕ) (k : 0 < n) where
  pub moved_east : pos (n + east_of d - 1) ≡ pos n +ℤ (row_of d).dx
  moved_east = moved_by_lem n (row_of d).dx (every_at (λ d. is_offset (row_of d).dx) 8 tt d h) k

  pub moved_south : pos (n + south_of d - 1) ≡ pos n +ℤ (row_of d).dy
  moved_south = moved_by_lem n (row_of d).dy (every_at (λ d. is_offset (row_of d).dy) 8 tt d h) k

-- the bits of an offset that is at most 1: one less than `plus_one`, or those of a number below 0, which are neither 0 nor 1
offset_bits : (z : ℤ) → SFits w32 z → plus_one z ≤ 2 → (plus_one z ≡ of_z w32 z + 1) ⊎ ((plus_one z ≡ 0) × (2 ≤ of_z w32 z))
offset_bits (pos n) s h = inl (omega arith)
offset_bits (negsuc n) s h = inr (refl, omega (arith, s.sfits))

-- what code learns of an offset that it compares with 0, and then with 1
module _ {z : ℤ} (s : SFits w32 z) (h : plus_one z ≤ 2) where
  pub offset_none : of_z w32 z ≡ 0 → plus_one z ≡ 1
  offset_none e = ⊎_elim (λ b. omega arith) (λ b. omega arith) (offset_bits z s h)

  pub offset_forth : of_z w32 z ≡ 1 → plus_one z ≡ 2
  offset_forth e = ⊎_elim (λ b. omega arith) (λ b. omega arith) (offset_bits z s h)

  pub offset_back : of_z w32 z ≢ 0 → of_z w32 z ≢ 1 → plus_one z ≡ 0
  offset_back e k = ⊎_elim (λ b. omega arith) (λ b. omega arith) (offset_bits z s h)
