-- The table of directions.
use Rattle.std.specs.Prelude.{Bool, List, [], ◌∷◌, ℕ, suc, ◌+◌, ◌%◌, ◌≤◌, eqb, ℤ, pos, negsuc, get_or}
use Rattle.floor.specs.declared.Direction.{Direction}

-- the offsets
abbrev -1 : ℤ
-1 = negsuc 0

abbrev +0 : ℤ
+0 = pos 0

abbrev +1 : ℤ
+1 = pos 1

-- dx, dy and unit
abbrev row : ℤ → ℤ → ℕ → Direction
row x y u = record { dx = x; dy = y; unit = u }

-- N, NE, E, SE, S, SW, W, NW
abbrev pub table : List Direction
table =
    row +0 -1 70
    ∷ row +1 -1 99
    ∷ row +1 +0 70
    ∷ row +1 +1 99
    ∷ row +0 +1 70
    ∷ row -1 +1 99
    ∷ row -1 +0 70
    ∷ row -1 -1 99
    ∷ []

-- the row of direction d; of a number above 7 a row that leads nowhere and costs nothing
abbrev pub row_of : ℕ → Direction
row_of d = get_or table d (row +0 +0 0)

abbrev pub is_diagonal : ℕ → Bool
is_diagonal d = eqb (d % 2) 1

abbrev pub opposite : ℕ → ℕ
opposite d = (d + 4) % 8

-- one more than an offset, so that no number is below 0; every offset below 0 is -1 here
abbrev pub plus_one : ℤ → ℕ
plus_one (pos n) = suc n
plus_one (negsuc n) = 0

-- what code that is handed a row needs of it: offsets and unit are no greater than the table's
pub record IsSmall (r : Direction) : Type 0 where
  pub east : plus_one r.dx ≤ 2
  pub south : plus_one r.dy ≤ 2
  pub unit : r.unit ≤ 99

abbrev pub east_of : ℕ → ℕ
east_of d = plus_one (row_of d).dx

abbrev pub south_of : ℕ → ℕ
south_of d = plus_one (row_of d).dy
