-- A cell and its character, as it is read and as it is written.
use Rattle.std.specs.Prelude.{cond, ◌&&◌, ℕ, zero, suc, ◌+◌, ◌-◌, eqb, ltb}
use Rattle.textrows.specs.Cell.{Cell, Weight, Blocked, NoCell}

-- `.` and `G` are weight 1, `1` to `9` their own weight, `@`, `O` and `T` blocked; all else is no cell character
unfoldable pub cell_of : ℕ → Cell
cell_of b =
    cond (eqb b 46) (Weight 1)
    (cond (eqb b 71) (Weight 1)
    (cond (ltb 48 b && ltb b 58) (Weight (b - 48))
    (cond (eqb b 64) Blocked
    (cond (eqb b 79) Blocked
    (cond (eqb b 84) Blocked NoCell)))))

-- the character of a cell: `@` blocked, `.` weight 1, `2` to `9`
abbrev pub char_of : ℕ → ℕ
char_of zero = 64
char_of (suc zero) = 46
char_of (suc (suc n)) = 50 + n
