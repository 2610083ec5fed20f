-- What the functions of lines promise to each other. What a line means is in Line.
use Rattle.std.specs.Prelude.{cond, ◌&&◌, List, [], ◌∷◌, ℕ, ◌+◌, ◌-◌, ◌*◌, ◌/◌, ◌%◌, leb, ltb}

-- the number that the digits at the beginning of a text give, read on from n; it stops at a number of four digits, which no side exceeds
abbrev pub run_value : ℕ → List ℕ → ℕ
run_value n [] = n
run_value n (b ∷ bs) = cond (ltb n 1000 && (leb 48 b && leb b 57)) (run_value (10 * n + (b - 48)) bs) n

-- the length of the longest word of a side's line, which is `height ` with its space
abbrev pub greatest_word : ℕ
greatest_word = 7

-- the digit of n at a unit (1, 10, 100, ..), if n reaches the unit
unfoldable pub digit_at : ℕ → ℕ → List ℕ
digit_at unit n = cond (ltb n unit) [] ((48 + n / unit % 10) ∷ [])
