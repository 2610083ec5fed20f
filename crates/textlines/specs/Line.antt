-- The line of a side, as it is written and as a text begins with it.
use Rattle.std.specs.Prelude.{◌≡◌, ◌≤◌, ◌<◌, Option, Some, None, Bool, true, false, cond, ◌&&◌, List, [], ◌∷◌, ◌++◌, ℕ, zero, suc, ◌+◌, ◌/◌, ◌%◌, eqb, ltb}
use Rattle.paths.specs.Below.{lowest}
use Rattle.floor.specs.Place.{greatest_side}

abbrev pub LF : ℕ
LF = 10

-- a number below 10 to the k in decimal, with no leading zero
abbrev pub digits : ℕ → ℕ → List ℕ
digits zero n = []
digits (suc k) n = cond (ltb n 10) ((48 + n) ∷ []) (digits k (n / 10) ++ ((48 + n % 10) ∷ []))

-- the line of a side: a side has at most four digits
unfoldable pub side_line : List ℕ → ℕ → List ℕ
side_line word n = word ++ digits 4 n ++ (LF ∷ [])

-- the text begins with the line
abbrev pub begins : List ℕ → List ℕ → Bool
begins [] text = true
begins (b ∷ bs) [] = false
begins (b ∷ bs) (c ∷ cs) = eqb b c && begins bs cs

-- the side whose line the text begins with, or one more than the greatest
unfoldable pub side_in : List ℕ → List ℕ → ℕ
side_in word text = suc (lowest (λ n. begins (side_line word (suc n)) text) greatest_side)

-- the same as it is answered: no side where it is one more than the greatest
abbrev pub IsSide : List ℕ → List ℕ → Option ℕ → Type 0
IsSide word text (Some n) = (n ≡ side_in word text) × (n ≤ greatest_side)
IsSide word text None = greatest_side < side_in word text
