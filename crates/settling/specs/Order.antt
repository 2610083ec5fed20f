-- L: the cells that have a cost in a table, sorted by cost and, at equal cost, by cell number.
use Rattle.std.specs.Prelude.{◌≡◌, ◌⊎◌, Bool, cond, not, List, [], ◌∷◌, ℕ, zero, suc, ◌+◌, ◌*◌, ◌<◌, eqb, ltb, length, get_or}
use Rattle.paths.specs.Graph.{MARK}

-- u comes before v: by cost and, at equal cost, by cell number
abbrev pub Before : List ℕ → ℕ → ℕ → Type 0
Before t u v = (get_or t u 0 < get_or t v 0) ⊎ ((get_or t u 0 ≡ get_or t v 0) × (u < v))

-- a cell's cost and its number as one number, by which L is sorted
unfoldable pub key : List ℕ → ℕ → ℕ
key t v = get_or t v 0 * 4294967296 + v

unfoldable pub known : List ℕ → ℕ → Bool
known t v = not (eqb (get_or t v 0) MARK)

abbrev pub insert : List ℕ → ℕ → List ℕ → List ℕ
insert t v [] = v ∷ []
insert t v (u ∷ us) = cond (ltb (key t v) (key t u)) (v ∷ u ∷ us) (u ∷ insert t v us)

-- the known cells below n, sorted
abbrev pub sorted : List ℕ → ℕ → List ℕ
sorted t zero = []
sorted t (suc n) = cond (known t n) (insert t n (sorted t n)) (sorted t n)

abbrev pub L : List ℕ → List ℕ
L t = sorted t (length t)

-- the place of v in a list, counted from 0; the list's length if v is not there
abbrev pub place : ℕ → List ℕ → ℕ
place v [] = 0
place v (u ∷ us) = cond (eqb u v) 0 (suc (place v us))
