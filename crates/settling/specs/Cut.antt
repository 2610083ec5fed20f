-- The cut: how many cells come before a key, and the costs that are left when those from a key on are taken back.
use Rattle.std.specs.Prelude.{◌≡◌, Bool, cond, List, [], ◌∷◌, ℕ, ◌+◌, ◌*◌, ◌<◌, ltb, length, get_or}
use Rattle.paths.specs.Below.{tick, count, values}
use Rattle.paths.specs.Graph.{MARK}
use Rattle.settling.specs.Order.{key}

-- how many of the cells of a list pass the test
abbrev pub tally : (ℕ → Bool) → List ℕ → ℕ
tally p [] = 0
tally p (v ∷ vs) = tick (p v) + tally p vs

-- how many cells have a cost below c
unfoldable pub cheaper_than : List ℕ → ℕ → ℕ
cheaper_than costs c = count (λ v. ltb (get_or costs v 0) c) (length costs)

-- how many cells of a list have a cost below c
unfoldable pub cheaper_in : List ℕ → List ℕ → ℕ → ℕ
cheaper_in costs list c = tally (λ v. ltb (get_or costs v 0) c) list

-- how many cells have a key below k
unfoldable pub rank : List ℕ → ℕ → ℕ
rank costs k = count (λ v. ltb (key costs v) k) (length costs)

-- the costs of the cells whose key is below k, and MARK for the others
unfoldable pub cut : List ℕ → ℕ → List ℕ
cut costs k = values (λ v. cond (ltb (key costs v) k) (get_or costs v 0) MARK) (length costs)

-- what a cell with that cost keeps when the costs are cut at k
unfoldable pub kept : ℕ → ℕ → ℕ → ℕ
kept cost cell k = cond (ltb (cost * 4294967296 + cell) k) cost MARK

-- two tables that agree where one of them is below the bound
pub record Agree (t costs : List ℕ) (bound : ℕ) : Type 0 where
  pub lengths : length costs ≡ length t
  pub there : (v : ℕ) → v < length t → get_or costs v 0 < bound → get_or t v 0 ≡ get_or costs v 0
  pub back : (v : ℕ) → v < length t → get_or t v 0 < bound → get_or costs v 0 ≡ get_or t v 0
