-- What is asked of the cells that are listed.
use Rattle.std.specs.Prelude.{List, ℕ, suc, ◌≤◌, ◌<◌, ltb, length, get_or}
use Rattle.paths.specs.Below.{LeastOf}
use Rattle.settling.specs.Order.{key}
use Rattle.settling.specs.Cut.{tally}

-- all of them are cells, below n
abbrev pub AreCells : ℕ → List ℕ → Type 0
AreCells n listed = (k : ℕ) → k < length listed → get_or listed k 0 < n

-- r is the least of their costs
abbrev pub IsLeast : List ℕ → List ℕ → ℕ → Type 0
IsLeast costs listed r = LeastOf (λ k. get_or costs (get_or listed k 0) 0) (length listed) r

-- how many of them have a cost below a bound
unfoldable pub below_in : List ℕ → List ℕ → ℕ → ℕ
below_in costs listed bound = tally (λ v. ltb (get_or costs v 0) bound) listed

-- how many of them have a key below k
unfoldable pub key_below : List ℕ → List ℕ → ℕ → ℕ
key_below costs listed k = tally (λ v. ltb (key costs v) k) listed

-- between two keys: the cell with `place` of the listed ones before it
pub record CanFind (costs listed : List ℕ) (low high place : ℕ) : Type 0 where
  pub rises : low < high
  pub before : key_below costs listed low ≤ place
  pub after : place < key_below costs listed high

pub record IsNext (costs listed : List ℕ) (low high place k : ℕ) : Type 0 where
  pub from_low : low ≤ k
  pub to_high : k < high
  pub before : key_below costs listed k ≤ place
  pub after : place < key_below costs listed (suc k)
