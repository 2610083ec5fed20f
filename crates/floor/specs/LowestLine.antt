-- "The lowest number that applies is given", of lines in any order.
use Rattle.std.specs.Prelude.{◌≡◌, ◌⊎◌, true, List, [], ◌∷◌, ℕ, ◌≤◌, T}
use Rattle.floor.specs.Refusal.{Line, line}

-- the line is one of the list
abbrev pub Has : Line → List Line → Type 0
Has l [] = ⊥
Has l (k ∷ ks) = (l ≡ k) ⊎ Has l ks

-- line n applies, with place p, and no line of a lower number does
pub record IsLowestLine (ls : List Line) (n p : ℕ) : Type 0 where
  pub applies : Has (line n true p) ls
  pub none_lower : (l : Line) → Has l ls → T l.given → n ≤ l.number
