-- The rule of cost tables in 01's own words, over cells and not over directions: `due_in_words` in proofs/Sums.antt shows that `due` is this.
use Rattle.std.specs.Prelude.{◌≡◌, ◌≢◌, List, ℕ, ◌+◌, ◌≤◌, T, get_or}
use Rattle.paths.specs.Graph.{Graph, MARK}

-- a step into v from a cell with a value, and the sum c that it offers
pub record Offers (g : Graph) (t : List ℕ) (v c : ℕ) : Type 0 where
  pub u : ℕ
  pub d : ℕ
  pub steps : T (g.allowed u d)
  pub lands : g.to u d ≡ v
  pub known : get_or t u 0 ≢ MARK
  pub sum : get_or t u 0 + g.cost u d ≡ c

-- c is "the smallest of value + step cost over cells with an allowed step into it whose value isn't MARK, or MARK if there is none"
pub data IsSmallestSum (g : Graph) (t : List ℕ) (v c : ℕ) : Type 0 where
  smallest_sum : Offers g t v c → ((b : ℕ) → Offers g t v b → c ≤ b) → IsSmallestSum g t v c
  no_sum : ((b : ℕ) → Offers g t v b → ⊥) → c ≡ MARK → IsSmallestSum g t v c
