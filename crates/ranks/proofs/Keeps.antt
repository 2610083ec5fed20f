-- What a cut leaves of a cell is said by its cost and number as by the table of costs.
use Rattle.std.proofs.Common.{◌≡◌, cond, List, ℕ, length, get_or, ltb, refl}
use Rattle.paths.specs.Below.{values}
use Rattle.paths.specs.Graph.{MARK}
use Rattle.settling.specs.Order.{key}
use Rattle.settling.specs.Cut.{cut, kept}

-- what a cell keeps when the costs are cut at k
abbrev pub left : List ℕ → ℕ → ℕ → ℕ
left costs k v = cond (ltb (key costs v) k) (get_or costs v 0) MARK

module _ (costs : List ℕ) (k : ℕ) where
  pub cut_values : cut costs k ≡ values (left costs k) (length costs)
  unfolding cut
  cut_values = refl

  pub kept_left : (v : ℕ) → kept (get_or costs v 0) v k ≡ left costs k v
  unfolding key kept
  kept_left v = refl
