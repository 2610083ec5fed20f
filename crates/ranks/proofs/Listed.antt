-- One listed cell more: a count has one more or as many, by the step of a tally; the least so far is still the cost of a listed cell.
use Rattle.std.proofs.Common.{◌≡◌, Bool, List, [], ◌∷◌, ℕ, ◌+◌, ◌*◌, ◌≤◌, ◌<◌, length, get_or, take, ltb, ap, arith}
use Rattle.std.proofs.lemmas.Bool.{lt-ltb, le-ltb}
use Rattle.std.proofs.lemmas.List.{take_more}
use Rattle.paths.specs.Below.{tick}
use Rattle.settling.specs.Cut.{tally}
use Rattle.settling.specs.Order.{key}
use Rattle.settling.proofs.Slices.{tally_append, tally_most}
use Rattle.ranks.specs.Listed.{below_in, key_below}

tally_more : (p : ℕ → Bool) (listed : List ℕ) (i : ℕ) → i < length listed → tally p (take (i + 1) listed) ≡ tally p (take i listed) + tick (p (get_or listed i 0))
tally_more p listed i h = rw (take_more listed i 0 h) (omega (arith, tally_append p (take i listed) (get_or listed i 0 ∷ [])))

module _ (costs listed : List ℕ) (i : ℕ) where
  module _ (bound : ℕ) where
    pub below_counted : i < length listed → get_or costs (get_or listed i 0) 0 < bound → below_in costs (take (i + 1) listed) bound ≡ below_in costs (take i listed) bound + 1
    unfolding below_in
    below_counted h l =
        let t = ap tick (lt-ltb (get_or costs (get_or listed i 0) 0) bound l) in
        omega (arith, t, tally_more (λ v. ltb (get_or costs v 0) bound) listed i h)

    pub below_passed : i < length listed → bound ≤ get_or costs (get_or listed i 0) 0 → below_in costs (take (i + 1) listed) bound ≡ below_in costs (take i listed) bound
    unfolding below_in
    below_passed h l =
        let t = ap tick (le-ltb (get_or costs (get_or listed i 0) 0) bound l) in
        omega (arith, t, tally_more (λ v. ltb (get_or costs v 0) bound) listed i h)

  module _ (k : ℕ) where
    pub key_counted : i < length listed → get_or costs (get_or listed i 0) 0 * 4294967296 + get_or listed i 0 < k → key_below costs (take (i + 1) listed) k ≡ key_below costs (take i listed) k + 1
    unfolding key_below key
    key_counted h l =
        let t = ap tick (lt-ltb (key costs (get_or listed i 0)) k l) in
        omega (arith, t, tally_more (λ v. ltb (key costs v) k) listed i h)

    pub key_passed : i < length listed → k ≤ get_or costs (get_or listed i 0) 0 * 4294967296 + get_or listed i 0 → key_below costs (take (i + 1) listed) k ≡ key_below costs (take i listed) k
    unfolding key_below key
    key_passed h l =
        let t = ap tick (le-ltb (key costs (get_or listed i 0)) k l) in
        omega (arith, t, tally_more (λ v. ltb (key costs v) k) listed i h)

pub below_most : (costs listed : List ℕ) (bound : ℕ) → below_in costs listed bound ≤ length listed
unfolding below_in
below_most costs listed bound = tally_most (λ v. ltb (get_or costs v 0) bound) listed
