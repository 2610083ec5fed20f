-- The rank of a key from a band's bound on: the settled cells come before it, and of the listed ones those with a smaller key; settling counts them.
use mathlib.Core.Path.{◌≡◌, ◌∙◌, ap}
use mathlib.Core.List.{List}
use Prim.Native.Nat.{ℕ, ◌+◌, ◌*◌, ◌≤◌, ◌<◌}
use native.Mathlib.Omega.{arith}
use native.Mathlib.Decide.{dec_lt}
use Rattle.std.proofs.lemmas.Slice.{between_is}
use Rattle.paths.specs.Graph.{MARK}
use Rattle.settling.specs.Cut.{cheaper_than, rank}
use Rattle.settling.proofs.Fronts.{front_rank}
use Rattle.settling.proofs.Cuts.{rank_bound}
use Rattle.floor.specs.declared.Floor.{Floor}
use Rattle.floor.specs.Place.{cells}
use Rattle.floor.proofs.Laws.{lawful}
use Rattle.wave.specs.declared.Front.{Front}
use Rattle.wave.specs.Bands.{Between, listed}
use Rattle.ranks.specs.Listed.{key_below, CanFind}

module _ {f : Floor} {m : List ℕ} {s : ℕ} {costs work : List ℕ} {o : Front} (b : Between f m s costs work o) where
  few : cells f ≤ MARK
  few = (lawful f m b.passed).cells_fit

  -- up to MARK's first key no cell without a cost is counted
  pub rank_listed : (k : ℕ) → o.bound * 4294967296 ≤ k → k ≤ MARK * 4294967296 → rank costs k ≡ o.settled + key_below costs (listed work o) k
  unfolding key_below
  rank_listed k low high =
      front_rank b.wave k low high few
      ∙ omega (arith, b.settled, ap (λ (l : List ℕ). key_below costs l k) (between_is work o.from (o.from + o.len)))

  rank_cost : (c : ℕ) → rank costs (c * 4294967296) ≡ cheaper_than costs c
  rank_cost = rank_bound costs (omega (arith, b.wave.covers, few))

  -- the listed cell at some place, counted from 0 by cost and then by cell number, has a key between the band's bounds
  module _ (c : ℕ) (rises : o.bound ≤ c) (top : c ≤ MARK) (place : ℕ) where
    pub can_find : o.settled + place < cheaper_than costs c → CanFind costs (listed work o) (o.bound * 4294967296) (c * 4294967296) place
    can_find l = record {
      rises = higher (dec_lt o.bound c);
      before = omega (arith, rank_listed (o.bound * 4294967296) (omega arith) (omega arith), rank_cost o.bound, b.settled);
      after = omega (arith, rank_listed (c * 4294967296) (omega arith) (omega arith), rank_cost c);
    }
      where
        higher : Dec (o.bound < c) → o.bound * 4294967296 < c * 4294967296
        higher (yes h) = omega arith
        higher (no h) = let e : c ≡ o.bound = omega arith in absurd (omega (arith, ap (cheaper_than costs) e, b.settled))
