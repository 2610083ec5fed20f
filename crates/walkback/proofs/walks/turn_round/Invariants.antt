-- The invariant: the steps before `low`, and as many at the end, have changed places; those between them, and what lies after the steps, are as they were.
use mathlib.Core.Path.{◌≡◌}
use mathlib.Core.Logic.{◌⊎◌}
use Prim.Native.Nat.{ℕ, ◌+◌, ◌-◌, ◌≤◌, ◌<◌}
use lib.ListN.{length, get_or}
use Rattle.walkback.proofs.walks.turn_round.Given as goal

abbrev pub invariant-loop-low : goal.invariant-loop-low
invariant-loop-low l =
    let room = l.initial.route in
    record {
      same_length : length l.route ≡ length room;
      outside : (k : ℕ) → k < l.steps → (k < l.low) ⊎ (l.steps - l.low ≤ k) → get_or l.route k 0 ≡ get_or room (l.steps - 1 - k) 0;
      between : (k : ℕ) → l.low ≤ k → k < l.steps - l.low → get_or l.route k 0 ≡ get_or room k 0;
      after : (k : ℕ) → l.steps ≤ k → get_or l.route k 0 ≡ get_or room k 0;
    }
