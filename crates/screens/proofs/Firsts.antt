-- The first byte that is no weight is where `first_above` has it; a map of weights has none.
use mathlib.Core.Path.{◌≡◌, refl}
use mathlib.Core.Bool.{Bool, true}
use mathlib.Core.List.{List}
use Prim.Native.Nat.{ℕ, ◌<◌}
use native.Mathlib.Omega.{arith}
use lib.Dec.{ltb, leb, ltb→lt, leb→le, nltb→le}
use lib.ListN.{length, get_or}
use Rattle.std.specs.Prelude.{Option, Some, None, IfSome, IfNone, position}
use Rattle.std.specs.List.{position_or_len}
use Rattle.std.proofs.lemmas.List.Sums.{position_or_len_is}
use Rattle.paths.specs.Below.{every}
use Rattle.paths.proofs.Bools.{T_true, true_T, not_T_false, by_cond}
use Rattle.paths.proofs.Below.{every_at, lowest_is, lowest_none}
use Rattle.floor.specs.Place.{greatest_weight}
use Rattle.floor.specs.Refusal.{first_above}

abbrev is_above : ℕ → Bool
is_above b = ltb greatest_weight b

first_is : (m : List ℕ) → position_or_len is_above m ≡ first_above m
unfolding first_above
first_is m =
    let first = lowest_is (λ v. is_above (get_or m v 0)) (length m) in
    position_or_len_is is_above m _ 0 first.small
    (λ k h. not_T_false (is_above (get_or m k 0)) (λ t. absurd (omega (arith, first.small, first.minimal k (omega (arith, first.small)) t))))
    (λ h. T_true _ (first.passes h))

abbrev pub Found : List ℕ → Option ℕ → Type 0
Found m r = IfSome r (λ v. (v ≡ first_above m) × (v < length m)) × IfNone r (first_above m ≡ length m)

pub found : (m : List ℕ) (r : Option ℕ) → r ≡ position is_above m → Found m r
unfolding first_above
found m r e =
    rw (e, first_is m)
    (by_cond (Found m) (ltb (first_above m) (length m)) (Some (first_above m)) None
    (λ t. ((refl, ltb→lt _ _ t), tt)) (λ t. (tt, omega (arith, (lowest_is (λ v. is_above (get_or m v 0)) (length m)).small, nltb→le _ _ t))))

pub all_weights : (m : List ℕ) → every (λ v. leb (get_or m v 0) greatest_weight) (length m) ≡ true → first_above m ≡ length m
unfolding first_above
all_weights m e =
    let all = every_at _ (length m) (true_T _ e) in
    lowest_none _ (length m) (λ v h t. absurd (omega (arith, ltb→lt greatest_weight (get_or m v 0) t, leb→le (get_or m v 0) greatest_weight (all v h))))
