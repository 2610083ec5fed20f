-- What a floor and its bytes are after `Passed`, and that such ones pass.
use mathlib.Core.Path.{◌≡◌, sym}
use mathlib.Core.Logic.{◌⊎◌, ⊎_elim, inl, inr}
use mathlib.Core.Bool.{true, ◌||◌}
use mathlib.Core.List.{List}
use Prim.Native.Nat.{ℕ, ◌*◌, ◌≤◌, ◌<◌}
use native.Mathlib.Nat.{mul-le-mul, le_of_eq}
use native.Mathlib.Omega.{arith}
use native.Mathlib.Decide.{dec_lt}
use borrow.Author.Tests.{eq-eqb, le-ltb, lt-ltb, le-leb}
use lib.Dec.{T, eqb, leb, ltb, eqb→eq, leb→le, ltb→lt, lt→ltb, nltb→le}
use lib.ListN.{length, get_or, get_or-eq_default}
use Rattle.floor.specs.declared.Floor.{Floor}
use Rattle.floor.specs.Screen.{Passed}
use Rattle.floor.specs.Place.{greatest_side, greatest_weight, is_side, has_sides, cells}
use Rattle.floor.specs.Refusal.{first_above, screen, map_lines, floor_lines, HasPassed}
use Rattle.paths.proofs.Bools.{T_and, T-or, T_not-not}
use Rattle.paths.proofs.Below.{lowest_is, lowest_none}
use Rattle.floor.proofs.Screens.{NoneGiven, none_given}

pub record Side (n : ℕ) : Type 0 where
  pub positive : 0 < n
  pub top : n ≤ greatest_side

pub side : (n : ℕ) → T (is_side n) → Side n
unfolding is_side
side n t =
    let a = T_and (ltb 0 n) (leb n greatest_side) t in
    record { positive = ltb→lt 0 n a.0; top = leb→le n greatest_side a.1 }

pub sides : (f : Floor) → T (has_sides f) → Side f.width × Side f.height
unfolding has_sides
sides f t =
    let a = T_and (is_side f.width) (is_side f.height) t in
    (side f.width a.0, side f.height a.1)

-- what refusals 1 to 3 leave
pub record MapFacts (f : Floor) (m : List ℕ) : Type 0 where
  pub wide : 0 < f.width
  pub wide_top : f.width ≤ greatest_side
  pub high : 0 < f.height
  pub high_top : f.height ≤ greatest_side
  pub covers : length m ≡ cells f
  -- past the end too, where `get_or` gives its default
  pub weights : (v : ℕ) → get_or m v 0 ≤ greatest_weight

low_weights : (m : List ℕ) → length m ≤ first_above m → (v : ℕ) → get_or m v 0 ≤ greatest_weight
unfolding first_above
low_weights m h v =
    let first = lowest_is (λ u. ltb greatest_weight (get_or m u 0)) (length m) in
    elim (dec_lt v (length m)) [
      | yes l ↦ elim (dec_lt greatest_weight (get_or m v 0)) [
        | yes k ↦ absurd (omega (arith, first.minimal v l (lt→ltb greatest_weight (get_or m v 0) k)))
        | no k ↦ omega arith
      ]
      | no l ↦ omega (arith, get_or-eq_default m 0 {n = v} (omega arith))
    ]

of_lines : (f : Floor) (m : List ℕ) → NoneGiven (map_lines f m) → MapFacts f m
of_lines f m n =
    let s = sides f (T_not-not (has_sides f) n.0) in
    record {
      wide = s.0.positive;
      wide_top = s.0.top;
      high = s.1.positive;
      high_top = s.1.top;
      covers = eqb→eq (length m) (cells f) (T_not-not (eqb (length m) (cells f)) n.1.0);
      weights = low_weights m (nltb→le (first_above m) (length m) n.1.1.0);
    }

pub map_facts : (f : Floor) (m : List ℕ) → screen (map_lines f m) ≡ Passed → MapFacts f m
map_facts f m e = of_lines f m (none_given (map_lines f m) e)

-- the converse of `sides`
pub has_sides_lem : (f : Floor) → Side f.width → Side f.height → has_sides f ≡ true
unfolding has_sides is_side
has_sides_lem f w h =
    rw (lt-ltb 0 f.width w.positive, le-leb f.width greatest_side w.top, lt-ltb 0 f.height h.positive, le-leb f.height greatest_side h.top)

-- a map with these facts passes: the converse of `map_facts`
sides_pass : (f : Floor) (m : List ℕ) → MapFacts f m → has_sides f ≡ true
sides_pass f m k = has_sides_lem f (record { positive = k.wide; top = k.wide_top }) (record { positive = k.high; top = k.high_top })

none_above : (m : List ℕ) → ((v : ℕ) → get_or m v 0 ≤ greatest_weight) → first_above m ≡ length m
unfolding first_above
none_above m k =
    lowest_none (λ v. ltb greatest_weight (get_or m v 0)) (length m) λ v l t. omega (arith, ltb→lt greatest_weight (get_or m v 0) t, k v)

pub facts_pass : (f : Floor) (m : List ℕ) → MapFacts f m → screen (map_lines f m) ≡ Passed
facts_pass f m k =
    rw (sides_pass f m k, eq-eqb (length m) (cells f) k.covers, le-ltb (first_above m) (length m) (le_of_eq (sym (none_above m k.weights))))

pub few_cells : {f : Floor} {m : List ℕ} → MapFacts f m → cells f ≤ greatest_side * greatest_side
few_cells k = mul-le-mul k.wide_top k.high_top

-- what refusals 1 to 4 leave
pub record Facts (f : Floor) (m : List ℕ) : Type 0 where
  pub map : MapFacts f m
  pub ways : (f.ways ≡ 4) ⊎ (f.ways ≡ 8)

pub facts : (f : Floor) (m : List ℕ) → HasPassed f m → Facts f m
facts f m e =
    let n = none_given (floor_lines f m) e in
    let w = T-or (eqb f.ways 4) (eqb f.ways 8) (T_not-not (eqb f.ways 4 || eqb f.ways 8) n.1.1.1.0) in
    record {
      map = of_lines f m (n.0, (n.1.0, (n.1.1.0, tt)));
      ways = ⊎_elim (λ t. inl (eqb→eq f.ways 4 t)) (λ t. inr (eqb→eq f.ways 8 t)) w;
    }
