-- True lengths: a cost is 70 P + 99 Q, so twice its square is compared with T² coefficient by coefficient; two such comparisons chain through a number.
use Rattle.std.specs.Prelude.{Ok}
use mathlib.Core.Path.{◌≡◌, refl, subst}
use mathlib.Core.Logic.{◌≢◌, ◌↔◌}
use mathlib.Core.Bool.{Bool, true, false, cond}
use mathlib.Core.List.{List, [], ◌∷◌}
use Prim.Native.Nat.{ℕ, ◌+◌, ◌-◌, ◌*◌, ◌%◌, ◌≤◌, ◌<◌}
use native.Mathlib.Omega.{arith}
use native.Mathlib.Nat.{mul-le-mul, sub-zero}
use native.Mathlib.Decide.{dec_lt, dec_le}
use borrow.Author.Tests.{le-leb, lt-leb}
use lib.Dec.{T, eqb, leb, eqb→eq, leb→le, le→leb}
use lib.ListN.{get_or}
use Rattle.paths.specs.Route.{walks, cost_of}
use Rattle.paths.proofs.Below.{every_at}
use Rattle.paths.proofs.Bools.{T_and}
use Rattle.floor.specs.declared.Floor.{Floor}
use Rattle.floor.specs.Direction.{row_of, is_diagonal}
use Rattle.floor.specs.Length.{Surd, surd, square, at_most, plus, times, squared, step_length, length_of}
use Rattle.floor.specs.FourLines.{FourLines}
use Rattle.floor.specs.Step.{step, step_weight, step_cost, target, step_of, allowed, graph}
use Rattle.floor.proofs.Allowed.{allowed_is, leads}
use Rattle.floor.proofs.Rows.{direction_lt}

test_is : (b : Bool) (x y : ℕ) → b ≡ leb x y → T b ↔ (x ≤ y)
test_is b x y e = rw e (leb→le x y, le→leb x y)

pub four_lines : (p q : Surd) → FourLines p q
unfolding at_most
four_lines p q = record {
  both = λ a b. rw (le-leb p.whole q.whole a, le-leb p.root q.root b) tt;
  neither = λ a b t. absurd (rw (lt-leb p.whole q.whole a, le-leb q.root p.root b) at t);
  less_root = λ a b. test_is (at_most p q) _ _ (rw (le-leb p.whole q.whole a, lt-leb p.root q.root b));
  less_whole = λ a b. test_is (at_most p q) _ _ (rw (lt-leb p.whole q.whole a, lt-leb q.root p.root b));
}

-- p is at most q, by what the lines ask
record Most (p q : Surd) : Type 0 where
  never : q.whole < p.whole → p.root < q.root
  less_root : p.whole ≤ q.whole → q.root < p.root → 2 * square (p.root - q.root) ≤ square (q.whole - p.whole)
  less_whole : q.whole < p.whole → p.root < q.root → square (p.whole - q.whole) ≤ 2 * square (q.root - p.root)

most_at : (p q : Surd) → Most p q → T (at_most p q)
most_at p q x = go (dec_le p.whole q.whole) (dec_le p.root q.root)
  where
    go : Dec (p.whole ≤ q.whole) → Dec (p.root ≤ q.root) → T (at_most p q)
    go (yes a) (yes b) = (four_lines p q).both a b
    go (yes a) (no b) = ((four_lines p q).less_root a (omega arith)).1 (x.less_root a (omega arith))
    go (no a) b =
        let w : q.whole < p.whole = omega arith in
        ((four_lines p q).less_whole w (x.never w)).1 (x.less_whole w (x.never w))

square_le : {a b : ℕ} → a ≤ b → square a ≤ square b
square_le h = mul-le-mul h h

-- squares the other way round
le_square : (a b : ℕ) → square a ≤ square b → a ≤ b
le_square a b h = go (dec_le a b)
  where
    go : Dec (a ≤ b) → a ≤ b
    go (yes k) = k
    go (no k) = let l : b < a = omega arith in absurd (omega (arith, mul-le-mul l l))

-- 27720 / 19602 < √2 < 27720 / 19600
root_over : (x y n : ℕ) → x ≤ 27720 * n → 19602 * n ≤ y → square x ≤ 2 * square y
root_over x y n h k = omega (arith, square_le h, square_le k)

root_under : (x y n : ℕ) → 27720 * n ≤ x → y ≤ 19600 * n → 2 * square y ≤ square x
root_under x y n h k = omega (arith, square_le h, square_le k)

-- the two bounds of a cost, for any P and Q
cost_over : (p q : ℕ) → Most (times 9800 (squared (surd p q))) (surd (2 * square (70 * p + 99 * q)) 0)
cost_over p q = record {
  never = λ h. omega arith;
  less_root = λ h k. root_under _ _ (p * q) (omega arith) (omega arith);
  less_whole = λ h k. omega arith;
}

cost_under : (p q : ℕ) → Most (surd (2 * square (70 * p + 99 * q)) 0) (times 9801 (squared (surd p q)))
cost_under p q = record {
  never = λ h. omega arith;
  less_root = λ h k. omega arith;
  less_whole = λ h k. root_over _ _ (p * q) (omega arith) (omega arith);
}

-- what a number lies between, taken away from both sides
take_root : (j l d e : ℕ) → square j ≤ 2 * square d → 2 * square (d + e) ≤ square (j + l) → 2 * square e ≤ square l
take_root j l d e h k = go (dec_le (2 * square e) (square l))
  where
    go : Dec (2 * square e ≤ square l) → 2 * square e ≤ square l
    go (yes y) = y
    go (no n) =
        let a : square l ≤ 2 * square e = omega arith in
        let b : j * l ≤ 2 * (d * e) = le_square (j * l) (2 * (d * e)) (omega (arith, mul-le-mul h a)) in
        absurd (omega arith)

take_whole : (k l b e : ℕ) → 2 * square b ≤ square k → square (k + l) ≤ 2 * square (b + e) → square l ≤ 2 * square e
take_whole k l b e h g = go (dec_le (square l) (2 * square e))
  where
    go : Dec (square l ≤ 2 * square e) → square l ≤ 2 * square e
    go (yes y) = y
    go (no n) =
        let a : 2 * square e ≤ square l = omega arith in
        let c : 2 * (b * e) ≤ k * l = le_square (2 * (b * e)) (k * l) (omega (arith, mul-le-mul h a)) in
        absurd (omega arith)

-- p is at most the number n, and n at most q
module _ (p q : Surd) (n : ℕ) (x : Most p (surd n 0)) (y : Most (surd n 0) q) where
  low : p.whole ≤ n
  low = go (dec_le p.whole n)
    where
      go : Dec (p.whole ≤ n) → p.whole ≤ n
      go (yes k) = k
      go (no k) = absurd (omega (arith, x.never (omega arith)))

  under : 2 * square p.root ≤ square (n - p.whole)
  under = go (dec_lt 0 p.root)
    where
      go : Dec (0 < p.root) → 2 * square p.root ≤ square (n - p.whole)
      go (yes k) = rw (sub-zero p.root) at (x.less_root low k)
      go (no k) = let z : p.root ≡ 0 = omega arith in rw z (omega arith)

  over : q.whole < n → square (n - q.whole) ≤ 2 * square q.root
  over k = rw (sub-zero q.root) at (y.less_whole k (y.never k))

  between_never : q.whole < p.whole → p.root < q.root
  between_never k = go (dec_le q.root p.root)
    where
      go : Dec (q.root ≤ p.root) → p.root < q.root
      go (no l) = omega arith
      go (yes l) =
          let i = le_square (n - q.whole) (n - p.whole) (omega (arith, over (omega (arith, low)), under, square_le l)) in
          absurd (omega (arith, low))

  between_root : p.whole ≤ q.whole → q.root < p.root → 2 * square (p.root - q.root) ≤ square (q.whole - p.whole)
  between_root k l = go (dec_le n q.whole)
    where
      go : Dec (n ≤ q.whole) → 2 * square (p.root - q.root) ≤ square (q.whole - p.whole)
      go (yes i) =
          omega (arith, under, square_le {a = p.root - q.root} {b = p.root} (omega arith), square_le {a = n - p.whole} {b = q.whole - p.whole} (omega arith))
      go (no i) =
          let whole : n - p.whole ≡ (n - q.whole) + (q.whole - p.whole) = omega (arith, low) in
          let root : p.root ≡ q.root + (p.root - q.root) = omega arith in
          take_root (n - q.whole) (q.whole - p.whole) q.root (p.root - q.root) (over (omega arith))
          (subst (λ (i : ℕ). 2 * square (q.root + (p.root - q.root)) ≤ square i) whole (subst (λ (i : ℕ). 2 * square i ≤ square (n - p.whole)) root under))

  between_whole : q.whole < p.whole → p.root < q.root → square (p.whole - q.whole) ≤ 2 * square (q.root - p.root)
  between_whole k l =
      let whole : n - q.whole ≡ (n - p.whole) + (p.whole - q.whole) = omega (arith, low) in
      let root : q.root ≡ p.root + (q.root - p.root) = omega arith in
      take_whole (n - p.whole) (p.whole - q.whole) p.root (q.root - p.root) under
      (subst (λ (i : ℕ). square i ≤ 2 * square (p.root + (q.root - p.root))) whole (subst (λ (i : ℕ). square (n - q.whole) ≤ 2 * square i) root (over (omega (arith, low)))))

  between : Most p q
  between = record { never = between_never; less_root = between_root; less_whole = between_whole }

-- a smaller number is at most a greater one
numbers : {n m : ℕ} → n ≤ m → Most (surd n 0) (surd m 0)
numbers h = record { never = λ k. absurd (omega arith); less_root = λ k l. absurd (omega arith); less_whole = λ k l. absurd (omega arith) }

-- a route's cost is 70 P + 99 Q
unit_of : (d : ℕ) → d < 8 → (row_of d).unit ≡ cond (is_diagonal d) 99 70
unit_of d h = eqb→eq (row_of d).unit (cond (is_diagonal d) 99 70) (every_at (λ e. eqb (row_of e).unit (cond (is_diagonal e) 99 70)) 8 tt d h)

step_parts : (d n : ℕ) → d < 8 → (row_of d).unit * n ≡ 70 * (step_length d n).whole + 99 * (step_length d n).root
unfolding step_length
step_parts d n h = rw (unit_of d h) (go (is_diagonal d))
  where
    go : (b : Bool) → cond b 99 70 * n ≡ 70 * (cond b (surd 0 n) (surd n 0)).whole + 99 * (cond b (surd 0 n) (surd n 0)).root
    go true = omega arith
    go false = omega arith

-- what a step adds to P and Q is its weight, in one of the two
pub step_straight : (d n : ℕ) → d % 2 ≡ 0 → step_length d n ≡ surd n 0
unfolding step_length
step_straight d n e = rw e

pub step_diagonal : (d n : ℕ) → d % 2 ≢ 0 → step_length d n ≡ surd 0 n
unfolding step_length
step_diagonal d n o = let e : d % 2 ≡ 1 = omega arith in rw e

pub step_summed : (d n : ℕ) → (step_length d n).whole + (step_length d n).root ≡ n
unfolding step_length
step_summed d n = go (is_diagonal d)
  where
    go : (b : Bool) → (cond b (surd 0 n) (surd n 0)).whole + (cond b (surd 0 n) (surd n 0)).root ≡ n
    go true = omega arith
    go false = omega arith

-- and that is not more than the step costs
pub weight_within : (m : List ℕ) (d u v : ℕ) → d < 8 → step_weight m u v ≤ step_cost m d u v
unfolding step_cost
weight_within m d u v h = omega (arith, step_parts d (step_weight m u v) h, step_summed d (step_weight m u v))

module _ (f : Floor) (m : List ℕ) where
  -- what a step adds to a route's true length, in 02's words
  pub length_step : (v d : ℕ) {w c : ℕ} (ds : List ℕ) → step_of f m v d ≡ Ok (step w c)
      → length_of f m v (d ∷ ds) ≡ plus (step_length d (get_or m v 0 + get_or m w 0)) (length_of f m w ds)
  unfolding step_weight
  length_step v d ds e = rw (leads f m v d e).to

  pub cost_parts : (v : ℕ) (ds : List ℕ) → T (walks (graph f m) v ds) → cost_of (graph f m) v ds ≡ 70 * (length_of f m v ds).whole + 99 * (length_of f m v ds).root
  unfolding step_cost
  cost_parts v [] t = refl
  cost_parts v (d ∷ ds) t =
      let w = target f v d in
      let a = T_and (allowed f m v d) (walks (graph f m) w ds) t in
      omega (arith, step_parts d (step_weight m v w) (direction_lt f d (allowed_is f m v d a.0).direction), cost_parts w ds a.1)

  over_length : (v : ℕ) (ds : List ℕ) → T (walks (graph f m) v ds) → Most (times 9800 (squared (length_of f m v ds))) (surd (2 * square (cost_of (graph f m) v ds)) 0)
  over_length v ds t = rw (cost_parts v ds t) (cost_over (length_of f m v ds).whole (length_of f m v ds).root)

  under_length : (v : ℕ) (ds : List ℕ) → T (walks (graph f m) v ds) → Most (surd (2 * square (cost_of (graph f m) v ds)) 0) (times 9801 (squared (length_of f m v ds)))
  under_length v ds t = rw (cost_parts v ds t) (cost_under (length_of f m v ds).whole (length_of f m v ds).root)

  module _ (v : ℕ) (ds : List ℕ) (t : T (walks (graph f m) v ds)) where
    -- 2 × cost² lies between 9800 and 9801 times the square of the route's true length
    pub cost_over_length : T (at_most (times 9800 (squared (length_of f m v ds))) (surd (2 * square (cost_of (graph f m) v ds)) 0))
    cost_over_length = most_at _ _ (over_length v ds t)

    pub cost_under_length : T (at_most (surd (2 * square (cost_of (graph f m) v ds)) 0) (times 9801 (squared (length_of f m v ds))))
    cost_under_length = most_at _ _ (under_length v ds t)

    -- a number that is at most its cost, and a route that costs no more
    pub floor_under_length : (n : ℕ) → n ≤ cost_of (graph f m) v ds → T (at_most (surd (2 * square n) 0) (times 9801 (squared (length_of f m v ds))))
    floor_under_length n h =
        most_at _ _ (between _ _ (2 * square (cost_of (graph f m) v ds)) (numbers (omega (arith, square_le h))) (under_length v ds t))

    pub length_under_length : (u : ℕ) (es : List ℕ) → T (walks (graph f m) u es) → cost_of (graph f m) u es ≤ cost_of (graph f m) v ds
        → T (at_most (times 9800 (squared (length_of f m u es))) (times 9801 (squared (length_of f m v ds))))
    length_under_length u es s h =
        most_at _ _
        (between _ _ (2 * square (cost_of (graph f m) u es)) (over_length u es s)
        (between _ _ (2 * square (cost_of (graph f m) v ds)) (numbers (omega (arith, square_le h))) (under_length v ds t)))
