-- Tests and values over the numbers below n: how many pass, the lowest that passes, whether all pass; a list of values, and the least of them.
use Rattle.std.specs.Prelude.{◌≡◌, Bool, true, false, cond, ◌&&◌, List, [], ◌∷◌, ◌++◌, ℕ, zero, suc, ◌+◌, ◌≤◌, ◌<◌, ltb}

abbrev pub tick : Bool → ℕ
tick true = 1
tick false = 0

-- how many numbers below n pass the test
abbrev pub count : (ℕ → Bool) → ℕ → ℕ
count p zero = 0
count p (suc n) = tick (p n) + count p n

-- the lowest number below n that passes the test, or n
abbrev pub lowest : (ℕ → Bool) → ℕ → ℕ
lowest p zero = 0
lowest p (suc n) = let r = lowest p n in cond (ltb r n) r (cond (p n) n (suc n))

-- every number below n passes the test
abbrev pub every : (ℕ → Bool) → ℕ → Bool
every p zero = true
every p (suc n) = p n && every p n

-- the values of f at 0, 1, .. n - 1
abbrev pub values : (ℕ → ℕ) → ℕ → List ℕ
values f zero = []
values f (suc n) = values f n ++ (f n ∷ [])

-- r is the least of the values of f at 0, 1, .. n - 1
pub record LeastOf (f : ℕ → ℕ) (n r : ℕ) : Type 0 where
  pub place : ℕ
  pub place_in : place < n
  pub there : f place ≡ r
  pub least : (k : ℕ) → k < n → r ≤ f k
