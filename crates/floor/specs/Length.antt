-- True length: a straight step counts as 1 and a diagonal one as √2, times the step's weight, never rounded.
use Rattle.std.specs.Prelude.{Bool, true, false, cond, List, [], ◌∷◌, ℕ, ◌+◌, ◌-◌, ◌*◌, leb, length}
use Rattle.floor.specs.declared.Floor.{Floor}
use Rattle.floor.specs.declared.RouteLength.{RouteLength}
use Rattle.floor.specs.Direction.{is_diagonal}
use Rattle.floor.specs.Step.{step_weight, target}

-- the number whole + root × √2
pub record Surd : Type 0 where
  pub whole : ℕ
  pub root : ℕ

abbrev pub surd : ℕ → ℕ → Surd
surd x y = record { whole = x; root = y }

abbrev pub square : ℕ → ℕ
square n = n * n

-- p is at most q: with x = q.whole − p.whole and y = q.root − p.root, "x + y√2 is at least 0" in 01's four lines, which are
-- yes; x² ≥ 2y² where y < 0; no where x < 0 and y ≤ 0; 2y² ≥ x² where x < 0 and y > 0
unfoldable pub at_most : Surd → Surd → Bool
at_most p q =
    cond (leb p.whole q.whole)
    (cond (leb p.root q.root) true (leb (2 * square (p.root - q.root)) (square (q.whole - p.whole))))
    (cond (leb q.root p.root) false (leb (square (p.whole - q.whole)) (2 * square (q.root - p.root))))

abbrev pub plus : Surd → Surd → Surd
plus p q = surd (p.whole + q.whole) (p.root + q.root)

abbrev pub times : ℕ → Surd → Surd
times k p = surd (k * p.whole) (k * p.root)

-- (P + Q√2)² = (P² + 2Q²) + 2PQ√2
abbrev pub squared : Surd → Surd
squared p = surd (square p.whole + 2 * square p.root) (2 * (p.whole * p.root))

unfoldable pub step_length : ℕ → ℕ → Surd
step_length d weight = cond (is_diagonal d) (surd 0 weight) (surd weight 0)

-- the true length of a route from cell v: P is its whole part, Q its root part
abbrev pub length_of : Floor → List ℕ → ℕ → List ℕ → Surd
length_of f m v [] = surd 0 0
length_of f m v (d ∷ ds) = plus (step_length d (step_weight m v (target f v d))) (length_of f m (target f v d) ds)

-- how long a route from cell v is: the number of its steps, and P and Q
abbrev pub route_length : Floor → List ℕ → ℕ → List ℕ → RouteLength
route_length f m v ds = record { steps = length ds; p = (length_of f m v ds).whole; q = (length_of f m v ds).root }
