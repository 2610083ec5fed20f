-- 01's four lines of "x + y√2 is at least 0", with x = q.whole − p.whole and y = q.root − p.root. That `at_most` is this is `four_lines` (proofs/Lengths.antt).
use Rattle.std.specs.Prelude.{◌↔◌, ◌-◌, ◌*◌, ◌≤◌, ◌<◌, T}
use Rattle.floor.specs.Length.{Surd, square, at_most}

pub record FourLines (p q : Surd) : Type 0 where
  -- yes if both are at least 0
  pub both : p.whole ≤ q.whole → p.root ≤ q.root → T (at_most p q)
  -- no if x < 0 and y ≤ 0
  pub neither : q.whole < p.whole → q.root ≤ p.root → T (at_most p q) → ⊥
  -- x² ≥ 2y² if x ≥ 0 and y < 0
  pub less_root : p.whole ≤ q.whole → q.root < p.root → T (at_most p q) ↔ (2 * square (p.root - q.root) ≤ square (q.whole - p.whole))
  -- 2y² ≥ x² if x < 0 and y > 0
  pub less_whole : q.whole < p.whole → p.root < q.root → T (at_most p q) ↔ (square (p.whole - q.whole) ≤ 2 * square (q.root - p.root))
