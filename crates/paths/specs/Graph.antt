-- A graph whose steps are numbered: a cell and a direction give at most one step.
use Rattle.std.specs.Prelude.{◌≡◌, Bool, ℕ, ◌*◌, ◌≤◌, ◌<◌, T}

-- MARK means "no cost"
abbrev pub MARK : ℕ
MARK = 4294967295

-- `to u d` is the cell that the step from u in direction d enters, `from v d` the cell that a step in direction d into v leaves.
-- All functions are total: they mean something where the step is allowed
pub record Graph : Type 0 where
  pub cells : ℕ
  pub directions : ℕ
  pub allowed : ℕ → ℕ → Bool
  pub to : ℕ → ℕ → ℕ
  pub from : ℕ → ℕ → ℕ
  pub cost : ℕ → ℕ → ℕ

-- What the theory asks of a graph. `least` and `most` bound the cost of one step
pub record Lawful (g : Graph) (least most : ℕ) : Type 0 where
  pub leaves : (u d : ℕ) → T (g.allowed u d) → u < g.cells
  pub enters : (u d : ℕ) → T (g.allowed u d) → g.to u d < g.cells
  pub numbered : (u d : ℕ) → T (g.allowed u d) → d < g.directions
  pub back : (u d : ℕ) → T (g.allowed u d) → g.from (g.to u d) d ≡ u
  pub at_least : (u d : ℕ) → T (g.allowed u d) → least ≤ g.cost u d
  pub at_most : (u d : ℕ) → T (g.allowed u d) → g.cost u d ≤ most
  pub positive : 0 < least
  pub ordered : least ≤ most
  -- no least cost reaches MARK, and cell numbers fit 32 bits
  pub costs_fit : most * g.cells < MARK
  pub cells_fit : g.cells ≤ MARK
