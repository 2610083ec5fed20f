-- The numbers of 02, R-3, R-4 and R-7: each bound computes to the one that is written there.
use mathlib.Core.Path.{◌≡◌, refl}
use Rattle.floor.specs.Step.{least_step, least_diagonal, greatest_step, greatest_cost}

least_step_lem : least_step ≡ 140
least_step_lem = refl

least_diagonal_lem : least_diagonal ≡ 198
least_diagonal_lem = refl

greatest_step_lem : greatest_step ≡ 1782
greatest_step_lem = refl

greatest_cost_lem : greatest_cost ≡ 1868560650
greatest_cost_lem = refl
