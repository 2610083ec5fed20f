-- What a question that has passed 1 to 8 is: lines that were tried one after the other have all passed.
use mathlib.Core.Path.{◌≡◌, refl, sym, ◌∙◌}
use mathlib.Core.Logic.{◌≢◌}
use mathlib.Core.List.{List, ◌++◌}
use Prim.Native.Nat.{ℕ, ◌<◌}
use native.Mathlib.Omega.{arith}
use lib.Dec.{ltb, ltb→lt}
use lib.ListN.{length, get_or}
use Rattle.paths.proofs.Bools.{T_not-not, not_eqb_ne}
use Rattle.floor.specs.declared.Floor.{Floor}
use Rattle.floor.specs.Screen.{Screen, Passed, Refused}
use Rattle.floor.specs.Place.{cells}
use Rattle.floor.specs.Refusal.{Line, screen, floor_lines, ends_lines, question_lines, HasPassed}
use Rattle.floor.proofs.Screens.{and_then, screen_append, none_given}
use Rattle.floor.proofs.Passing.{facts}

both : (x y : Screen) → and_then x y ≡ Passed → (x ≡ Passed) × (y ≡ Passed)
both Passed y e = (refl, e)
both (Refused n p) y e = let z : ◌≡◌ {A = ℕ} 0 1 = cc in absurd (omega arith)

pub passed_both : (ls ks : List Line) → screen (ls ++ ks) ≡ Passed → (screen ls ≡ Passed) × (screen ks ≡ Passed)
passed_both ls ks e = both (screen ls) (screen ks) (sym (screen_append ls ks) ∙ e)

module _ (f : Floor) (m : List ℕ) (s g : ℕ) (e : screen (question_lines f m s g) ≡ Passed) where
  abbrev lines : HasPassed f m × (screen (ends_lines f m s g) ≡ Passed)
  lines = passed_both (floor_lines f m) (ends_lines f m s g) e

  pub question_passed : HasPassed f m
  question_passed = lines.0

  pub question_covers : length m ≡ cells f
  question_covers = (facts f m question_passed).map.covers

  pub start_inside : s < cells f
  start_inside = ltb→lt s (cells f) (T_not-not (ltb s (cells f)) (none_given (ends_lines f m s g) lines.1).0)

  pub goal_inside : g < cells f
  goal_inside = ltb→lt g (cells f) (T_not-not (ltb g (cells f)) (none_given (ends_lines f m s g) lines.1).1.0)

  pub start_open : get_or m s 0 ≢ 0
  start_open = not_eqb_ne (get_or m s 0) 0 (none_given (ends_lines f m s g) lines.1).1.1.0
