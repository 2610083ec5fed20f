-- What the lines of a claim leave after `Passed`: lines that were tried one after the other have all passed.
use mathlib.Core.Path.{◌≡◌, refl, sym, ap, ◌∙◌}
use mathlib.Core.Bool.{Bool, true, false, not}
use mathlib.Core.List.{List, [], ◌∷◌, ◌++◌}
use Prim.Native.Nat.{ℕ, ◌-◌, ◌≤◌, ◌<◌}
use native.Mathlib.Omega.{arith}
use lib.Dec.{eqb, ltb, nltb→le}
use lib.ListN.{length, get_or}
use Rattle.floor.specs.declared.Floor.{Floor}
use Rattle.floor.specs.Screen.{Screen, Passed, Refused}
use Rattle.floor.specs.Place.{cells}
use Rattle.floor.specs.Refusal.{Line, line, screen, floor_lines, outside_line, blocked_line, ends_lines, question_lines, HasPassed}
use Rattle.floor.proofs.Questions.{passed_both, question_passed, start_inside}
use Rattle.floor.proofs.Screens.{and_then, screen_append, none_given}
use Rattle.claims.specs.Route.{Claim, steps_line, claim_lines}
use Rattle.claims.specs.Table.{costs_line, table_lines}

-- of a claimed route
module _ (f : Floor) (m : List ℕ) (c : Claim) (e : screen (claim_lines f m c) ≡ Passed) where
  abbrev parts : (screen (question_lines f m c.start c.goal) ≡ Passed) × (screen (steps_line f c ∷ []) ≡ Passed)
  parts = passed_both (question_lines f m c.start c.goal) (steps_line f c ∷ []) e

  pub claim_question : screen (question_lines f m c.start c.goal) ≡ Passed
  claim_question = parts.0

  pub claim_passed : HasPassed f m
  claim_passed = question_passed f m c.start c.goal claim_question

  pub claim_short : length c.route < cells f
  claim_short =
      let l = nltb→le (cells f - 1) (length c.route) (none_given (steps_line f c ∷ []) parts.1).0 in
      omega (arith, start_inside f m c.start c.goal claim_question)

-- with the start as its goal too, a question's lines 6 and 8 never come first
start_as_goal : (x : Screen) (outside blocked : Bool) (ks : List Line)
    → and_then (and_then x (screen (line 5 outside 0 ∷ line 6 outside 0 ∷ line 7 blocked 0 ∷ line 8 blocked 0 ∷ []))) (screen ks)
    ≡ and_then x (screen (line 5 outside 0 ∷ line 7 blocked 0 ∷ ks))
start_as_goal Passed true blocked ks = refl
start_as_goal Passed false true ks = refl
start_as_goal Passed false false ks = refl
start_as_goal (Refused n p) outside blocked ks = refl

-- of a claimed table
module _ (f : Floor) (m : List ℕ) (s : ℕ) (t : List ℕ) where
  pub table_lines_lem : screen (table_lines f m s t) ≡ screen (question_lines f m s s ++ (costs_line f t ∷ []))
  table_lines_lem =
      screen_append (floor_lines f m) (outside_line 5 f s ∷ blocked_line 7 m s ∷ costs_line f t ∷ [])
      ∙ sym (start_as_goal (screen (floor_lines f m)) (not (ltb s (cells f))) (eqb (get_or m s 0) 0) (costs_line f t ∷ []))
      ∙ ap (λ (x : Screen). and_then x (screen (costs_line f t ∷ []))) (sym (screen_append (floor_lines f m) (ends_lines f m s s)))
      ∙ sym (screen_append (question_lines f m s s) (costs_line f t ∷ []))

  module _ (e : screen (table_lines f m s t) ≡ Passed) where
    abbrev table_parts : (screen (question_lines f m s s) ≡ Passed) × (screen (costs_line f t ∷ []) ≡ Passed)
    table_parts = passed_both (question_lines f m s s) (costs_line f t ∷ []) (sym table_lines_lem ∙ e)

    pub table_question : screen (question_lines f m s s) ≡ Passed
    table_question = table_parts.0

    pub table_passed : HasPassed f m
    table_passed = question_passed f m s s table_question

    pub table_covers : cells f ≤ length t
    table_covers = nltb→le (length t) (cells f) (none_given (costs_line f t ∷ []) table_parts.1).0
