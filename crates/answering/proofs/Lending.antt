-- Where no line from 1 to 11 applies, the question has passed and each room is long enough; the laws of lines give it.
use mathlib.Core.Path.{◌≡◌}
use mathlib.Core.List.{List}
use Prim.Native.Nat.{ℕ, ◌*◌, ◌≤◌}
use lib.Dec.{nltb→le}
use lib.ListN.{length}
use Rattle.floor.specs.declared.Floor.{Floor}
use Rattle.floor.specs.Screen.{Passed}
use Rattle.floor.specs.Place.{cells}
use Rattle.floor.specs.Refusal.{Line, screen, question_lines}
use Rattle.floor.proofs.Questions.{passed_both}
use Rattle.floor.proofs.Screens.{none_given}
use Rattle.answering.specs.Rooms.{Rooms, room_lines, lent_lines}

module _ (f : Floor) (m : List ℕ) (start goal : ℕ) (r : Rooms) (e : screen (lent_lines f m start goal r) ≡ Passed) where
  abbrev room_lines_lem : List Line
  room_lines_lem = room_lines f (length r.costs) (length r.work) (length r.route)

  parts : (screen (question_lines f m start goal) ≡ Passed) × (screen room_lines_lem ≡ Passed)
  parts = passed_both (question_lines f m start goal) room_lines_lem e

  pub asked_well : screen (question_lines f m start goal) ≡ Passed
  asked_well = parts.0

  pub enough_costs : cells f ≤ length r.costs
  enough_costs = nltb→le (length r.costs) (cells f) (none_given room_lines_lem parts.1).0

  pub enough_work : 2 * cells f ≤ length r.work
  enough_work = nltb→le (length r.work) (2 * cells f) (none_given room_lines_lem parts.1).1.0

  pub enough_route : cells f ≤ length r.route
  enough_route = nltb→le (length r.route) (cells f) (none_given room_lines_lem parts.1).1.1.0
