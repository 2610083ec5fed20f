-- The parts of the rooms that are lent, where the question and the rooms have passed: each length from the refusal that judges it.
use mathlib.Core.Path.{◌≡◌, ◌∙◌}
use mathlib.Core.List.{List}
use Prim.Native.Nat.{ℕ, ◌*◌, ◌≤◌}
use native.Mathlib.Omega.{arith}
use lib.ListN.{length, take}
use lib.Seq.{length-take-le}
use Rattle.floor.specs.declared.Floor.{Floor}
use Rattle.floor.specs.Screen.{Passed}
use Rattle.floor.specs.Place.{cells}
use Rattle.floor.specs.Refusal.{screen}
use Rattle.floor.proofs.Questions.{question_covers}
use Rattle.answering.specs.Rooms.{Rooms, lent_lines}
use Rattle.answering.proofs.Lending.{asked_well, enough_costs, enough_work, enough_route}

-- the parts that are lent are as long as the floor has cells, and the work room's twice as long
pub lent_lengths : (f : Floor) (m : List ℕ) (start goal : ℕ) (r : Rooms) → screen (lent_lines f m start goal r) ≡ Passed
    → (length (take (length m) r.costs) ≡ cells f) × (length (take (2 * length m) r.work) ≡ 2 * cells f) × (cells f ≤ length r.route)
lent_lengths f m start goal r e =
    let covers = question_covers f m start goal (asked_well f m start goal r e) in (
      length-take-le (length m) r.costs (omega (arith, covers, enough_costs f m start goal r e)) ∙ covers,
      length-take-le (2 * length m) r.work (omega (arith, covers, enough_work f m start goal r e)) ∙ omega (arith, covers),
      enough_route f m start goal r e,
    )
