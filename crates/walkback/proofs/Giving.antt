-- Where the step into a cell gives the cell its cost, the graph's offer is that cost: it is read off the step.
use Rattle.std.specs.Prelude.{Option, Some, T, get_or}
use mathlib.Core.Path.{◌≡◌, sym, ◌∙◌}
use mathlib.Core.Logic.{◌≢◌}
use mathlib.Core.List.{List}
use Prim.Native.Nat.{ℕ, ◌+◌}
use borrow.Author.Tests.{ne_eqb}
use Rattle.paths.specs.Graph.{MARK}
use Rattle.paths.specs.Table.{offer}
use Rattle.paths.specs.First.{meets}
use Rattle.paths.proofs.Bools.{eq_T}
use Rattle.floor.specs.declared.Floor.{Floor}
use Rattle.floor.specs.declared.Step.{Step}
use Rattle.floor.specs.Step.{into_of, graph}
use Rattle.floor.proofs.Entering.{into_inside, offer_into}

module _ (f : Floor) (m costs : List ℕ) (v d : ℕ) (o : Option Step) (s : Step) (into : o ≡ into_of f m v d) (some : o ≡ Some s) where
  pub gives_cost : get_or costs s.cell 0 ≢ MARK → get_or costs s.cell 0 + s.cost ≡ get_or costs v 0 → T (meets (offer (graph f m) costs v d) (get_or costs v 0))
  gives_cost n h =
      rw (offer_into f m costs v d, sym into ∙ some, ne_eqb (get_or costs s.cell 0) MARK n) (eq_T (get_or costs s.cell 0 + s.cost) (get_or costs v 0) h)

  pub gives_from : s.cell ≡ (graph f m).from v d
  gives_from = (into_inside f m v d s.cell s.cost (sym into ∙ some)).0
