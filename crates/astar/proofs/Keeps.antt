-- What a cell keeps is the same by its own cost as by the table of costs, and it keeps a cost exactly if it is settled: to count kept costs is to count settled cells.
use mathlib.Core.Path.{◌≡◌, refl, sym, ◌∙◌, ap}
use mathlib.Core.Logic.{◌≢◌}
use mathlib.Core.Bool.{Bool, true, false, cond, not}
use mathlib.Core.List.{List}
use Prim.Native.Nat.{ℕ, ◌<◌}
use lib.Dec.{eqb}
use lib.ListN.{length, get_or}
use Rattle.paths.specs.Below.{tick, count, values}
use Rattle.paths.specs.Graph.{MARK}
use Rattle.paths.proofs.Bools.{T_true, not_T_false, dec_T}
use Rattle.settling.specs.Order.{known}
use Rattle.settling.specs.Aimed.{is_settled, settled_count, settled_costs}
use Rattle.settling.proofs.Aims.{settled_is}
use Rattle.settling.proofs.Keeping.{kept_to, kept_at}
use Rattle.floor.specs.Estimate.{estimate, estimate_to}
use Rattle.floor.specs.Place.{place_of}
use Rattle.spread.specs.declared.Aim.{Aim}
use Rattle.astar.specs.Ends.{kept_cost}

not-not : (b : Bool) → not (not b) ≡ b
not-not true = refl
not-not false = refl

module _ (h : ℕ → ℕ) (costs : List ℕ) (goal : ℕ) where
  -- what cell v keeps
  abbrev pub keeps : ℕ → ℕ
  keeps v = cond (is_settled h costs goal v) (get_or costs v 0) MARK

  pub settled_values : settled_costs h costs goal ≡ values keeps (length costs)
  unfolding settled_costs
  settled_values = refl

  pub keeps_by_cost : (v : ℕ) → kept_cost (h v) (get_or costs goal 0) (get_or costs v 0) ≡ keeps v
  unfolding kept_cost is_settled known
  keeps_by_cost v = rw (not-not (eqb (get_or costs goal 0) MARK))

  pub settled_counted : settled_count h costs goal ≡ count (is_settled h costs goal) (length costs)
  unfolding settled_count
  settled_counted = refl

  -- a cell counts exactly if it keeps a cost
  pub counts : (v : ℕ) → keeps v ≢ MARK → tick (is_settled h costs goal v) ≡ 1
  counts v n = elim (dec_T (is_settled h costs goal v)) [
    | yes k ↦ ap tick (T_true (is_settled h costs goal v) k)
    | no k ↦ absurd (n (ap (λ (b : Bool). cond b (get_or costs v 0) MARK) (not_T_false (is_settled h costs goal v) k)))
  ]

  pub counts_not : (v : ℕ) → keeps v ≡ MARK → tick (is_settled h costs goal v) ≡ 0
  counts_not v e = elim (dec_T (is_settled h costs goal v)) [
    | yes k ↦ absurd ((settled_is h costs goal v k).known (ap (λ (b : Bool). cond b (get_or costs v 0) MARK) (sym (T_true (is_settled h costs goal v) k)) ∙ e))
    | no k ↦ ap tick (not_T_false (is_settled h costs goal v) k)
  ]

-- the loop at cell i: what it leaves there is what the cell keeps
module _ (a : Aim) (costs : List ℕ) where
  abbrev pub kept_by : ℕ → ℕ
  kept_by = keeps (estimate a.floor a.goal) costs a.goal

  pub keeps_here : (now : List ℕ) (i cost : ℕ) → a.place ≡ place_of a.floor a.goal → i < length costs → now ≡ kept_to kept_by costs i
      → cost ≡ kept_cost (estimate_to a.floor (place_of a.floor i) a.place) (get_or costs a.goal 0) (get_or now i 0) → cost ≡ kept_by i
  keeps_here now i cost p h left e =
      let here : get_or now i 0 ≡ get_or costs i 0 = ap (λ (l : List ℕ). get_or l i 0) left ∙ kept_at kept_by costs i h in
      e ∙ rw (p, here) (keeps_by_cost (estimate a.floor a.goal) costs a.goal i)
