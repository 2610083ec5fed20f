-- A room of which the cells of a list are overwritten, one after the other: those of the list so far have the values of f, and the others stay.
use mathlib.Core.Path.{◌≡◌, refl, sym, ◌∙◌}
use mathlib.Core.List.{List, [], ◌∷◌, ◌++◌}
use Prim.Native.Nat.{ℕ, ◌≤◌, ◌<◌}
use native.Mathlib.Decide.{ℕ_discrete, dec_lt}
use native.Mathlib.Omega.{arith}
use lib.ListN.{length, get_or, set, length-set}
use lib.Seq.{get_or-set_same, get_or-set_other, ext_get_or}
use Rattle.paths.specs.Below.{values}
use Rattle.paths.proofs.Below.{length_values, get_d_values}
use Rattle.settling.specs.Wave.{occ}
use Rattle.settling.proofs.Waves.{occ_here, occ_there, occ_none, occ_snoc}

pub record Overwritten (f : ℕ → ℕ) (room list room' : List ℕ) : Type 0 where
  pub same : length room' ≡ length room
  pub done : (v : ℕ) → v < length room → 1 ≤ occ v list → get_or room' v 0 ≡ f v
  pub left : (v : ℕ) → occ v list ≡ 0 → get_or room' v 0 ≡ get_or room v 0

module _ (f : ℕ → ℕ) (room : List ℕ) where
  pub over_none : Overwritten f room [] room
  over_none = record { same = refl; done = λ v h o. absurd (omega (arith, occ_none v)); left = λ v o. refl }

  module _ {list room' : List ℕ} (x : Overwritten f room list room') where
    -- cell u is next, and has its value now
    module _ (u : ℕ) (room'' : List ℕ) (same : length room'' ≡ length room') (here : get_or room'' u 0 ≡ f u)
        (there : (v : ℕ) → (v ≡ u → ⊥) → get_or room'' v 0 ≡ get_or room' v 0) where
      other : (v : ℕ) → (v ≡ u → ⊥) → occ v (list ++ (u ∷ [])) ≡ occ v list
      other v e = omega (arith, occ_snoc v u list, occ_there v u [] (λ z. e (sym z)), occ_none v)

      done : (v : ℕ) → v < length room → 1 ≤ occ v (list ++ (u ∷ [])) → Dec (v ≡ u) → get_or room'' v 0 ≡ f v
      done v h o (yes e) = rw e here
      done v h o (no e) = there v e ∙ x.done v h (omega (arith, other v e))

      left : (v : ℕ) → occ v (list ++ (u ∷ [])) ≡ 0 → Dec (v ≡ u) → get_or room'' v 0 ≡ get_or room v 0
      left v o (yes e) = absurd (omega (arith, occ_snoc u u list, occ_here u [], rw e at o))
      left v o (no e) = there v e ∙ x.left v (omega (arith, other v e))

      one_more : Overwritten f room (list ++ (u ∷ [])) room''
      one_more = record { same = same ∙ x.same; done = λ v h o. done v h o (ℕ_discrete v u); left = λ v o. left v o (ℕ_discrete v u) }

    -- it is stored
    pub over_next : (u : ℕ) → u < length room → Overwritten f room (list ++ (u ∷ [])) (set room' u (f u))
    over_next u i =
        one_more u (set room' u (f u)) (length-set room' u (f u)) (get_or-set_same room' u (f u) 0 (omega (arith, x.same))) (λ v e. get_or-set_other room' u v (f u) 0 e)

    -- or it stood there
    pub over_kept : (u : ℕ) → get_or room' u 0 ≡ f u → Overwritten f room (list ++ (u ∷ [])) room'
    over_kept u e = one_more u room' refl e (λ v n. refl)

    -- where every other cell has its value already, all have
    pub over_all : ((v : ℕ) → v < length room → occ v list ≡ 0 → get_or room v 0 ≡ f v) → room' ≡ values f (length room)
    over_all others =
        ext_get_or 0 room' (values f (length room)) (x.same ∙ sym (length_values f (length room))) λ v h.
        let i : v < length room = omega (arith, x.same) in
        go v i (dec_lt 0 (occ v list)) ∙ sym (get_d_values f (length room) v i)
      where
        go : (v : ℕ) → v < length room → Dec (0 < occ v list) → get_or room' v 0 ≡ f v
        go v i (yes o) = x.done v i (omega arith)
        go v i (no o) = let z : occ v list ≡ 0 = omega arith in x.left v z ∙ others v i z
