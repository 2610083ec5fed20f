-- One cell of the list: it is taken off, its steps are taken one direction after the other, and it is done. The laws of the spread, put into the work room.
use Rattle.std.specs.Prelude.{Some, None}
use mathlib.Core.Path.{◌≡◌, sym, ◌∙◌}
use mathlib.Core.List.{List, [], ◌∷◌, ◌++◌}
use Prim.Native.Nat.{ℕ, suc, ◌+◌, ◌-◌, ◌*◌, ◌≤◌, ◌<◌}
use native.Mathlib.Decide.{ℕ_discrete}
use native.Mathlib.Numerals.{add-one}
use native.Mathlib.Omega.{arith}
use lib.Dec.{T}
use lib.ListN.{length, get_or, set, take, replicate, length-set, length-replicate, get_or-replicate}
use lib.Seq.{get_or-set_same, get_or-set_other, get_or-take, take-suc-set, take-set-le, length-take-le}
use Rattle.settling.specs.Wave.{occ}
use Rattle.settling.specs.Spread.{Spread, Stepping, Expanding}
use Rattle.settling.proofs.Waves.{occ_here, occ_there, occ_none, occ_fewer}
use Rattle.settling.proofs.Slices.{occ_place}
use Rattle.settling.proofs.Counts.{room}
use Rattle.settling.proofs.Spreads.{stepping, spread_as, listed_inside, begin_spread, offer_listed, offer_joins, expand_none, expand_falls, expanded}
use Rattle.floor.specs.declared.Floor.{Floor}
use Rattle.floor.specs.Place.{cells}
use Rattle.floor.specs.Step.{step, target, step_cost, step_of, onward, allowed, graph}
use Rattle.floor.specs.Refusal.{HasPassed}
use Rattle.floor.proofs.Allowed.{enters, nowhere}
use Rattle.floor.proofs.Laws.{lawful}
use Rattle.spread.specs.Listing.{Listed, Listing, Taking, Begun, CanOffer, Offered, no_less, falls, joins, taken, CanTakeOff}
use Rattle.spread.proofs.Joining.{joined_list, joined_listed, left_list, left_listed}

module _ {f : Floor} {m : List ℕ} where
  -- where the search begins
  pub begun_listing : {s : ℕ} {costs work : List ℕ} {len : ℕ} → HasPassed f m → s < cells f → Begun (cells f) s costs work len → Listing f m s costs work len
  begun_listing {s} {costs} {work} {len} p h b = rw b.one (record {
    passed = p;
    starts = h;
    listed = record { double = rw b.work_is (length-set first (cells f + s) 1 ∙ long); few = omega arith; flags = λ v k. rw (one, b.work_is) (flag v k (ℕ_discrete v s)) };
    spread = rw one (begin_spread costs b.costs_are h);
  })
    where
      zeros : List ℕ
      zeros = replicate (2 * cells f) 0

      first : List ℕ
      first = set zeros 0 s

      long : length first ≡ 2 * cells f
      long = length-set zeros 0 s ∙ length-replicate {A = ℕ} (2 * cells f) 0

      one : take 1 work ≡ s ∷ []
      one = rw b.work_is (take-set-le 1 first (cells f + s) 1 (omega arith) ∙ take-suc-set zeros 0 s (omega (arith, length-replicate {A = ℕ} (2 * cells f) 0)))

      flag : (v : ℕ) → v < cells f → Dec (v ≡ s) → get_or (set first (cells f + s) 1) (cells f + v) 0 ≡ occ v (s ∷ [])
      flag v k (yes e) = rw e (omega (arith, get_or-set_same first (cells f + s) 1 0 (omega (arith, long)), occ_here s [], occ_none s))
      flag v k (no e) =
          omega (
            arith,
            get_or-set_other first (cells f + s) (cells f + v) 1 0 (omega (arith, e)),
            get_or-set_other zeros 0 (cells f + v) s 0 (omega arith),
            get_or-replicate {A = ℕ} (2 * cells f) (cells f + v) 0 0 (omega arith),
            occ_there v s [] (λ z. e (sym z)),
            occ_none v,
          )

  -- the cells of the list
  module _ {s : ℕ} {costs work : List ℕ} {len : ℕ} (x : Listing f m s costs work len) where
    pub in_room : len ≤ length work
    in_room = omega (arith, x.listed.double, x.listed.few)

    listed_at : (at : ℕ) → at < len → 1 ≤ occ (get_or work at 0) (take len work)
    listed_at at h = rw (get_or-take len work at 0 h) at (occ_place (take len work) at (omega (arith, length-take-le len work in_room)))

    pub cell_at : (at : ℕ) → at < len → get_or work at 0 < cells f
    cell_at at h = (listed_inside x.spread (get_or work at 0) (listed_at at h)).0

    module _ (at : ℕ) (before : at < len) where
      pub can_take_off : CanTakeOff (length costs) work len at
      can_take_off = rw x.spread.covers (record { double = x.listed.double; few = x.listed.few; before = before; cell = cell_at at before })

      -- it is taken off, as `take_off` says what it gives and leaves
      pub takes_off : {cell : ℕ} {work' : List ℕ} → cell ≡ get_or work at 0 → work' ≡ taken (length costs) work len at → Taking f m s cell 0 costs work' (len - 1)
      takes_off e e' = rw (e, e', x.spread.covers) (record {
        passed = x.passed;
        starts = x.starts;
        listed = left_listed x.listed at before (cell_at at before) (omega (arith, listed_at at before, x.spread.once (get_or work at 0) (cell_at at before)));
        expanding = record { spread = spread_as x.spread (left_list x.listed at before); offered = λ d h k. absurd (omega arith) };
      })

  -- its steps are taken
  module _ {s u d : ℕ} {costs work : List ℕ} {len : ℕ} (x : Taking f m s u d costs work len) where
    abbrev st : Stepping (graph f m)
    st = stepping (lawful f m x.passed)

    abbrev spread : Spread (graph f m) s costs (u ∷ take len work)
    spread = x.expanding.spread

    pub taking_inside : u < length costs
    taking_inside = omega (arith, (listed_inside spread u (omega (arith, occ_here u (take len work)))).0, spread.covers)

    -- there is room for one more, since u itself is not listed
    taking_room : len < cells f
    taking_room =
        let once : (v : ℕ) → v < cells f → occ v (take len work) ≤ 1 = λ v h. omega (arith, spread.once v h, occ_fewer v u (take len work)) in
        let off : (v : ℕ) → cells f ≤ v → occ v (take len work) ≡ 0 = λ v h. omega (arith, spread.inside v h, occ_fewer v u (take len work)) in
        let i : u < cells f = omega (arith, taking_inside, spread.covers) in
        let l = room (cells f) (take len work) once off u i (omega (arith, spread.once u i, occ_here u (take len work))) in
        omega (arith, l, length-take-le len work (omega (arith, x.listed.double, x.listed.few)))

    goes_on : {costs' work' : List ℕ} {len' : ℕ} → Listed (cells f) work' len' → Expanding (graph f m) s u (suc d) costs' (take len' work')
        → Taking f m s u (d + 1) costs' work' len'
    goes_on l e = rw (add-one d) (record { passed = x.passed; starts = x.starts; listed = l; expanding = e })

    -- the step is not allowed
    pub taking_barred : onward (step_of f m u d) ≡ None → Taking f m s u (d + 1) costs work len
    taking_barred e = goes_on x.listed (expand_none st s x.expanding (λ t. absurd (nowhere f m u d e t)))

    -- the step leads to a cell, which is offered a cost
    module _ (t : T (allowed f m u d)) where
      abbrev there : ℕ
      there = target f u d

      abbrev price : ℕ
      price = get_or costs u 0 + step_cost m d u (target f u d)

      entered : there < cells f
      entered = (lawful f m x.passed).enters u d t

      flag : get_or work (length costs + there) 0 ≡ occ there (take len work)
      flag = rw spread.covers (x.listed.flags there entered)

      offer_there : CanOffer costs work len there
      offer_there = record {
        inside = omega (arith, entered, spread.covers);
        small = omega (arith, (lawful f m x.passed).cells_fit, spread.covers);
        double = omega (arith, x.listed.double, spread.covers);
        room = omega (arith, taking_room, spread.covers);
      }

      offered_there : {costs' work' : List ℕ} {len' : ℕ} → Offered costs work len there price costs' work' len' → Taking f m s u (d + 1) costs' work' len'
      offered_there (no_less l) = goes_on x.listed (expand_none st s x.expanding (λ k. l))
      offered_there (falls l n) =
          let w = offer_listed st s spread d t l (omega (arith, flag)) in
          goes_on x.listed (expand_falls st s x.expanding t l (take len work) w)
      offered_there (joins l n) =
          let new : occ there (take len work) ≡ 0 = omega (arith, n, flag, spread.once there entered, occ_fewer there u (take len work)) in
          let w = offer_joins st s spread d t l new in
          rw spread.covers
          (goes_on (joined_listed x.listed there entered new taking_room)
          (rw (joined_list x.listed there entered new taking_room) (expand_falls st s x.expanding t l (take len work ++ (there ∷ [])) w)))

    module _ (to cost : ℕ) (e : onward (step_of f m u d) ≡ Some (step to cost)) where
      pub can_offer : CanOffer costs work len to
      can_offer = let l = enters f m u d e in rw l.to (offer_there l.steps)

      pub taking_offered : {costs' work' : List ℕ} {len' : ℕ} → Offered costs work len to (get_or costs u 0 + cost) costs' work' len' → Taking f m s u (d + 1) costs' work' len'
      taking_offered z = let l = enters f m u d e in offered_there l.steps (rw (← l.costs, ← l.to) z)

  -- after its last step
  pub taking_done : {s u : ℕ} {costs work : List ℕ} {len : ℕ} → Taking f m s u 8 costs work len → Listing f m s costs work len
  taking_done {s = s} x = record { passed = x.passed; starts = x.starts; listed = x.listed; spread = expanded (stepping (lawful f m x.passed)) s x.expanding }
