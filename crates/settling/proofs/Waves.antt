-- The wave: its begin, the two things that a band does to a cell, one step's offer, and how the bound rises; each keeps the record, field by field.
use mathlib.Core.Path.{◌≡◌, refl, sym, ◌∙◌, ap, subst}
use mathlib.Core.Logic.{◌≢◌, ◌⊎◌, inl, inr, ⊎_elim}
use mathlib.Core.List.{List, [], ◌∷◌, ◌++◌}
use Prim.Native.Nat.{ℕ, zero, suc, ◌+◌, ◌-◌, ◌*◌, ◌≤◌, ◌<◌}
use native.Mathlib.Omega.{arith}
use native.Mathlib.Decide.{ℕ_discrete, dec_lt}
use borrow.Author.Tests.{eq-eqb, ne_eqb}
use lib.Dec.{T}
use lib.ListN.{length, get_or, set, length-set, get_or-eq_default}
use lib.Seq.{get_or-set_same, get_or-set_other}
use Rattle.paths.specs.Graph.{Graph, Lawful, MARK}
use Rattle.paths.specs.Route.{walks, ends, cost_of, Route, Least}
use Rattle.paths.specs.Table.{Right}
use Rattle.settling.specs.Wave.{occ, mark, Relaxed, Wave, Taking}
use Rattle.paths.proofs.Bools.{T_and}
use Rattle.paths.proofs.Walks.{snoc, stay}
use Rattle.paths.proofs.Meaning.{least_cost_most}

pub mark_is : (c : ℕ) → c ≡ MARK → mark c ≡ 1
unfolding mark
mark_is c e = rw (eq-eqb c MARK e)

pub mark_not : (c : ℕ) → c ≢ MARK → mark c ≡ 0
unfolding mark
mark_not c e = rw (ne_eqb c MARK e)

pub occ_append : (v : ℕ) (a b : List ℕ) → occ v (a ++ b) ≡ occ v a + occ v b
unfolding occ
occ_append v [] b = omega arith
occ_append v (u ∷ a) b = omega (arith, occ_append v a b)

pub occ_here : (v : ℕ) (us : List ℕ) → occ v (v ∷ us) ≡ suc (occ v us)
unfolding occ
occ_here v us = rw (eq-eqb v v refl) (omega arith)

pub occ_there : (v u : ℕ) (us : List ℕ) → u ≢ v → occ v (u ∷ us) ≡ occ v us
unfolding occ
occ_there v u us h = rw (ne_eqb u v h) (omega arith)

pub occ_none : (v : ℕ) → occ v [] ≡ 0
unfolding occ
occ_none v = refl

-- v stands once more in a list with v at its end, and no other does
pub occ_snoc : (v u : ℕ) (us : List ℕ) → occ v (us ++ (u ∷ [])) ≡ occ v us + occ v (u ∷ [])
occ_snoc v u us = occ_append v us (u ∷ [])

-- no cell stands more often in a list than with one more at its front
pub occ_fewer : (v u : ℕ) (us : List ℕ) → occ v us ≤ occ v (u ∷ us)
occ_fewer v u us = omega (arith, occ_append v (u ∷ []) us)

-- only the start has a cost
pub record Fresh (g : Graph) (s : ℕ) (costs : List ℕ) : Type 0 where
  pub covers : length costs ≡ g.cells
  pub start : s < g.cells
  pub origin : get_or costs s 0 ≡ 0
  pub others : (v : ℕ) → v < g.cells → v ≢ s → get_or costs v 0 ≡ MARK

module _ {g : Graph} {s : ℕ} {costs : List ℕ} (f : Fresh g s costs) where
  by_start : (P : ℕ → Type 0) → P s → ((v : ℕ) → v < g.cells → v ≢ s → P v) → (v : ℕ) → v < g.cells → P v
  by_start P a b v h = pick (ℕ_discrete v s)
    where
      pick : Dec (v ≡ s) → P v
      pick (yes e) = rw e a
      pick (no e) = b v h e

  pub start_small : (v : ℕ) → get_or costs v 0 ≤ MARK
  start_small v = go (dec_lt v g.cells)
    where
      go : Dec (v < g.cells) → get_or costs v 0 ≤ MARK
      go (yes h) = by_start (λ v. get_or costs v 0 ≤ MARK) (omega (arith, f.origin)) (λ v h e. omega (arith, f.others v h e)) v h
      go (no h) = omega (arith, get_or-eq_default costs 0 {n = v} (omega (arith, f.covers)))

  pub start_sound : (v : ℕ) → v < g.cells → get_or costs v 0 ≢ MARK → (ds : List ℕ) × Route g s v ds × (cost_of g s ds ≡ get_or costs v 0)
  start_sound =
      by_start (λ v. get_or costs v 0 ≢ MARK → (ds : List ℕ) × Route g s v ds × (cost_of g s ds ≡ get_or costs v 0))
      (λ m. ([], stay g s, sym f.origin)) (λ v h e m. absurd (m (f.others v h e)))

  pub start_listed : (v : ℕ) → v < g.cells → occ v (s ∷ []) + mark (get_or costs v 0) ≡ 1
  start_listed = by_start (λ v. occ v (s ∷ []) + mark (get_or costs v 0) ≡ 1)
      (omega (arith, occ_none s, occ_here s [], mark_not (get_or costs s 0) (omega (arith, f.origin))))
      (λ v h e. omega (arith, occ_none v, occ_there v s [] (λ z. e (sym z)), mark_is (get_or costs v 0) (f.others v h e)))

  pub start_inside : (v : ℕ) → g.cells ≤ v → occ v (s ∷ []) ≡ 0
  start_inside v h = omega (arith, occ_none v, occ_there v s [] (omega (arith, f.start)))

-- what holds in the directions below d, and in d
pub one_more : (P : ℕ → Type 0) (d : ℕ) → ((e : ℕ) → e < d → P e) → P d → (e : ℕ) → e < suc d → P e
one_more P d below here e h = go (ℕ_discrete e d)
  where
    go : Dec (e ≡ d) → P e
    go (yes z) = subst P (sym z) here
    go (no z) = below e (omega arith)

-- the step in direction d from u offers less than the cell entered has
pub record Falls (g : Graph) (costs : List ℕ) (u d : ℕ) : Type 0 where
  pub steps : T (g.allowed u d)
  pub leaves : u < g.cells
  pub enters : g.to u d < length costs
  pub less : get_or costs u 0 + g.cost u d < get_or costs (g.to u d) 0
  pub small : get_or costs (g.to u d) 0 ≤ MARK

-- its cost falls to the offer
abbrev pub fallen : Graph → List ℕ → ℕ → ℕ → List ℕ
fallen g costs u d = set costs (g.to u d) (get_or costs u 0 + g.cost u d)

module _ {g : Graph} {costs : List ℕ} {u d : ℕ} (f : Falls g costs u d) where
  -- by cells: the one entered, and the others
  pub by_cell : (P : ℕ → ℕ → Type 0) → P (g.to u d) (get_or costs u 0 + g.cost u d) → ((v : ℕ) → v ≢ g.to u d → P v (get_or costs v 0))
      → (v : ℕ) → P v (get_or (fallen g costs u d) v 0)
  by_cell P a b v = go (ℕ_discrete v (g.to u d))
    where
      go : Dec (v ≡ g.to u d) → P v (get_or (fallen g costs u d) v 0)
      go (yes e) = rw (e, get_or-set_same costs (g.to u d) (get_or costs u 0 + g.cost u d) 0 f.enters) a
      go (no e) = rw (get_or-set_other costs (g.to u d) v (get_or costs u 0 + g.cost u d) 0 e) (b v e)

  pub fallen_lower : (v : ℕ) → get_or (fallen g costs u d) v 0 ≤ get_or costs v 0
  fallen_lower = by_cell (λ v c. c ≤ get_or costs v 0) (omega (arith, f.less)) (λ v e. omega arith)

  pub fallen_mark : mark (get_or costs u 0 + g.cost u d) ≡ 0
  fallen_mark = mark_not (get_or costs u 0 + g.cost u d) (omega (arith, f.less, f.small))

  pub fallen_sound : (s : ℕ) → ((v : ℕ) → v < g.cells → get_or costs v 0 ≢ MARK → (ds : List ℕ) × Route g s v ds × (cost_of g s ds ≡ get_or costs v 0))
      → (v : ℕ) → v < g.cells → get_or (fallen g costs u d) v 0 ≢ MARK → (ds : List ℕ) × Route g s v ds × (cost_of g s ds ≡ get_or (fallen g costs u d) v 0)
  fallen_sound s sound =
      by_cell (λ v c. v < g.cells → c ≢ MARK → (ds : List ℕ) × Route g s v ds × (cost_of g s ds ≡ c))
      (λ h m.
      let r = sound u f.leaves (omega (arith, f.less, f.small)) in
      let x = snoc g s u d r.0 r.1 f.steps in
      (r.0 ++ (d ∷ []), x.0, omega (arith, x.1, r.2)))
      (λ v e h m. sound v h m)

  -- other cells stay relaxed
  pub fallen_relaxed : (v : ℕ) → v ≢ g.to u d → Relaxed g costs v → Relaxed g (fallen g costs u d) v
  fallen_relaxed v e r x k = omega (arith, r x k, fallen_lower (g.to v x), get_or-set_other costs (g.to u d) v (get_or costs u 0 + g.cost u d) 0 e)

  pub fallen_same : get_or (fallen g costs u d) u 0 ≡ get_or costs u 0
  fallen_same = get_or-set_other costs (g.to u d) u (get_or costs u 0 + g.cost u d) 0 (λ e. absurd (omega (arith, f.less, ap (λ (v : ℕ). get_or costs v 0) e)))

  -- and no step from u that is taken offers less
  pub fallen_offered : ((e : ℕ) → e < d → T (g.allowed u e) → get_or costs (g.to u e) 0 ≤ get_or costs u 0 + g.cost u e)
      → (e : ℕ) → e < suc d → T (g.allowed u e) → get_or (fallen g costs u d) (g.to u e) 0 ≤ get_or (fallen g costs u d) u 0 + g.cost u e
  fallen_offered below = one_more (λ e. T (g.allowed u e) → get_or (fallen g costs u d) (g.to u e) 0 ≤ get_or (fallen g costs u d) u 0 + g.cost u e) d
      (λ e h k. omega (arith, fallen_same, below e h k, fallen_lower (g.to u e)))
      (λ k. omega (arith, fallen_same, get_or-set_same costs (g.to u d) (get_or costs u 0 + g.cost u d) 0 f.enters))

module _ {g : Graph} {least most : ℕ} (law : Lawful g least most) (s : ℕ) where
  -- a least cost leaves room for a step
  pub least_fits : s < g.cells → (v c : ℕ) → Least g s v c → c + most < MARK
  least_fits i v c l = go g.cells refl (least_cost_most law s i v c l)
    where
      go : (n : ℕ) → g.cells ≡ n → c ≤ most * (g.cells - 1) → c + most < MARK
      go zero e a = absurd (omega arith)
      go (suc n) e a =
          let k : g.cells - 1 ≡ n = omega arith in
          let b : c ≤ most * n = rw k at a in
          let f : most * suc n < MARK = rw e at law.costs_fit in
          omega arith

  pub value_fits : s < g.cells → (t : List ℕ) → Right g s t → (v : ℕ) → v < g.cells → get_or t v 0 ≢ MARK → get_or t v 0 < MARK
  value_fits i t r v h m = omega (arith, least_fits i v (get_or t v 0) (r.reached v h m))

  module _ {costs : List ℕ} {bound : ℕ} {waiting later : List ℕ} (w : Wave g least s costs bound waiting later) where
    -- a cost below the bound is the least
    pub below_least : (v : ℕ) → v < g.cells → get_or costs v 0 < bound → Least g s v (get_or costs v 0)
    below_least v h b =
        let r = w.sound v h (omega (arith, w.top)) in
        record { way = r.0; route = r.1; costs = r.2; none_less = λ ds x. go ds x (dec_lt (cost_of g s ds) bound) }
      where
        go : (ds : List ℕ) → Route g s v ds → Dec (cost_of g s ds < bound) → get_or costs v 0 ≤ cost_of g s ds
        go ds x (yes l) = w.reach v ds x l
        go ds x (no l) = omega arith

    -- a cell that waits for a later band
    pub waits : (v : ℕ) → 1 ≤ occ v later → (v < g.cells) × (bound ≤ get_or costs v 0) × (get_or costs v 0 ≢ MARK)
    waits v m = go (dec_lt v g.cells) (dec_lt (get_or costs v 0) bound)
      where
        go : Dec (v < g.cells) → Dec (get_or costs v 0 < bound) → (v < g.cells) × (bound ≤ get_or costs v 0) × (get_or costs v 0 ≢ MARK)
        go (no h) b = absurd (omega (arith, w.inside v (omega arith)))
        go (yes h) (yes b) = absurd (omega (arith, w.passed v h b))
        go (yes h) (no b) = (h, omega arith, λ e. omega (arith, w.listed v h (omega arith), mark_is (get_or costs v 0) e))

    -- the step in direction d from a cell u of the band offers less than the cell entered has: its cost falls to the offer
    module _ (u d : ℕ) (k : T (g.allowed u d)) (reaches : bound ≤ get_or costs u 0 + least)
        (falls : get_or costs u 0 + g.cost u d < get_or costs (g.to u d) 0) where
      abbrev after : List ℕ
      after = fallen g costs u d

      fall : Falls g costs u d
      fall = record { steps = k; leaves = law.leaves u d k; enters = omega (arith, law.enters u d k, w.covers); less = falls; small = w.small (g.to u d) }

      offer_from : bound ≤ get_or costs u 0 + g.cost u d
      offer_from = omega (arith, law.at_least u d k)

      -- a cell below the bound afterwards was not written
      pub after_below : (v : ℕ) → get_or after v 0 < bound → (v ≢ g.to u d) × (get_or after v 0 ≡ get_or costs v 0)
      after_below = by_cell fall (λ v c. c < bound → (v ≢ g.to u d) × (c ≡ get_or costs v 0)) (λ l. absurd (omega (arith, offer_from))) (λ v e l. (e, refl))

      after_relaxed : (v : ℕ) → v < g.cells → get_or after v 0 < bound → Relaxed g after v ⊎ (1 ≤ occ v waiting)
      after_relaxed v h b =
          let e = after_below v b in
          ⊎_elim (λ r. inl (fallen_relaxed fall v e.0 r)) inr (w.relaxed v h (omega (arith, e.1)))

      -- what is left to show is about the list
      made : (later' : List ℕ) → ((v : ℕ) → v < g.cells → get_or after v 0 < bound → occ v later' ≡ 0)
          → ((v : ℕ) → v < g.cells → bound ≤ get_or after v 0 → occ v waiting + occ v later' + mark (get_or after v 0) ≡ 1)
          → ((v : ℕ) → g.cells ≤ v → occ v waiting + occ v later' ≡ 0) → Wave g least s after bound waiting later'
      made later' p l o = record {
        covers = length-set costs (g.to u d) (get_or costs u 0 + g.cost u d) ∙ w.covers;
        small = λ v. omega (arith, fallen_lower fall v, w.small v);
        origin = omega (arith, fallen_lower fall s, w.origin);
        sound = fallen_sound fall s w.sound;
        reach = λ v ds x b. omega (arith, fallen_lower fall v, w.reach v ds x b);
        top = w.top;
        relaxed = after_relaxed;
        passed = p;
        listed = l;
        inside = o;
        near = by_cell fall (λ v c. 1 ≤ occ v waiting → bound ≤ c + least) (λ m. omega (arith, offer_from)) (λ v e m. w.near v m);
      }

      -- a cell that had a cost stays where it is listed
      pub offer_known : get_or costs (g.to u d) 0 ≢ MARK → Wave g least s after bound waiting later
      offer_known m = made later
          (λ v h b. w.passed v h (omega (arith, (after_below v b).1)))
          (by_cell fall (λ v c. v < g.cells → bound ≤ c → occ v waiting + occ v later + mark c ≡ 1)
          (λ h b. omega (arith, w.listed (g.to u d) h (omega (arith, falls)), mark_not (get_or costs (g.to u d) 0) m, fallen_mark fall))
          (λ v e h b. w.listed v h b))
          w.inside

      -- a cell that had none joins those that wait for later
      pub offer_new : get_or costs (g.to u d) 0 ≡ MARK → Wave g least s after bound waiting (later ++ (g.to u d ∷ []))
      offer_new m = made (later ++ (g.to u d ∷ []))
          (λ v h b. let a = after_below v b in
          occ_snoc v (g.to u d) later ∙ omega (arith, w.passed v h (omega (arith, a.1)), occ_there v (g.to u d) [] (λ e. a.0 (sym e)), occ_none v))
          (by_cell fall (λ v c. v < g.cells → bound ≤ c → occ v waiting + occ v (later ++ (g.to u d ∷ [])) + mark c ≡ 1)
          (λ h b.
          omega (
            arith,
            w.listed (g.to u d) h (omega (arith, falls)),
            mark_is (get_or costs (g.to u d) 0) m,
            fallen_mark fall,
            occ_snoc (g.to u d) (g.to u d) later,
            occ_here (g.to u d) [],
            occ_none (g.to u d),
          ))
          (λ v e h b. omega (arith, w.listed v h b, occ_snoc v (g.to u d) later, occ_there v (g.to u d) [] (λ z. e (sym z)), occ_none v)))
          (λ v h. omega (arith, w.inside v h, occ_snoc v (g.to u d) later, occ_there v (g.to u d) [] (omega (arith, law.enters u d k)), occ_none v))

  -- the next cell u of the band
  module _ {costs : List ℕ} {bound u : ℕ} {rest later : List ℕ} (w : Wave g least s costs bound (u ∷ rest) later) where
    pub next_inside : u < g.cells
    next_inside = go (dec_lt u g.cells)
      where
        go : Dec (u < g.cells) → u < g.cells
        go (yes h) = h
        go (no h) = absurd (omega (arith, w.inside u (omega arith), occ_here u rest))

    next_known : get_or costs u 0 ≢ MARK
    next_known e = omega (arith, w.listed u next_inside (omega (arith, w.top)), mark_is (get_or costs u 0) e, occ_here u rest)

    pub next_near : bound ≤ get_or costs u 0 + least
    next_near = w.near u (omega (arith, occ_here u rest))

    -- its steps are taken
    pub next_done : get_or costs u 0 < bound → Relaxed g costs u → Wave g least s costs bound rest later
    next_done b r = record {
      covers = w.covers;
      small = w.small;
      origin = w.origin;
      sound = w.sound;
      reach = w.reach;
      top = w.top;
      relaxed = λ v h l. go v h l (ℕ_discrete u v);
      passed = w.passed;
      listed = λ v h l. omega (arith, w.listed v h l, occ_there v u rest (λ e. absurd (omega (arith, ap (λ (x : ℕ). get_or costs x 0) e))));
      inside = λ v h. omega (arith, w.inside v h, occ_fewer v u rest);
      near = λ v m. w.near v (omega (arith, occ_fewer v u rest));
    }
      where
        go : (v : ℕ) → v < g.cells → get_or costs v 0 < bound → Dec (u ≡ v) → Relaxed g costs v ⊎ (1 ≤ occ v rest)
        go v h l (yes e) = inl (subst (Relaxed g costs) e r)
        go v h l (no e) = ⊎_elim inl (λ m. inr (omega (arith, occ_there v u rest e))) (w.relaxed v h l)

    -- or it waits for a later band
    pub next_kept : bound ≤ get_or costs u 0 → Wave g least s costs bound rest (later ++ (u ∷ []))
    next_kept b = record {
      covers = w.covers;
      small = w.small;
      origin = w.origin;
      sound = w.sound;
      reach = w.reach;
      top = w.top;
      relaxed = λ v h l. ⊎_elim inl (λ m. inr (omega (arith, apart v (other v l)))) (w.relaxed v h l);
      passed = λ v h l. omega (arith, w.passed v h l, apart v (other v l));
      listed = λ v h l. omega (arith, w.listed v h l, same v);
      inside = λ v h. omega (arith, w.inside v h, same v);
      near = λ v m. w.near v (omega (arith, occ_fewer v u rest));
    }
      where
        -- u goes from one list to the other
        apart : (v : ℕ) → u ≢ v → (occ v (u ∷ rest) ≡ occ v rest) × (occ v (later ++ (u ∷ [])) ≡ occ v later)
        apart v e = (occ_there v u rest e, omega (arith, occ_snoc v u later, occ_there v u [] e, occ_none v))

        same : (v : ℕ) → occ v rest + occ v (later ++ (u ∷ [])) ≡ occ v (u ∷ rest) + occ v later
        same v = go (ℕ_discrete u v)
          where
            go : Dec (u ≡ v) → occ v rest + occ v (later ++ (u ∷ [])) ≡ occ v (u ∷ rest) + occ v later
            go (yes e) =
                subst (λ (x : ℕ). occ v rest + occ v (later ++ (x ∷ [])) ≡ occ v (x ∷ rest) + occ v later) (sym e)
                (omega (arith, occ_snoc v v later, occ_here v [], occ_here v rest, occ_none v))
            go (no e) = omega (arith, apart v e)

        other : (v : ℕ) → get_or costs v 0 < bound → u ≢ v
        other v l e = omega (arith, ap (λ (x : ℕ). get_or costs x 0) e)

  -- the steps from u, one direction after the other
  module _ {costs : List ℕ} {bound u d : ℕ} {waiting later : List ℕ} (x : Taking g least s u d costs bound waiting later) where
    -- the step in direction d is not allowed, or offers no less
    pub take_none : (T (g.allowed u d) → get_or costs (g.to u d) 0 ≤ get_or costs u 0 + g.cost u d) → Taking g least s u (suc d) costs bound waiting later
    take_none k = record {
      wave = x.wave;
      below = x.below;
      offered = one_more (λ e. T (g.allowed u e) → get_or costs (g.to u e) 0 ≤ get_or costs u 0 + g.cost u e) d x.offered k;
    }

    -- it is allowed and offers less: the cost of the cell entered falls, and the wave goes on with that
    pub take_falls : (k : T (g.allowed u d)) → bound ≤ get_or costs u 0 + least → get_or costs u 0 + g.cost u d < get_or costs (g.to u d) 0
        → (later' : List ℕ) → Wave g least s (set costs (g.to u d) (get_or costs u 0 + g.cost u d)) bound waiting later'
        → Taking g least s u (suc d) (set costs (g.to u d) (get_or costs u 0 + g.cost u d)) bound waiting later'
    take_falls k r f later' w =
        let y = fall x.wave u d k r f in
        record { wave = w; below = omega (arith, fallen_same y, x.below); offered = fallen_offered y x.offered }

  -- after the last direction u is relaxed
  pub take_all : {costs : List ℕ} {bound u : ℕ} {waiting later : List ℕ} → Taking g least s u g.directions costs bound waiting later → Relaxed g costs u
  take_all {u = u} x d k = x.offered d (law.numbered u d k) k

  -- between two bands: no cell waits, and none of the others has a cost below `low`
  module _ {costs : List ℕ} {bound : ℕ} {later : List ℕ} (w : Wave g least s costs bound [] later) (low : ℕ)
      (lowest : (v : ℕ) → 1 ≤ occ v later → low ≤ get_or costs v 0) (small : low ≤ MARK) where
    -- then every cell below `low` is relaxed
    low_relaxed : (v : ℕ) → v < g.cells → get_or costs v 0 < low → Relaxed g costs v
    low_relaxed v h l = go (dec_lt (get_or costs v 0) bound)
      where
        go : Dec (get_or costs v 0 < bound) → Relaxed g costs v
        go (yes b) = ⊎_elim (λ r. r) (λ m. absurd (omega (arith, occ_none v))) (w.relaxed v h b)
        go (no b) =
            let m = mark_not (get_or costs v 0) (omega arith) in
            absurd (omega (arith, lowest v (omega (arith, w.listed v h (omega arith), occ_none v))))

    -- so no route below `low` and one least step was missed
    along : (ds : List ℕ) (u a : ℕ) → T (walks g u ds) → get_or costs u 0 ≤ a → a + cost_of g u ds < low + least
        → get_or costs (ends g u ds) 0 ≤ a + cost_of g u ds
    along [] u a x c l = omega arith
    along (d ∷ ds) u a x c l =
        let h = T_and (g.allowed u d) (walks g (g.to u d) ds) x in
        let r = low_relaxed u (law.leaves u d h.0) (omega (arith, law.at_least u d h.0)) d h.0 in
        omega (arith, along ds (g.to u d) (a + g.cost u d) h.1 (omega (arith, r)) (omega arith))

    pub reached : (v : ℕ) (ds : List ℕ) → Route g s v ds → cost_of g s ds < low + least → get_or costs v 0 ≤ cost_of g s ds
    reached v ds x b =
        let a = rw x.arrives at (along ds s 0 x.allowed (omega (arith, w.origin)) (omega arith)) in
        omega (arith, a)

    -- the bound rises, by one least step above `low` at most: those that waited for later are the next band
    pub advance : bound ≤ low → (c : ℕ) → low < c → c ≤ low + least → c ≤ MARK → Wave g least s costs c later []
    advance rises c above narrow fits = record {
      covers = w.covers;
      small = w.small;
      origin = w.origin;
      sound = w.sound;
      reach = λ v ds x l. reached v ds x (omega arith);
      top = fits;
      relaxed = λ v h l. go v h l (dec_lt (get_or costs v 0) bound);
      passed = λ v h l. occ_none v;
      listed = λ v h l. omega (arith, w.listed v h (omega arith), occ_none v);
      inside = λ v h. omega (arith, w.inside v h, occ_none v);
      near = λ v m. omega (arith, lowest v m);
    }
      where
        go : (v : ℕ) → v < g.cells → get_or costs v 0 < c → Dec (get_or costs v 0 < bound) → Relaxed g costs v ⊎ (1 ≤ occ v later)
        go v h l (yes b) = ⊎_elim inl (λ m. absurd (omega (arith, occ_none v))) (w.relaxed v h b)
        go v h l (no b) = inr (omega (arith, w.listed v h (omega arith), occ_none v, mark_not (get_or costs v 0) (omega (arith, fits))))

    -- where `low` is the cost of a cell that waits, it is that cell's least cost, and leaves room for a step
    pub low_fits : s < g.cells → (v : ℕ) → 1 ≤ occ v later → get_or costs v 0 ≡ low → low + most < MARK
    low_fits i v m e =
        let k = waits w v m in
        let r = w.sound v k.0 k.2 in
        least_fits i v low
        (record { way = r.0; route = r.1; costs = r.2 ∙ e; none_less = λ ds x. go ds x (dec_lt (cost_of g s ds) (low + least)) })
      where
        go : (ds : List ℕ) → Route g s v ds → Dec (cost_of g s ds < low + least) → low ≤ cost_of g s ds
        go ds x (yes l) = omega (arith, reached v ds x l)
        go ds x (no l) = omega arith

  -- where only the start has a cost
  pub begin : (costs : List ℕ) → length costs ≡ g.cells → s < g.cells → get_or costs s 0 ≡ 0
      → ((v : ℕ) → v < g.cells → v ≢ s → get_or costs v 0 ≡ MARK) → Wave g least s costs 0 [] (s ∷ [])
  begin costs l i o m =
      let f : Fresh g s costs = record { covers = l; start = i; origin = o; others = m } in
      record {
        covers = l;
        small = start_small f;
        origin = o;
        sound = start_sound f;
        reach = λ v ds x b. absurd (omega arith);
        top = omega arith;
        relaxed = λ v h b. absurd (omega arith);
        passed = λ v h b. absurd (omega arith);
        listed = λ v h b. omega (arith, occ_none v, start_listed f v h);
        inside = λ v h. omega (arith, occ_none v, start_inside f v h);
        near = λ v k. absurd (omega (arith, occ_none v));
      }
