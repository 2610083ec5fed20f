-- The search in any order: all that it does keeps the record, field by field; on a route whose sum is below every listed cell's, each cell hands its cost on.
use mathlib.Core.Path.{◌≡◌, refl, sym, ◌∙◌, subst}
use mathlib.Core.Logic.{◌≢◌, ◌⊎◌, inl, inr, ⊎_elim}
use mathlib.Core.List.{List, [], ◌∷◌, ◌++◌}
use Prim.Native.Nat.{ℕ, zero, suc, ◌+◌, ◌≤◌, ◌<◌}
use native.Mathlib.Omega.{arith}
use native.Mathlib.Decide.{ℕ_discrete, dec_lt}
use lib.Dec.{T}
use lib.ListN.{length, get_or, set, replicate, length-set, length-replicate, get_or-replicate}
use lib.Seq.{get_or-set_same, get_or-set_other}
use Rattle.paths.specs.Graph.{Graph, Lawful, MARK}
use Rattle.paths.specs.Route.{walks, ends, cost_of, Route}
use Rattle.paths.specs.Table.{Right}
use Rattle.settling.specs.Wave.{occ, mark, Relaxed}
use Rattle.settling.specs.Estimate.{Consistent}
use Rattle.settling.specs.Spread.{Stepping, Spread, Expanding}
use Rattle.paths.proofs.Bools.{T_and}
use Rattle.settling.proofs.Waves.{mark_is, mark_not, occ_here, occ_there, occ_none, occ_snoc, occ_fewer}
use Rattle.settling.proofs.Waves.{Fresh, start_small, start_sound, start_listed, start_inside}
use Rattle.settling.proofs.Waves.{one_more, Falls, fallen, by_cell, fallen_lower, fallen_mark, fallen_sound, fallen_relaxed, fallen_offered}
use Rattle.settling.proofs.Counts.{room}

pub stepping : {g : Graph} {least most : ℕ} → Lawful g least most → Stepping g
stepping law = record { leaves = law.leaves; enters = law.enters; numbered = law.numbered }

-- an entry of a list is written over
pub occ_set : (v : ℕ) (l : List ℕ) (i y : ℕ) → i < length l → occ v (set l i y) + occ v (get_or l i 0 ∷ []) ≡ occ v l + occ v (y ∷ [])
unfolding occ
occ_set v [] i y h = absurd (omega arith)
occ_set v (u ∷ l) zero y h = omega arith
occ_set v (u ∷ l) (suc i) y h = omega (arith, occ_set v l i y (omega arith))

-- an entry is taken off a list: the last one takes its place
pub occ_taken : (v : ℕ) (l : List ℕ) (last i : ℕ) → i < length l → occ v (set l i last) + occ v (get_or l i 0 ∷ []) ≡ occ v (l ++ (last ∷ []))
occ_taken v l last i h = occ_set v l i last h ∙ sym (occ_snoc v last l)

module _ {g : Graph} {s : ℕ} {costs list : List ℕ} (w : Spread g s costs list) where
  -- where two lists have each cell as often, one does for the other
  pub spread_as : {other : List ℕ} → ((v : ℕ) → occ v other ≡ occ v list) → Spread g s costs other
  spread_as e = record {
    covers = w.covers;
    small = w.small;
    origin = w.origin;
    sound = w.sound;
    relaxed = λ v h m. ⊎_elim inl (λ i. inr (omega (arith, e v))) (w.relaxed v h m);
    once = λ v h. omega (arith, w.once v h, e v);
    inside = λ v h. omega (arith, w.inside v h, e v);
  }

  pub listed_inside : (v : ℕ) → 1 ≤ occ v list → (v < g.cells) × (get_or costs v 0 ≢ MARK)
  listed_inside v l = go (dec_lt v g.cells)
    where
      go : Dec (v < g.cells) → (v < g.cells) × (get_or costs v 0 ≢ MARK)
      go (yes h) = (h, λ e. omega (arith, w.once v h, mark_is (get_or costs v 0) e))
      go (no h) = absurd (omega (arith, w.inside v (omega arith)))

  -- there is room for one more where a cell is not listed
  pub spread_room : (v : ℕ) → v < g.cells → occ v list ≡ 0 → length list < g.cells
  spread_room = room g.cells list (λ v h. omega (arith, w.once v h)) w.inside

-- where only the start has a cost
pub begin_spread : {g : Graph} {s : ℕ} (costs : List ℕ) → costs ≡ set (replicate g.cells MARK) s 0 → s < g.cells → Spread g s costs (s ∷ [])
begin_spread {g} {s} costs e i = record {
  covers = f.covers;
  small = start_small f;
  origin = f.origin;
  sound = start_sound f;
  relaxed = λ v h m. inr (omega (arith, start_listed f v h, mark_not (get_or costs v 0) m));
  once = λ v h. omega (arith, start_listed f v h);
  inside = start_inside f;
}
  where
    full : length (replicate g.cells MARK) ≡ g.cells
    full = length-replicate g.cells MARK

    f : Fresh g s costs
    f = rw e (record {
      covers = length-set (replicate g.cells MARK) s 0 ∙ full;
      start = i;
      origin = get_or-set_same (replicate g.cells MARK) s 0 0 (omega (arith, full));
      others = λ v h n. get_or-set_other (replicate g.cells MARK) s v 0 0 n ∙ get_or-replicate g.cells v MARK 0 h;
    })

module _ {g : Graph} (st : Stepping g) (s : ℕ) where
  -- the step in direction d from a listed cell u offers less than the cell entered has
  module _ {costs : List ℕ} {u : ℕ} {rest : List ℕ} (w : Spread g s costs (u ∷ rest)) (d : ℕ) (k : T (g.allowed u d))
      (falls : get_or costs u 0 + g.cost u d < get_or costs (g.to u d) 0) where
    fall : Falls g costs u d
    fall = record { steps = k; leaves = st.leaves u d k; enters = omega (arith, st.enters u d k, w.covers); less = falls; small = w.small (g.to u d) }

    pub after_lower : (v : ℕ) → get_or (fallen g costs u d) v 0 ≤ get_or costs v 0
    after_lower = fallen_lower fall

    -- the cell entered is listed afterwards, and all others as before
    made : (rest' : List ℕ) → occ (g.to u d) (u ∷ rest') ≡ 1 → ((v : ℕ) → v ≢ g.to u d → occ v (u ∷ rest') ≡ occ v (u ∷ rest))
        → Spread g s (fallen g costs u d) (u ∷ rest')
    made rest' one same = record {
      covers = length-set costs (g.to u d) (get_or costs u 0 + g.cost u d) ∙ w.covers;
      small = λ v. omega (arith, after_lower v, w.small v);
      origin = omega (arith, after_lower s, w.origin);
      sound = fallen_sound fall s w.sound;
      relaxed = by_cell fall (λ v c. v < g.cells → c ≢ MARK → Relaxed g (fallen g costs u d) v ⊎ (1 ≤ occ v (u ∷ rest')))
          (λ h m. inr (omega (arith, one)))
          (λ v e h m. ⊎_elim (λ r. inl (fallen_relaxed fall v e r)) (λ l. inr (omega (arith, same v e))) (w.relaxed v h m));
      once = by_cell fall (λ v c. v < g.cells → occ v (u ∷ rest') + mark c ≤ 1)
          (λ h. omega (arith, one, fallen_mark fall)) (λ v e h. omega (arith, w.once v h, same v e));
      inside = λ v h. omega (arith, w.inside v h, same v (λ e. absurd (omega (arith, st.enters u d k))));
    }

    -- the cell entered is listed already
    pub offer_listed : 1 ≤ occ (g.to u d) rest → Spread g s (fallen g costs u d) (u ∷ rest)
    offer_listed l = made rest (omega (arith, w.once (g.to u d) (st.enters u d k), occ_fewer (g.to u d) u rest)) (λ v e. refl)

    -- or it joins the list
    pub offer_joins : occ (g.to u d) rest ≡ 0 → Spread g s (fallen g costs u d) (u ∷ (rest ++ (g.to u d ∷ [])))
    offer_joins z = made (rest ++ (g.to u d ∷ []))
        (omega (arith, occ_snoc (g.to u d) (g.to u d) (u ∷ rest), occ_there (g.to u d) u rest other, occ_here (g.to u d) [], occ_none (g.to u d)))
        (λ v e. omega (arith, occ_snoc v (g.to u d) (u ∷ rest), occ_there v (g.to u d) [] (λ x. e (sym x)), occ_none v))
      where
        other : u ≢ g.to u d
        other e = omega (arith, falls, subst (λ (v : ℕ). get_or costs v 0 ≤ get_or costs u 0) e (omega arith))

  -- the steps from u, one direction after the other
  module _ {costs : List ℕ} {u d : ℕ} {rest : List ℕ} (x : Expanding g s u d costs rest) where
    pub expand_none : (T (g.allowed u d) → get_or costs (g.to u d) 0 ≤ get_or costs u 0 + g.cost u d) → Expanding g s u (suc d) costs rest
    expand_none k = record {
      spread = x.spread;
      offered = one_more (λ e. T (g.allowed u e) → get_or costs (g.to u e) 0 ≤ get_or costs u 0 + g.cost u e) d x.offered k;
    }

    pub expand_falls : (k : T (g.allowed u d)) → get_or costs u 0 + g.cost u d < get_or costs (g.to u d) 0
        → (rest' : List ℕ) → Spread g s (fallen g costs u d) (u ∷ rest') → Expanding g s u (suc d) (fallen g costs u d) rest'
    expand_falls k f rest' w = record { spread = w; offered = fallen_offered (fall x.spread d k f) x.offered }

  -- after the last direction u is no longer listed
  pub expanded : {costs : List ℕ} {u : ℕ} {rest : List ℕ} → Expanding g s u g.directions costs rest → Spread g s costs rest
  expanded {costs = costs} {u = u} {rest = rest} x = record {
    covers = w.covers;
    small = w.small;
    origin = w.origin;
    sound = w.sound;
    relaxed = λ v h m. go v h m (ℕ_discrete u v);
    once = λ v h. omega (arith, w.once v h, occ_fewer v u rest);
    inside = λ v h. omega (arith, w.inside v h, occ_fewer v u rest);
  }
    where
      w : Spread g s costs (u ∷ rest)
      w = x.spread

      go : (v : ℕ) → v < g.cells → get_or costs v 0 ≢ MARK → Dec (u ≡ v) → Relaxed g costs v ⊎ (1 ≤ occ v rest)
      go v h m (yes e) = inl (subst (Relaxed g costs) e (λ d k. x.offered d (st.numbered u d k) k))
      go v h m (no e) = ⊎_elim inl (λ i. inr (omega (arith, occ_there v u rest e))) (w.relaxed v h m)

  -- along a route the estimate falls by no more than the route costs
  pub estimate_route : (h : ℕ → ℕ) → Consistent g h → (ds : List ℕ) (u : ℕ) → T (walks g u ds) → h u ≤ cost_of g u ds + h (ends g u ds)
  estimate_route h c [] u x = omega arith
  estimate_route h c (d ∷ ds) u x =
      let k = T_and (g.allowed u d) (walks g (g.to u d) ds) x in
      omega (arith, c.falls u d k.0, estimate_route h c ds (g.to u d) k.1)

  -- no listed cell has a cost that is `top` or less together with its estimate
  module _ {costs list : List ℕ} (w : Spread g s costs list) (h : ℕ → ℕ) (c : Consistent g h) (top : ℕ)
      (above : (v : ℕ) → 1 ≤ occ v list → top < get_or costs v 0 + h v) (start : s < g.cells) where
    along : (ds : List ℕ) (u a : ℕ) → u < g.cells → T (walks g u ds) → get_or costs u 0 ≤ a
        → a + cost_of g u ds + h (ends g u ds) ≤ top → a + cost_of g u ds < MARK → get_or costs (ends g u ds) 0 ≤ a + cost_of g u ds
    along [] u a i x l t f = omega arith
    along (d ∷ ds) u a i x l t f =
        let k = T_and (g.allowed u d) (walks g (g.to u d) ds) x in
        let e = estimate_route h c (d ∷ ds) u x in
        let r : get_or costs (g.to u d) 0 ≤ get_or costs u 0 + g.cost u d
        = ⊎_elim (λ (q : Relaxed g costs u). q d k.0) (λ (o : 1 ≤ occ u list). absurd (omega (arith, above u o))) (w.relaxed u i (omega arith)) in
        let z = along ds (g.to u d) (a + g.cost u d) (st.enters u d k.0) k.1 (omega (arith, r)) (omega arith) (omega arith) in
        omega (arith, z)

    -- so no route below was missed
    pub reached : (v : ℕ) (ds : List ℕ) → Route g s v ds → cost_of g s ds + h v ≤ top → cost_of g s ds < MARK → get_or costs v 0 ≤ cost_of g s ds
    reached v ds x t f =
        let e = x.arrives in
        let a = along ds s 0 start x.allowed (omega (arith, w.origin)) (rw e (omega arith)) (omega arith) in
        let b = rw e at a in
        omega (arith, b)

    -- and the costs are the right ones there
    module _ (t : List ℕ) (right : Right g s t) where
      pub there : (v : ℕ) → v < g.cells → get_or costs v 0 ≢ MARK → get_or costs v 0 + h v ≤ top → get_or t v 0 ≡ get_or costs v 0
      there v i m b =
          let q = w.sound v i m in
          let r = right.reached v i (λ z. right.closed v i z q.0 q.1) in
          let l : get_or t v 0 ≤ get_or costs v 0 = omega (arith, r.none_less q.0 q.1, q.2) in
          omega (arith, r.costs, reached v r.way r.route (omega (arith, r.costs)) (omega (arith, r.costs, w.small v)))

      pub back : (v : ℕ) → v < g.cells → get_or t v 0 < MARK → get_or t v 0 + h v ≤ top → get_or costs v 0 ≡ get_or t v 0
      back v i m b =
          let r = right.reached v i (omega arith) in
          let a = reached v r.way r.route (omega (arith, r.costs)) (omega (arith, r.costs)) in
          let q = w.sound v i (omega (arith, a, r.costs)) in
          omega (arith, a, r.costs, r.none_less q.0 q.1, q.2)
