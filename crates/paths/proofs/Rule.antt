-- The rule holds everywhere exactly when the table is right: a cell's due is the least of its offers, so the rule says grounded and tight, and back
use mathlib.Core.Path.{◌≡◌, refl, sym, ◌∙◌, ap, subst}
use mathlib.Core.Logic.{◌≢◌, ◌⊎◌, inl, inr}
use mathlib.Core.Bool.{not, ◌&&◌}
use mathlib.Core.List.{List, [], ◌∷◌, ◌++◌}
use Rattle.std.specs.Prelude.{Option, None, Some, unwrap_or}
use Prim.Native.Nat.{ℕ, zero, suc, ◌+◌, ◌≤◌, ◌<◌, min}
use native.Mathlib.Omega.{arith}
use native.Mathlib.Decide.{ℕ_discrete, dec_le}
use borrow.Author.Tests.{eq-eqb, ne_eqb}
use lib.Dec.{T, eqb, eqb→eq}
use lib.ListN.{get_or}
use Rattle.paths.specs.Graph.{Graph, Lawful, MARK}
use Rattle.paths.specs.Sum.{Offers}
use Rattle.paths.specs.Table.{Right, offer, smaller, smallest, due, keeps, Obeys}
use Rattle.paths.proofs.Bools.{T_true, T_and, eq_T, not_eqb_ne, cond_some}
use Rattle.paths.proofs.Walks.{snoc}
use Rattle.paths.proofs.Ground.{Parent, Grounded, Tight, grounded_right, right_grounded, right_tight}

some_inj : {a b : ℕ} → Some a ≡ Some b → a ≡ b
some_inj e = cc

smaller_left : (a b : Option ℕ) (c : ℕ) → a ≡ Some c → (k : ℕ) × (smaller a b ≡ Some k) × (k ≤ c)
smaller_left None b c e = let z : ◌≡◌ {A = ℕ} 0 1 = cc in absurd (omega arith)
smaller_left (Some a) None c e = (a, refl, let z : a ≡ c = cc in omega arith)
smaller_left (Some a) (Some b) c e = (min a b, refl, let z : a ≡ c = cc in omega arith)

smaller_right : (a b : Option ℕ) (c : ℕ) → b ≡ Some c → (k : ℕ) × (smaller a b ≡ Some k) × (k ≤ c)
smaller_right None b c e = (c, e, omega arith)
smaller_right (Some a) None c e = let z : ◌≡◌ {A = ℕ} 0 1 = cc in absurd (omega arith)
smaller_right (Some a) (Some b) c e = (min a b, refl, let z : b ≡ c = cc in omega arith)

smaller_some : (a b : Option ℕ) (c : ℕ) → smaller a b ≡ Some c → (a ≡ Some c) ⊎ (b ≡ Some c)
smaller_some None b c e = inr e
smaller_some (Some a) None c e = inl e
smaller_some (Some a) (Some b) c e = go (dec_le a b)
  where
    go : Dec (a ≤ b) → (Some a ≡ Some c) ⊎ (Some b ≡ Some c)
    go (yes h) = let z : min a b ≡ a = omega arith in inl (cc)
    go (no h) = let z : min a b ≡ b = omega arith in inr (cc)

module _ {g : Graph} {least most : ℕ} (law : Lawful g least most) (s : ℕ) (t : List ℕ) where
  -- an offer is a step into v from a cell with a value, and every such step is an offer
  pub offer_is : (v d c : ℕ) → offer g t v d ≡ Some c → (x : Offers g t v c) × (x.d ≡ d)
  unfolding offer
  offer_is v d c e =
      let u = g.from v d in
      let h = cond_some (g.allowed u d && eqb (g.to u d) v && not (eqb (get_or t u 0) MARK)) (get_or t u 0 + g.cost u d) c e in
      let a = T_and (g.allowed u d && eqb (g.to u d) v) (not (eqb (get_or t u 0) MARK)) h.0 in
      let b = T_and (g.allowed u d) (eqb (g.to u d) v) a.0 in
      (record { u = u; d = d; steps = b.0; lands = eqb→eq (g.to u d) v b.1; known = not_eqb_ne _ _ a.1; sum = h.1 }, refl)

  offer_of : (u d : ℕ) → T (g.allowed u d) → get_or t u 0 ≢ MARK → offer g t (g.to u d) d ≡ Some (get_or t u 0 + g.cost u d)
  unfolding offer
  offer_of u d k h = rw (law.back u d k, T_true (g.allowed u d) k, eq-eqb (g.to u d) (g.to u d) refl, ne_eqb (get_or t u 0) MARK h)

  pub is_offer : (v c : ℕ) (x : Offers g t v c) → offer g t v x.d ≡ Some c
  is_offer v c x = rw (x.lands, x.sum) at (offer_of x.u x.d x.steps x.known)

  -- the smallest offer is an offer, and at most each of them
  pub smallest_is : (v n c : ℕ) → smallest g t v n ≡ Some c → (d : ℕ) × (offer g t v d ≡ Some c)
  smallest_is v zero c e = let z : ◌≡◌ {A = ℕ} 0 1 = cc in absurd (omega arith)
  smallest_is v (suc n) c e = go (smaller_some (smallest g t v n) (offer g t v n) c e) (smallest_is v n c)
    where
      go : (smallest g t v n ≡ Some c) ⊎ (offer g t v n ≡ Some c) → (smallest g t v n ≡ Some c → (d : ℕ) × (offer g t v d ≡ Some c)) → (d : ℕ) × (offer g t v d ≡ Some c)
      go (inl h) ih = ih h
      go (inr h) ih = (n, h)

  smallest_le : (v n d c : ℕ) → d < n → offer g t v d ≡ Some c → (k : ℕ) × (smallest g t v n ≡ Some k) × (k ≤ c)
  smallest_le v zero d c h e = absurd (omega arith)
  smallest_le v (suc n) d c h e = go (ℕ_discrete d n) (λ l. smallest_le v n d c l e)
    where
      go : Dec (d ≡ n) → (d < n → (k : ℕ) × (smallest g t v n ≡ Some k) × (k ≤ c)) → (k : ℕ) × (smallest g t v (suc n) ≡ Some k) × (k ≤ c)
      go (yes p) ih = smaller_right (smallest g t v n) (offer g t v n) c (rw p at e)
      go (no p) ih =
          let r = ih (omega arith) in
          let q = smaller_left (smallest g t v n) (offer g t v n) r.0 r.1 in
          (q.0, q.1, omega (arith, q.2, r.2))

  pub offered : (v c : ℕ) → Offers g t v c → (k : ℕ) × (smallest g t v g.directions ≡ Some k) × (k ≤ c)
  offered v c x = smallest_le v g.directions x.d c (law.numbered x.u x.d x.steps) (is_offer v c x)

  pub due_other : (v : ℕ) (o : Option ℕ) → v ≢ s → smallest g t v g.directions ≡ o → due g s t v ≡ unwrap_or o MARK
  unfolding due
  due_other v o h e = rw (ne_eqb v s h, e)

  due_start : due g s t s ≡ 0
  unfolding due
  due_start = rw (eq-eqb s s refl)

  pub keeps_is : (v : ℕ) → T (keeps g s t v) → get_or t v 0 ≡ due g s t v
  unfolding keeps
  keeps_is v k = eqb→eq (get_or t v 0) (due g s t v) k

  is_keeps : (v : ℕ) → get_or t v 0 ≡ due g s t v → T (keeps g s t v)
  unfolding keeps
  is_keeps v e = eq_T (get_or t v 0) (due g s t v) e

  module _ (i : s < g.cells) where
    obeys_grounded : Obeys g s t → Grounded g s t
    obeys_grounded o = record {
      covers = o.covers;
      origin = keeps_is s (o.rule s i) ∙ due_start;
      parent = λ v h n m. go v h n m (smallest g t v g.directions) refl;
    }
      where
        go : (v : ℕ) → v < g.cells → v ≢ s → get_or t v 0 ≢ MARK → (x : Option ℕ) → smallest g t v g.directions ≡ x → Parent g t v
        go v h n m None e = absurd (m (keeps_is v (o.rule v h) ∙ due_other v None n e))
        go v h n m (Some c) e =
            let f = smallest_is v g.directions c e in
            subst (λ (k : ℕ). Offers g t v k) (sym (keeps_is v (o.rule v h) ∙ due_other v (Some c) n e)) (offer_is v f.0 c f.1).0

    obeys_tight : Obeys g s t → Tight g t
    obeys_tight o u d k m = go (ℕ_discrete (g.to u d) s)
      where
        go : Dec (g.to u d ≡ s) → get_or t (g.to u d) 0 ≤ get_or t u 0 + g.cost u d
        go (yes e) = omega (arith, ap (λ (x : ℕ). get_or t x 0) e, keeps_is s (o.rule s i), due_start)
        go (no e) =
            let x = offered (g.to u d) (get_or t u 0 + g.cost u d) (record { u = u; d = d; steps = k; lands = refl; known = m; sum = refl }) in
            omega (arith, keeps_is (g.to u d) (o.rule (g.to u d) (law.enters u d k)) ∙ due_other (g.to u d) (Some x.0) e x.1, x.2)

    pub obeys_right : Obeys g s t → Right g s t
    obeys_right o = grounded_right law s t (obeys_grounded o) (obeys_tight o)

    module _ (r : Right g s t) where
      grounded : Grounded g s t
      grounded = right_grounded law s t i r

      -- a cell with an offer is reachable, at no more than the offer
      reachable : (v c : ℕ) → v < g.cells → Offers g t v c → (get_or t v 0 ≢ MARK) × (get_or t v 0 ≤ c)
      reachable v c h x =
          let j = law.leaves x.u x.d x.steps in
          let l = r.reached x.u j x.known in
          let w = rw x.lands at (snoc g s x.u x.d l.way l.route x.steps).0 in
          let a = rw x.lands at (right_tight law s t i r x.u x.d x.steps x.known) in
          ((λ m. r.closed v h m (l.way ++ (x.d ∷ [])) w), omega (arith, x.sum))

      right_due : (v : ℕ) → v < g.cells → Dec (v ≡ s) → (o : Option ℕ) → smallest g t v g.directions ≡ o → Dec (get_or t v 0 ≡ MARK) → get_or t v 0 ≡ due g s t v
      right_due v h (yes e) o q m = ap (λ (x : ℕ). get_or t x 0) e ∙ grounded.origin ∙ sym due_start ∙ ap (due g s t) (sym e)
      right_due v h (no e) None q (yes m) = m ∙ sym (due_other v None e q)
      right_due v h (no e) None q (no m) =
          let y = (offered v (get_or t v 0) (grounded.parent v h e m)).1 in
          let z : ◌≡◌ {A = ℕ} 0 1 = cc in
          absurd (omega arith)
      right_due v h (no e) (Some c) q m =
          let f = smallest_is v g.directions c q in
          let a = reachable v c h (offer_is v f.0 c f.1).0 in
          let y = offered v (get_or t v 0) (grounded.parent v h e a.0) in
          let z : y.0 ≡ c = some_inj (sym y.1 ∙ q) in
          omega (arith, a.1, y.2, due_other v (Some c) e q)

      pub right_obeys : Obeys g s t
      right_obeys = record {
        covers = r.covers;
        rule = λ v h. is_keeps v (right_due v h (ℕ_discrete v s) (smallest g t v g.directions) refl (ℕ_discrete (get_or t v 0) MARK));
      }
