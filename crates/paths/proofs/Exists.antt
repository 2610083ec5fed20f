-- One right table: whether a route to v costs exactly c is decided by induction on c; the least such c below MARK, or MARK, is v's value
use mathlib.Core.Path.{◌≡◌, refl, sym, ◌∙◌, subst}
use mathlib.Core.Logic.{◌≢◌}
use mathlib.Core.List.{List, [], ◌∷◌, ◌++◌}
use Prim.Native.Nat.{ℕ, zero, suc, ◌-◌, ◌≤◌, ◌<◌}
use native.Mathlib.Omega.{arith}
use native.Mathlib.Decide.{ℕ_discrete, dec_le}
use lib.Dec.{T}
use lib.ListN.{get_or}
use lib.Seq.{ext_get_or}
use Rattle.paths.specs.Below.{values}
use Rattle.paths.specs.Graph.{Graph, Lawful, MARK}
use Rattle.paths.specs.Route.{cost_of, Route, Least}
use Rattle.paths.specs.Table.{Right}
use Rattle.paths.proofs.Bools.{dec_T}
use Rattle.paths.proofs.Below.{length_values, get_d_values}
use Rattle.paths.proofs.Walks.{snoc, stay, ending, ending_cons}
use Rattle.paths.proofs.Ground.{Tight, grounded_right}

pub least_unique : (g : Graph) (s v c c' : ℕ) → Least g s v c → Least g s v c' → c ≡ c'
least_unique g s v c c' l l' =
    let a = l.none_less l'.way l'.route in
    let b = l'.none_less l.way l.route in
    omega (arith, l.costs, l'.costs)

pub right_unique : (g : Graph) (s : ℕ) (t t' : List ℕ) → Right g s t → Right g s t' → t ≡ t'
right_unique g s t t' r r' = ext_get_or 0 t t' (r.covers ∙ sym r'.covers) λ v h.
    let h' : v < g.cells = omega (arith, r.covers) in
    go v h' (ℕ_discrete (get_or t v 0) MARK) (ℕ_discrete (get_or t' v 0) MARK)
  where
    go : (v : ℕ) → v < g.cells → Dec (get_or t v 0 ≡ MARK) → Dec (get_or t' v 0 ≡ MARK) → get_or t v 0 ≡ get_or t' v 0
    go v h (yes p) (yes q) = p ∙ sym q
    go v h (yes p) (no q) = let l = r'.reached v h q in absurd (r.closed v h p l.way l.route)
    go v h (no p) (yes q) = let l = r.reached v h p in absurd (r'.closed v h q l.way l.route)
    go v h (no p) (no q) = least_unique g s v _ _ (r.reached v h p) (r'.reached v h q)

dec_some : (P : ℕ → Type 0) → ((d : ℕ) → Dec (P d)) → (n : ℕ) → Dec ((d : ℕ) × (d < n) × P d)
dec_some P dec zero = no (λ x. omega (arith, x.1))
dec_some P dec (suc n) = go (dec n) (dec_some P dec n)
  where
    go : Dec (P n) → Dec ((d : ℕ) × (d < n) × P d) → Dec ((d : ℕ) × (d < suc n) × P d)
    go (yes p) r = yes (n, omega arith, p)
    go (no p) (yes r) = yes (r.0, omega (arith, r.1), r.2)
    go (no p) (no r) = no (λ x. neither x (ℕ_discrete x.0 n))
      where
        neither : (x : (d : ℕ) × (d < suc n) × P d) → Dec (x.0 ≡ n) → ⊥
        neither x (yes e) = p (subst P e x.2)
        neither x (no e) = r (x.0, omega (arith, x.1), x.2)

-- the least number that has a property, if it is below n; else n
record LeastBelow (P : ℕ → Type 0) (n : ℕ) : Type 0 where
  c : ℕ
  small : c ≤ n
  has : c ≢ n → P c
  minimal : (b : ℕ) → P b → c ≤ b

least_below : (P : ℕ → Type 0) → ((c : ℕ) → Dec (P c)) → (n : ℕ) → LeastBelow P n
least_below P dec zero = record { c = 0; small = omega arith; has = λ h. absurd (h refl); minimal = λ b p. omega arith }
least_below P dec (suc n) = let x = least_below P dec n in go x (ℕ_discrete x.c n) (dec n)
  where
    go : (x : LeastBelow P n) → Dec (x.c ≡ n) → Dec (P n) → LeastBelow P (suc n)
    go x (no e) q = record { c = x.c; small = omega (arith, x.small); has = λ h. x.has e; minimal = x.minimal }
    go x (yes e) (yes q) = record { c = n; small = omega arith; has = λ h. q; minimal = λ b p. omega (arith, x.minimal b p) }
    go x (yes e) (no q) = record { c = suc n; small = omega arith; has = λ h. absurd (h refl); minimal = λ b p. past b p (ℕ_discrete b n) }
      where
        past : (b : ℕ) → P b → Dec (b ≡ n) → suc n ≤ b
        past b p (yes z) = absurd (q (subst P z p))
        past b p (no z) = omega (arith, x.minimal b p)

-- some route to v costs exactly c
abbrev Costed : Graph → ℕ → ℕ → ℕ → Type 0
Costed g s v c = (ds : List ℕ) × Route g s v ds × (cost_of g s ds ≡ c)

module _ {g : Graph} {least most : ℕ} (law : Lawful g least most) (s : ℕ) where
  -- a last step in direction d, from cell u into v, of a route of cost c
  abbrev LastFrom : ℕ → ℕ → ℕ → ℕ → Type 0
  LastFrom v c d u = T (g.allowed u d) × (g.to u d ≡ v) × (g.cost u d ≤ c) × Costed g s u (c - g.cost u d)

  abbrev Last : ℕ → ℕ → ℕ → Type 0
  Last v c d = LastFrom v c d (g.from v d)

  last_costed : (v c d : ℕ) → Last v c d → Costed g s v c
  last_costed v c d x =
      let l = snoc g s (g.from v d) d x.3.0 x.3.1 x.0 in
      (x.3.0 ++ (d ∷ []), rw x.1 at l.0, omega (arith, l.1, x.3.2, x.2))

  costed_last : (v c d₀ : ℕ) (ds : List ℕ) → Route g s v (d₀ ∷ ds) → cost_of g s (d₀ ∷ ds) ≡ c → (d : ℕ) × (d < g.directions) × Last v c d
  costed_last v c d₀ ds w e =
      let x = ending_cons g s v d₀ ds w in
      let q : x.u ≡ g.from v x.d = sym (rw x.lands at (law.back x.u x.d x.steps)) in (
        x.d,
        law.numbered x.u x.d x.steps,
        subst (LastFrom v c x.d) q (x.steps, x.lands, omega (arith, x.costs), (x.front, x.route, omega (arith, x.costs))),
      )

  dec_costed : (k c v : ℕ) → c < k → Dec (Costed g s v c)
  dec_costed zero c v h = absurd (omega arith)
  dec_costed (suc k) c v h = go (dec_some (Last v c) (dec_last (dec_costed k)) g.directions) (ℕ_discrete v s) (ℕ_discrete c 0)
    where
      dec_last : ((c v : ℕ) → c < k → Dec (Costed g s v c)) → (d : ℕ) → Dec (Last v c d)
      dec_last ih d = step (dec_T (g.allowed (g.from v d) d)) (ℕ_discrete (g.to (g.from v d) d) v) (dec_le (g.cost (g.from v d) d) c)
        where
          step : Dec (T (g.allowed (g.from v d) d)) → Dec (g.to (g.from v d) d ≡ v) → Dec (g.cost (g.from v d) d ≤ c) → Dec (Last v c d)
          step (no a) y z = no (λ x. a x.0)
          step (yes a) (no b) z = no (λ x. b x.1)
          step (yes a) (yes b) (no e) = no (λ x. e x.2)
          step (yes a) (yes b) (yes e) =
              before (ih (c - g.cost (g.from v d) d) (g.from v d) (omega (arith, law.at_least (g.from v d) d a, law.positive)))
            where
              before : Dec (Costed g s (g.from v d) (c - g.cost (g.from v d) d)) → Dec (Last v c d)
              before (yes p) = yes (a, b, e, p)
              before (no p) = no (λ x. p x.3)

      never : (v ≡ s → c ≡ 0 → ⊥) → ((d : ℕ) × (d < g.directions) × Last v c d → ⊥) → Costed g s v c → ⊥
      never a b x = look x.0 x.1 x.2
        where
          look : (ds : List ℕ) → Route g s v ds → cost_of g s ds ≡ c → ⊥
          look [] w e = a (sym w.arrives) (sym e)
          look (d ∷ ds) w e = b (costed_last v c d ds w e)

      go : Dec ((d : ℕ) × (d < g.directions) × Last v c d) → Dec (v ≡ s) → Dec (c ≡ 0) → Dec (Costed g s v c)
      go (yes q) a b = yes (last_costed v c q.0 q.2)
      go (no q) (yes e) (yes z) = yes ([], record { allowed = tt; arrives = sym e }, sym z)
      go (no q) (yes e) (no z) = no (never (λ a b. z b) q)
      go (no q) (no e) b = no (never (λ a b. e a) q)

  -- v's value, and the table of the values
  value : (v : ℕ) → LeastBelow (Costed g s v) MARK
  value v = least_below (Costed g s v) (λ c. dec_costed (suc c) c v (omega arith)) MARK

  table_of : List ℕ
  table_of = values (λ v. (value v).c) g.cells

  module _ (i : s < g.cells) where
    at : (v : ℕ) → v < g.cells → get_or table_of v 0 ≡ (value v).c
    unfolding table_of
    at v h = get_d_values (λ v. (value v).c) g.cells v h

    small : (v : ℕ) → v < g.cells → get_or table_of v 0 ≤ MARK
    small v h = omega (arith, at v h, (value v).small)

    has : (v : ℕ) → v < g.cells → get_or table_of v 0 ≢ MARK → Costed g s v (get_or table_of v 0)
    has v h m = subst (Costed g s v) (sym (at v h)) ((value v).has (λ e. m (at v h ∙ e)))

    minimal : (v : ℕ) → v < g.cells → (ds : List ℕ) → Route g s v ds → get_or table_of v 0 ≤ cost_of g s ds
    minimal v h ds w = omega (arith, at v h, (value v).minimal (cost_of g s ds) (ds, w, refl))

    tight : Tight g table_of
    tight u d k m =
        let y = has u (law.leaves u d k) m in
        let w = snoc g s u d y.0 y.1 k in
        omega (arith, minimal (g.to u d) (law.enters u d k) (y.0 ++ (d ∷ [])) w.0, w.1, y.2)

    table_right : Right g s table_of
    unfolding table_of
    table_right = grounded_right law s table_of
        (record {
          covers = length_values (λ v. (value v).c) g.cells;
          origin = omega (arith, minimal s i [] (stay g s));
          parent = λ v h n m.
              let y = has v h m in
              let x = ending g s v n y.0 y.1 in
              let a = minimal x.u (law.leaves x.u x.d x.steps) x.front x.route in
              let p = law.at_least x.u x.d x.steps in
              let k : get_or table_of x.u 0 ≢ MARK = omega (arith, x.costs, y.2, small v h, law.positive) in
              let b = rw x.lands at (tight x.u x.d x.steps k) in
              record { u = x.u; d = x.d; steps = x.steps; lands = x.lands; known = k; sum = omega (arith, x.costs, y.2) };
        })
        tight

    pub right_exists : (t : List ℕ) × Right g s t
    right_exists = (table_of, table_right)
