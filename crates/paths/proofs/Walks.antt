-- Laws of routes: appending, one step more at the end, and the last step of a route that is not empty.
use mathlib.Core.Path.{◌≡◌, refl, sym, ◌∙◌, ap, subst}
use mathlib.Core.Logic.{◌≢◌}
use mathlib.Core.Bool.{true}
use mathlib.Core.List.{List, [], ◌∷◌, ◌++◌}
use Prim.Native.Nat.{ℕ, ◌+◌}
use native.Mathlib.Omega.{arith}
use lib.Dec.{T}
use Rattle.paths.specs.Graph.{Graph}
use Rattle.paths.specs.Route.{walks, ends, cost_of, Route}
use Rattle.paths.proofs.Bools.{and_T, T_and}

-- a route that is not empty, as its front and its last step, from cell u in direction d
pub record Ending (g : Graph) (s v : ℕ) (es : List ℕ) : Type 0 where
  pub front : List ℕ
  pub d : ℕ
  pub u : ℕ
  pub whole : es ≡ front ++ (d ∷ [])
  pub route : Route g s u front
  pub steps : T (g.allowed u d)
  pub lands : g.to u d ≡ v
  pub costs : cost_of g s es ≡ cost_of g s front + g.cost u d

last_of : (d : ℕ) (ds : List ℕ) → (es : List ℕ) × (e : ℕ) × (d ∷ ds ≡ es ++ (e ∷ []))
last_of d [] = ([], d, refl)
last_of d (c ∷ ds) = let r = last_of c ds in (d ∷ r.0, r.1, ap {B = List ℕ} (λ l. d ∷ l) r.2)

module _ (g : Graph) where
  pub ends_append : (u : ℕ) (a b : List ℕ) → ends g u (a ++ b) ≡ ends g (ends g u a) b
  ends_append u [] b = refl
  ends_append u (d ∷ a) b = ends_append (g.to u d) a b

  pub cost_append : (u : ℕ) (a b : List ℕ) → cost_of g u (a ++ b) ≡ cost_of g u a + cost_of g (ends g u a) b
  cost_append u [] b = omega arith
  cost_append u (d ∷ a) b = omega (arith, cost_append (g.to u d) a b)

  pub walks_append : (u : ℕ) (a b : List ℕ) → T (walks g u a) → T (walks g (ends g u a) b) → T (walks g u (a ++ b))
  walks_append u [] b p q = q
  walks_append u (d ∷ a) b p q =
      let h = T_and (g.allowed u d) (walks g (g.to u d) a) p in
      and_T (g.allowed u d) _ h.0 (walks_append (g.to u d) a b h.1 q)

  pub append_walks : (u : ℕ) (a b : List ℕ) → T (walks g u (a ++ b)) → T (walks g u a) × T (walks g (ends g u a) b)
  append_walks u [] b p = (tt, p)
  append_walks u (d ∷ a) b p =
      let h = T_and (g.allowed u d) (walks g (g.to u d) (a ++ b)) p in
      let k = append_walks (g.to u d) a b h.1 in
      (and_T (g.allowed u d) (walks g (g.to u d) a) h.0 k.0, k.1)

  -- the empty route
  pub stay : (s : ℕ) → Route g s s []
  stay s = record { allowed = tt; arrives = refl }

  -- a route and one step more
  pub snoc : (s u d : ℕ) (ds : List ℕ) → Route g s u ds → T (g.allowed u d)
      → Route g s (g.to u d) (ds ++ (d ∷ [])) × (cost_of g s (ds ++ (d ∷ [])) ≡ cost_of g s ds + g.cost u d)
  snoc s u d ds r k =
      let e = r.arrives in
      let k' : T (g.allowed (ends g s ds) d) = rw e k in (
        record {
          allowed = walks_append s ds (d ∷ []) r.allowed (and_T (g.allowed (ends g s ds) d) true k' tt);
          arrives = ends_append s ds (d ∷ []) ∙ rw e;
        },
        cost_append s ds (d ∷ []) ∙ rw e (omega arith),
      )

  pub ending_cons : (s v d₀ : ℕ) (ds : List ℕ) → Route g s v (d₀ ∷ ds) → Ending g s v (d₀ ∷ ds)
  ending_cons s v d₀ ds w = let l = last_of d₀ ds in go l.0 l.1 l.2 (subst (λ (x : List ℕ). Route g s v x) l.2 w)
    where
      go : (fs : List ℕ) (e : ℕ) → d₀ ∷ ds ≡ fs ++ (e ∷ []) → Route g s v (fs ++ (e ∷ [])) → Ending g s v (d₀ ∷ ds)
      go fs e q w =
          let a = append_walks s fs (e ∷ []) w.allowed in
          record {
            front = fs;
            d = e;
            u = ends g s fs;
            whole = q;
            route = record { allowed = a.0; arrives = refl };
            steps = (T_and (g.allowed (ends g s fs) e) true a.1).0;
            lands = sym (ends_append s fs (e ∷ [])) ∙ w.arrives;
            costs = ap (λ (x : List ℕ). cost_of g s x) q ∙ cost_append s fs (e ∷ []) ∙ omega arith;
          }

  -- a route to another cell than its start
  pub ending : (s v : ℕ) → v ≢ s → (es : List ℕ) → Route g s v es → Ending g s v es
  ending s v n [] w = absurd (n (sym w.arrives))
  ending s v n (d₀ ∷ ds) w = ending_cons s v d₀ ds w
