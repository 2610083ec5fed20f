-- The walk back on a floor: `last_step` takes the step that the walk over the graph takes, the route is written backwards, and what its steps weigh is summed.
use Rattle.std.specs.Prelude.{Option, Some, None, IsSome}
use mathlib.Core.Path.{◌≡◌, refl, sym, ◌∙◌, ap, subst}
use mathlib.Core.Logic.{◌≢◌}
use mathlib.Core.List.{List, [], ◌∷◌, ◌++◌, append_assoc, reverse, reverse-reverse}
use Prim.Native.Nat.{ℕ, suc, ◌+◌, ◌≤◌, ◌<◌}
use native.Mathlib.Omega.{arith}
use native.Mathlib.Numerals.{add-one}
use native.Mathlib.Nat.{add_comm}
use lib.ListN.{length, get_or, set, take, drop, length-append, length-reverse, length-set}
use lib.Seq.{drop-cons, set_at, take-append_seam, drop-append_seam}
use Rattle.paths.specs.Graph.{MARK}
use Rattle.paths.specs.First.{last_step}
use Rattle.paths.proofs.Firsts.{reverse_snoc}
use Rattle.settling.proofs.Walking.{Walking, walking_begins, walking_goes}
use Rattle.floor.specs.declared.Floor.{Floor}
use Rattle.floor.specs.Place.{cells}
use Rattle.floor.specs.declared.RouteLength.{RouteLength}
use Rattle.floor.specs.Step.{step_weight, step_cost, greatest_cost, target, graph}
use Rattle.floor.specs.Length.{surd, step_length, length_of, route_length}
use Rattle.floor.proofs.Laws.{lawful, least_cost_bound}
use Rattle.floor.proofs.Lengths.{step_summed, weight_within}
use Rattle.walkback.specs.declared.Back.{Back}
use Rattle.walkback.specs.Walks.{HasCosts, IsLastStep, IsLast, longer_by, CanWalk}

-- One step more, as `last_step` found it
pub record WalksOn (f : Floor) (m : List ℕ) (s goal : ℕ) (costs : List ℕ) (v : ℕ) (ds : List ℕ) (r : Back) : Type 0 where
  pub next : Walking (graph f m) s goal costs r.from (ds ++ (r.direction ∷ []))
  pub lands : target f r.from r.direction ≡ v
  pub pays : get_or costs r.from 0 + step_cost m r.direction r.from v ≡ get_or costs v 0
  pub less : get_or costs r.from 0 < get_or costs v 0
  pub small : r.direction < 8
  pub inside : length ds < cells f
  pub few : length ds < MARK

module _ {f : Floor} {m : List ℕ} {s goal : ℕ} {costs : List ℕ} (can : CanWalk f m s goal costs) where
  pub walk_begins : Walking (graph f m) s goal costs goal []
  walk_begins = walking_begins can.right can.consistent can.agrees can.inside can.near

  -- the goal's cost is a least cost, which bounds all that is summed
  pub goal_bound : get_or costs goal 0 ≤ greatest_cost
  goal_bound =
      let e = can.agrees.there goal can.inside can.near.known can.near.within in
      let known : get_or can.t goal 0 ≢ MARK = λ z. can.near.known (sym e ∙ z) in
      omega (arith, e, least_cost_bound f m can.passed s goal (get_or can.t goal 0) can.starts (can.right.reached goal can.inside known))

  module _ {v : ℕ} {ds : List ℕ} (w : Walking (graph f m) s goal costs v ds) where
    pub has_costs : HasCosts f m costs v
    has_costs = record { passed = can.passed; covers = can.covers; inside = w.inside }

    -- every cell of the walk but the start has got its cost by some step
    pub walk_finds : v ≢ s → (o : Option Back) → IsLast f m costs v o → IsSome o
    walk_finds n None l = absurd (omega (arith, l, (walking_goes w (lawful f m can.passed) can.starts n).numbered))
    walk_finds n (Some r) l = refl

    pub walk_goes : v ≢ s → {o : Option Back} {r : Back} → o ≡ Some r → IsLast f m costs v o → WalksOn f m s goal costs v ds r
    walk_goes n {o} {r} e last =
        let l : IsLastStep f m costs v r = rw e at last in
        let g = graph f m in
        let law = lawful f m can.passed in
        let d = last_step g costs v in
        let x = walking_goes w law can.starts n in
        let from : r.from ≡ g.from v d = l.from ∙ ap (g.from v) l.direction in
        record {
          next = rw (l.direction, from) x.next;
          lands = rw (l.direction, from) x.lands;
          pays = rw (l.direction, from) (subst (λ (w : ℕ). get_or costs (g.from v d) 0 + step_cost m d (g.from v d) w ≡ get_or costs v 0) x.lands x.sum);
          less = rw from x.less;
          small = l.below;
          inside = omega (arith, w.fits, w.enough);
          few = omega (arith, w.fits, w.enough, law.cells_fit);
        }

-- the walk from the goal back to v has written its steps into a route's room, and l is how long the route from v is
pub record Writing (f : Floor) (m : List ℕ) (s goal : ℕ) (costs room route : List ℕ) (v : ℕ) (l : RouteLength) : Type 0 where
  pub ds : List ℕ
  pub counted : length ds ≡ l.steps
  pub summed : length_of f m v (reverse ds) ≡ surd l.p l.q
  pub within : l.p + l.q + get_or costs v 0 ≤ get_or costs goal 0
  pub walking : Walking (graph f m) s goal costs v ds
  pub written : route ≡ ds ++ drop l.steps room
  pub same_length : length route ≡ length room

-- a step before a route adds its true length to the route's
pub one_before : (f : Floor) (m : List ℕ) (u d v p q : ℕ) (ds : List ℕ) → target f u d ≡ v → length_of f m v (reverse ds) ≡ surd p q
    → length_of f m u (reverse (ds ++ (d ∷ []))) ≡ surd (p + (step_length d (step_weight m u v)).whole) (q + (step_length d (step_weight m u v)).root)
one_before f m u d v p q ds lands summed =
    let step = step_length d (step_weight m u v) in
    rw (reverse_snoc ds d, lands, summed, add_comm p step.whole, add_comm q step.root)

-- a direction is written after those that are written already
pub write_one : (room ds : List ℕ) (n d : ℕ) → length ds ≡ n → n < length room → set (ds ++ drop n room) n d ≡ (ds ++ (d ∷ [])) ++ drop (n + 1) room
write_one room ds n d e h =
    rw (drop-cons room n 0 h, set_at ds (get_or room n 0) (drop (suc n) room) d n e, add-one) (sym (append_assoc ds (d ∷ []) (drop (suc n) room)))

-- one step more of the walk, with its direction written and its weight summed
module _ {f : Floor} {m : List ℕ} {s goal : ℕ} {costs room route : List ℕ} {v : ℕ} {l : RouteLength} (can : CanWalk f m s goal costs)
    (z : Writing f m s goal costs room route v l) {r : Back} (goes : WalksOn f m s goal costs v z.ds r) where
  -- the weight of the step adds no more to what is summed than the step costs
  pub sums_fit : l.p + l.q + step_weight m r.from v ≤ MARK
  sums_fit = omega (arith, z.within, goes.pays, weight_within m r.direction r.from v goes.small, goal_bound can)

  pub writes_on : {w : ℕ} → w ≡ step_weight m r.from v → l.steps < length room
      → Writing f m s goal costs room (set route l.steps r.direction) r.from (longer_by (step_length r.direction w) l)
  writes_on {w} e h =
      let d = r.direction in
      rw e (record {
        ds = z.ds ++ (d ∷ []);
        counted = omega (arith, z.counted, length-append z.ds (d ∷ []));
        summed = one_before f m r.from d v l.p l.q z.ds goes.lands z.summed;
        within =
            omega (arith, z.within, goes.pays, weight_within m d r.from v goes.small, step_summed d (step_weight m r.from v));
        walking = goes.next;
        written = ap (λ (x : List ℕ). set x l.steps d) z.written ∙ write_one room z.ds l.steps d z.counted h;
        same_length = length-set route l.steps d ∙ z.same_length;
      })

-- where the walk has come to the start, what is summed is how long the whole route is
pub walk_measured : {f : Floor} {m : List ℕ} {s goal : ℕ} {costs room route : List ℕ} {v : ℕ} {l : RouteLength} {ds : List ℕ}
    → (z : Writing f m s goal costs room route v l) → v ≡ s → ds ≡ reverse z.ds → l ≡ route_length f m s ds
walk_measured {f} {m} {s} {goal} {costs} {room} {route} {v} {l} {ds} z here e =
    let sums : length_of f m s ds ≡ surd l.p l.q = rw (← here, e) z.summed in
    let steps : length ds ≡ l.steps = ap length e ∙ length-reverse z.ds ∙ z.counted in
    rw (steps, sums) refl

-- what was written backwards has room in the room
pub back_fits : (ds room back : List ℕ) (n : ℕ) → n ≡ length ds → back ≡ reverse ds ++ drop n room → n ≤ length back
back_fits ds room back n e w = omega (arith, ap length w, length-append (reverse ds) (drop n room), length-reverse ds)

parts : (xs ys : List ℕ) (n : ℕ) → length xs ≡ n → (take n (xs ++ ys) ≡ xs) × (drop n (xs ++ ys) ≡ ys)
parts xs ys n e = rw (← e) (take-append_seam xs ys, drop-append_seam xs ys)

-- what was written backwards, turned round, is the route
pub turned_round : (ds room back route : List ℕ) (n : ℕ) → n ≡ length ds → back ≡ reverse ds ++ drop n room
    → route ≡ reverse (take n back) ++ drop n back → route ≡ ds ++ drop n room
turned_round ds room back route n e w r =
    let p = parts (reverse ds) (drop n room) n (length-reverse ds ∙ sym e) in
    let t : take n back ≡ reverse ds = ap (take n) w ∙ p.0 in
    let d : drop n back ≡ drop n room = ap (drop n) w ∙ p.1 in
    r ∙ rw (t, d, reverse-reverse ds)
