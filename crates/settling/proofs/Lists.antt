-- What L means: from the right table, its cells are the reachable ones and its keys rise, and so costs do not fall.
use mathlib.Core.Path.{◌≡◌, ap}
use mathlib.Core.Logic.{◌↔◌, ◌≢◌, ⊎_elim}
use mathlib.Core.Bool.{◌&&◌}
use mathlib.Core.List.{List}
use Prim.Native.Nat.{ℕ, ◌≤◌, ◌<◌}
use native.Mathlib.Omega.{arith}
use native.Mathlib.Decide.{dec_lt}
use lib.Dec.{ltb}
use lib.ListN.{length, get_or}
use Rattle.paths.specs.Below.{count}
use Rattle.paths.specs.Graph.{Graph, Lawful}
use Rattle.paths.specs.Route.{Reachable}
use Rattle.paths.specs.Table.{Right}
use Rattle.paths.proofs.Meaning.{ends_inside, reachable_known}
use Rattle.settling.specs.Order.{Before, key, known, L, place}
use Rattle.settling.proofs.Orders.{In, known_is, is_known, key_less, place_in, at_place, in_at, known_in, in_known, keys_rise, place_count}

module _ {g : Graph} {least most : ℕ} (law : Lawful g least most) (s : ℕ) (start : s < g.cells) (t : List ℕ) (right : Right g s t) where
  -- L has exactly the reachable cells, the start among them
  pub L-members : (v : ℕ) → In v (L t) ↔ Reachable g s v
  L-members v = (
    λ i. let k = in_known t v (length t) i in (reachable_known law s start t right v (omega (arith, k.0, right.covers))).1 (known_is t v k.1),
    λ x. let h = ends_inside law s start v x in known_in t v (length t) (omega (arith, right.covers)) (is_known t v ((reachable_known law s start t right v h).0 x)),
  )

  -- sorted by cost and, at equal cost, by cell number
  pub L-sorted : (i j : ℕ) → i < j → j < length (L t) → Before t (get_or (L t) i 0) (get_or (L t) j 0)
  L-sorted i j h k =
      let a = (in_known t (get_or (L t) i 0) (length t) (in_at (L t) i (omega arith))).0 in
      let b = (in_known t (get_or (L t) j 0) (length t) (in_at (L t) j k)).0 in
      key_less t (get_or (L t) i 0) (get_or (L t) j 0) (omega (arith, right.covers, law.cells_fit)) (omega (arith, right.covers, law.cells_fit))
      (keys_rise t (length t) (omega (arith, right.covers, law.cells_fit)) i j h k)

  -- costs do not fall along L
  pub L-rises : (i j : ℕ) → i ≤ j → j < length (L t) → get_or t (get_or (L t) i 0) 0 ≤ get_or t (get_or (L t) j 0) 0
  L-rises i j h k = go (dec_lt i j)
    where
      go : Dec (i < j) → get_or t (get_or (L t) i 0) 0 ≤ get_or t (get_or (L t) j 0) 0
      go (yes b) = ⊎_elim (λ x. omega arith) (λ x. omega (arith, x.0)) (L-sorted i j b k)
      go (no b) = let e : i ≡ j = omega arith in omega (arith, ap (λ (w : ℕ). get_or t (get_or (L t) w 0) 0) e)

  -- so a cell of lower cost stands at a lower place
  pub L-cheaper : (u v : ℕ) → Reachable g s u → Reachable g s v → get_or t u 0 < get_or t v 0 → place u (L t) < place v (L t)
  L-cheaper u v x y less = go (dec_lt (place u (L t)) (place v (L t)))
    where
      there : (w : ℕ) → Reachable g s w → get_or t (get_or (L t) (place w (L t)) 0) 0 ≡ get_or t w 0
      there w x = ap (λ (w : ℕ). get_or t w 0) (at_place w (L t) ((L-members w).1 x))

      go : Dec (place u (L t) < place v (L t)) → place u (L t) < place v (L t)
      go (yes h) = h
      go (no h) =
          absurd (omega (arith, less, there u x, there v y, L-rises (place v (L t)) (place u (L t)) (omega arith) (place_in u (L t) ((L-members u).1 x))))

  -- each cell once
  pub L-once : (i j : ℕ) → i < j → j < length (L t) → get_or (L t) i 0 ≢ get_or (L t) j 0
  L-once i j h k e =
      omega (arith, keys_rise t (length t) (omega (arith, right.covers, law.cells_fit)) i j h k, ap (key t) e)

  -- a cell's place in L is the number of known cells with a smaller key
  pub L-place : (v : ℕ) → Reachable g s v → place v (L t) ≡ count (λ u. known t u && ltb (key t u) (key t v)) (length t)
  L-place v x =
      let h = ends_inside law s start v x in
      place_count t v (length t) (omega (arith, right.covers, law.cells_fit)) (omega (arith, right.covers)) (is_known t v ((reachable_known law s start t right v h).0 x))
