-- Neighbours by offsets in place of coordinates: a step moves a cell's number by the table's offsets, and the cells beside a diagonal step are the neighbours in the
-- two directions next to its own; by a test of every row of the table.
use mathlib.Core.Path.{◌≡◌, refl, ap}
use mathlib.Core.Logic.{◌⊎◌, inl, inr, ⊎_elim}
use mathlib.Core.Bool.{Bool, true, false, cond, not, ◌&&◌, ◌||◌}
use mathlib.Core.List.{List}
use Prim.Native.Nat.{ℕ, zero, suc, ◌+◌, ◌-◌, ◌*◌, ◌/◌, ◌%◌, ◌≤◌, ◌<◌}
use native.Mathlib.Nat.{div-add-mod'}
use native.Mathlib.Omega.{arith}
use borrow.Author.Tests.{lt-ltb, ne_eqb}
use lib.Dec.{T, eqb, ltb, eqb→eq}
use lib.ListN.{get_or}
use Rattle.paths.proofs.Bools.{T_true, T_and, T-or}
use Rattle.paths.proofs.Below.{every_at}
use Rattle.floor.specs.declared.Direction.{Direction}
use Rattle.floor.specs.declared.Floor.{Floor}
use Rattle.floor.specs.declared.Place.{Place}
use Rattle.floor.specs.Direction.{plus_one, east_of, south_of}
use Rattle.floor.specs.Place.{at, place_of, cell_at, moved_by, moved, corner, on_map, is_open}
use Rattle.floor.specs.Step.{cuts_corner}
use Rattle.floor.specs.Around.{weight_at}
use Rattle.floor.proofs.Places.{on_map_lem, on_map_test}

-- one step on from cell v by row r of the table: the map's width for each row of the map, and one for each column
pub record Offsets (f : Floor) (v : ℕ) (r : Direction) : Type 0 where
  pub rows_fit : f.width ≤ v + plus_one r.dy * f.width
  pub columns_fit : 1 ≤ v + plus_one r.dy * f.width - f.width + plus_one r.dx * 1
  pub there : v + plus_one r.dy * f.width - f.width + plus_one r.dx * 1 - 1 ≡ cell_at f (moved_by (place_of f v) r)

pub offsets : (f : Floor) (v : ℕ) (r : Direction) → T (on_map f (moved_by (place_of f v) r)) → Offsets f v r
offsets f v r t =
    let o = on_map_lem f (moved_by (place_of f v) r) t in
    let w = f.width in
    let y = plus_one r.dy in
    let rows : (v / w + y - 1 + 1) * w ≡ (v / w + y) * w = ap (λ (n : ℕ). n * w) (omega (arith, o.north)) in
    let row : (v / w + 1 + y - 1 - 1) * w ≡ (v / w + y - 1) * w = ap (λ (n : ℕ). n * w) (omega arith) in
    let whole = div-add-mod' v w in
    record {
      rows_fit = omega (arith, rows, whole);
      columns_fit = omega (arith, rows, whole, o.west);
      there = omega (arith, rows, row, whole, o.west);
    }

-- what code learns of a neighbour's weight: where it stands, and by which row it looks
pub looked : (f : Floor) (m : List ℕ) {n : ℕ} {p q : Place} {r r' : Direction} → n ≡ weight_at f m (moved_by p r) → p ≡ q → r ≡ r' → n ≡ weight_at f m (moved_by q r')
looked f m e h k = rw (← h, ← k) e

-- the weight at a place of the map is its cell's
pub there_weighs : (f : Floor) (m : List ℕ) (p : Place) → T (on_map f p) → weight_at f m p ≡ get_or m (cell_at f p) 0
unfolding weight_at
there_weighs f m p t = rw (T_true (on_map f p) t)

-- the cells beside a diagonal step lie in the directions a and b: one has its column, the other its row
record Sides (d a b : ℕ) : Type 0 where
  east : east_of a ≡ east_of d
  south : south_of a ≡ 1
  east' : east_of b ≡ 1
  south' : south_of b ≡ south_of d

abbrev are_sides : ℕ → ℕ → ℕ → Bool
are_sides d a b = (eqb (east_of a) (east_of d) && eqb (south_of a) 1) && (eqb (east_of b) 1 && eqb (south_of b) (south_of d))

sides_are : (d a b : ℕ) → T (are_sides d a b) → Sides d a b
sides_are d a b t =
    let s = T_and (eqb (east_of a) (east_of d) && eqb (south_of a) 1) (eqb (east_of b) 1 && eqb (south_of b) (south_of d)) t in
    let x = T_and (eqb (east_of a) (east_of d)) (eqb (south_of a) 1) s.0 in
    let y = T_and (eqb (east_of b) 1) (eqb (south_of b) (south_of d)) s.1 in
    record {
      east = eqb→eq (east_of a) (east_of d) x.0;
      south = eqb→eq (south_of a) 1 x.1;
      east' = eqb→eq (east_of b) 1 y.0;
      south' = eqb→eq (south_of b) (south_of d) y.1;
    }

abbrev before : ℕ → ℕ
before d = d - 1

abbrev after : ℕ → ℕ
after d = (d + 1) % 8

sides : (d : ℕ) → d < 8 → d % 2 ≡ 1 → Sides d (before d) (after d) ⊎ Sides d (after d) (before d)
sides d h odd =
    let t = every_at (λ e. eqb (e % 2) 0 || (are_sides e (before e) (after e) || are_sides e (after e) (before e))) 8 tt d h in
    ⊎_elim (λ z. absurd (omega (arith, eqb→eq (d % 2) 0 z)))
    (λ z. ⊎_elim (λ s. inl (sides_are d (before d) (after d) s)) (λ s. inr (sides_are d (after d) (before d) s)) (T-or (are_sides d (before d) (after d)) _ z))
    (T-or (eqb (d % 2) 0) _ t)

-- a cell is blocked or off the map if its weight is 0
pub open_weighs : (f : Floor) (m : List ℕ) (p : Place) → is_open f m p ≡ not (eqb (weight_at f m p) 0)
unfolding is_open weight_at
open_weighs f m p = test (on_map f p) (get_or m (cell_at f p) 0)
  where
    test : (b : Bool) (n : ℕ) → b && ltb 0 n ≡ not (eqb (cond b n 0) 0)
    test true zero = refl
    test true (suc n) = rw (lt-ltb 0 (suc n) (omega arith), ne_eqb (suc n) 0 (λ e. omega arith))
    test false n = refl

-- where there is a weight there is a cell
pub weight_there : (f : Floor) (m : List ℕ) (p : Place) → 0 < weight_at f m p → T (on_map f p) × (weight_at f m p ≡ get_or m (cell_at f p) 0)
unfolding weight_at
weight_there f m p = go (on_map f p)
  where
    go : (b : Bool) → 0 < cond b (get_or m (cell_at f p) 0) 0 → T b × (cond b (get_or m (cell_at f p) 0) 0 ≡ get_or m (cell_at f p) 0)
    go true h = (tt, refl)
    go false h = absurd (omega arith)

module _ (f : Floor) (m : List ℕ) (d : ℕ) (p : Place) where
  -- a straight step cuts no corner
  pub straight_uncut : d % 2 ≡ 0 → cuts_corner f m d p (moved p d) ≡ false
  unfolding cuts_corner
  straight_uncut e = rw e

  module _ (h : d < 8) (odd : d % 2 ≡ 1) where
    beside_is : (a b : ℕ) → Sides d a b → (corner (moved p d) p ≡ moved p a) × (corner p (moved p d) ≡ moved p b)
    beside_is a b s = (same_place (rw s.east) (omega (arith, s.south)), same_place (omega (arith, s.east')) (rw s.south'))
      where
        same_place : {x y x' y' : ℕ} → x ≡ x' → y ≡ y' → at x y ≡ at x' y'
        same_place e h = rw (e, h)

    -- a diagonal step does, unless the neighbours in the two directions next to its own are open
    pub diagonal_cuts : cuts_corner f m d p (moved p d) ≡ eqb (weight_at f m (moved p (d - 1))) 0 || eqb (weight_at f m (moved p ((d + 1) % 8))) 0
    unfolding cuts_corner
    diagonal_cuts =
        let a = moved p (before d) in
        let b = moved p (after d) in
        ⊎_elim (λ s. let c = beside_is (before d) (after d) s in rw (odd, c.0, c.1, open_weighs f m a, open_weighs f m b) (either (eqb (weight_at f m a) 0) (eqb (weight_at f m b) 0)))
        (λ s. let c = beside_is (after d) (before d) s in rw (odd, c.0, c.1, open_weighs f m a, open_weighs f m b) (turned (eqb (weight_at f m a) 0) (eqb (weight_at f m b) 0)))
        (sides d h odd)
      where
        either : (x y : Bool) → not (not x && not y) ≡ x || y
        either true y = refl
        either false true = refl
        either false false = refl

        turned : (x y : Bool) → not (not y && not x) ≡ x || y
        turned true true = refl
        turned true false = refl
        turned false true = refl
        turned false false = refl

    -- and where both are on the map, so is the cell that it enters
    pub diagonal_on_map : T (on_map f (moved p (d - 1))) → T (on_map f (moved p ((d + 1) % 8))) → T (on_map f (moved p d))
    diagonal_on_map t u = ⊎_elim (λ s. both (before d) (after d) s t u) (λ s. both (after d) (before d) s u t) (sides d h odd)
      where
        both : (a b : ℕ) → Sides d a b → T (on_map f (moved p a)) → T (on_map f (moved p b)) → T (on_map f (moved p d))
        both a b s t u =
            let x = on_map_lem f (moved p a) t in
            let y = on_map_lem f (moved p b) u in
            on_map_test f (moved p d)
            (record { west = omega (arith, x.west, s.east); east = omega (arith, x.east, s.east); north = omega (arith, y.north, s.south'); south = omega (arith, y.south, s.south') })
