-- Places on the map and their cells.
use mathlib.Core.Path.{◌≡◌}
use mathlib.Core.Bool.{◌&&◌}
use mathlib.Core.List.{List}
use Prim.Native.Nat.{ℕ, ◌-◌, ◌/◌, ◌≤◌, ◌<◌}
use native.Mathlib.Nat.{add-sub_cancel, mod-lt, div-add-mod', div-lt_iff_lt-mul}
use native.Mathlib.Omega.{arith}
use lib.Arith.{digits_lt}
use lib.Dec.{T, leb, ltb, leb→le, ltb→lt, le→leb, lt→ltb}
use lib.ListN.{get_or}
use Rattle.floor.specs.declared.Floor.{Floor}
use Rattle.floor.specs.declared.Place.{Place}
use Rattle.floor.specs.Place.{cells, place_of, cell_at, IsNear, on_map, is_open}
use Rattle.paths.proofs.Bools.{T_true, T_and, and_T}
use Rattle.floor.proofs.Passing.{MapFacts}

pub record OnMap (f : Floor) (p : Place) : Type 0 where
  pub west : 0 < p.column
  pub east : p.column ≤ f.width
  pub north : 0 < p.row
  pub south : p.row ≤ f.height

pub on_map_lem : (f : Floor) (p : Place) → T (on_map f p) → OnMap f p
unfolding on_map
on_map_lem f p t =
    let a = T_and (ltb 0 p.column && leb p.column f.width) (ltb 0 p.row && leb p.row f.height) t in
    let b = T_and (ltb 0 p.column) (leb p.column f.width) a.0 in
    let c = T_and (ltb 0 p.row) (leb p.row f.height) a.1 in
    record {
      west = ltb→lt 0 p.column b.0;
      east = leb→le p.column f.width b.1;
      north = ltb→lt 0 p.row c.0;
      south = leb→le p.row f.height c.1;
    }

pub on_map_test : (f : Floor) (p : Place) → OnMap f p → T (on_map f p)
unfolding on_map
on_map_test f p o =
    and_T (ltb 0 p.column && leb p.column f.width) (ltb 0 p.row && leb p.row f.height)
    (and_T (ltb 0 p.column) (leb p.column f.width) (lt→ltb 0 p.column o.west) (le→leb p.column f.width o.east))
    (and_T (ltb 0 p.row) (leb p.row f.height) (lt→ltb 0 p.row o.north) (le→leb p.row f.height o.south))

pub cell_lt : (f : Floor) (p : Place) → T (on_map f p) → cell_at f p < cells f
cell_lt f p t =
    let o = on_map_lem f p t in
    omega (arith, digits_lt {q = p.row - 1} {m = f.height} {r = p.column - 1} {c = f.width} (omega arith) (omega arith))

pub cell_of_place : (f : Floor) (v : ℕ) → cell_at f (place_of f v) ≡ v
cell_of_place f v = simp add-sub_cancel (div-add-mod' v f.width)

-- a cell of a map that has passed
module _ {f : Floor} {m : List ℕ} (k : MapFacts f m) (v : ℕ) (h : v < cells f) where
  pub place_on_map : OnMap f (place_of f v)
  place_on_map =
      let c = mod-lt v k.wide in
      let r : v / f.width < f.height = (div-lt_iff_lt-mul {k = f.width} {x = v} {y = f.height} k.wide).1 (omega arith) in
      record { west = omega arith; east = omega arith; north = omega arith; south = omega arith }

  pub place_near : IsNear (place_of f v)
  place_near =
      let o = place_on_map in
      record { column = o.west; column_small = omega (arith, o.east, k.wide_top); row = o.north; row_small = omega (arith, o.south, k.high_top) }

  pub place_open : is_open f m (place_of f v) ≡ ltb 0 (get_or m v 0)
  unfolding is_open
  place_open = rw (T_true (on_map f (place_of f v)) (on_map_test f (place_of f v) place_on_map), cell_of_place f v)
