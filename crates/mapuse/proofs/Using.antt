-- What a text comes to: it is too long, the reader refuses it, a side of it is too great, or it is a map that can be used; and what such a map has.
use mathlib.Core.Path.{◌≡◌, refl, sym, ◌∙◌, ap}
use mathlib.Core.Logic.{◌⊎◌, inl, inr}
use mathlib.Core.Bool.{Bool, true, false, cond, ◌||◌}
use mathlib.Core.List.{List}
use Prim.Native.Nat.{ℕ, ◌≤◌, ◌<◌}
use native.Mathlib.Omega.{arith}
use borrow.Author.Tests.{lt-ltb, le-ltb, ltb-false}
use lib.Dec.{ltb}
use lib.ListN.{length}
use Rattle.floor.specs.declared.Floor.{Floor}
use Rattle.floor.specs.Place.{cells}
use Rattle.std.specs.Prelude.{Result}
use Rattle.std.specs.Prelude.{Ok, Err}
use Rattle.floor.specs.declared.refusals.Refusal.{Refusal}
use Rattle.floor.specs.declared.refusals.Refusal.TheVariants.{TooBig}
use Rattle.floor.specs.Refusals.{number_of, place_of}
use Rattle.floor.specs.Numbers.{refused_as}
use Rattle.maptext.specs.Reading.{Reading, refused, read, reading_of, numbers_of, read_for, cells_left, IsRead}
use Rattle.maptext.proofs.Storing.{HasMap, has_map, cells_fit}
use Rattle.mapuse.specs.Use.{greatest_text, greatest_used_side, within_sides, used_of, IsUsed}

neither : (a b : Bool) → (a || b) ≡ false → (a ≡ false) × (b ≡ false)
neither false b e = (refl, e)
neither true b e = let z : ◌≡◌ {A = ℕ} 0 1 = cc in absurd (omega arith)

refused_is : (x : Reading) (e : Refusal) → refused_as e ≡ read_for x → x ≡ refused (number_of e) (place_of e)
refused_is (refused a b) r e = let f : number_of r ≡ a = cc in let g : place_of r ≡ b = cc in rw (f, g)
refused_is (read w h m) r e = let z : ◌≡◌ {A = ℕ} 0 1 = cc in absurd (omega arith)

module _ (text room : List ℕ) where
  used_as : (x : Reading) {r : Result Floor Refusal} {room' : List ℕ} → used_of text (length room) ≡ x → numbers_of r ≡ read_for x → room' ≡ cells_left x room → IsUsed text room r room'
  used_as x e a l = record { answers = rw e a; leaves = rw e l }

  pub too_long : greatest_text < length text → IsUsed text room (Err TooBig) room
  unfolding used_of
  too_long h = used_as (refused 14 0) (rw (lt-ltb greatest_text (length text) h)) refl refl

  module _ (short : length text ≤ greatest_text) where
    used_is : {x : Reading} → reading_of text (length room) ≡ x → used_of text (length room) ≡ within_sides x
    unfolding used_of
    used_is e = rw (le-ltb greatest_text (length text) short, e)

    pub reader_refuses : (e : Refusal) → refused_as e ≡ read_for (reading_of text (length room)) → IsUsed text room (Err e) room
    reader_refuses e k = used_as (refused (number_of e) (place_of e)) (used_is (refused_is _ e k)) refl refl

    module _ (f : Floor) (x : HasMap text (length room) f) where
      pub too_great : (greatest_used_side < f.width) ⊎ ((f.width ≤ greatest_used_side) × (greatest_used_side < f.height)) → IsUsed text room (Err TooBig) room
      too_great h = used_as (refused 14 0) (used_is x.reading ∙ rw (great h)) refl refl
        where
          great : (greatest_used_side < f.width) ⊎ ((f.width ≤ greatest_used_side) × (greatest_used_side < f.height)) → (ltb greatest_used_side f.width || ltb greatest_used_side f.height) ≡ true
          great (inl w) = rw (lt-ltb greatest_used_side f.width w)
          great (inr h) = rw (le-ltb greatest_used_side f.width h.0, lt-ltb greatest_used_side f.height h.1)

      pub can_be_used : {r : Result Floor Refusal} {room' : List ℕ} → f.width ≤ greatest_used_side → f.height ≤ greatest_used_side → IsRead text room r room'
          → IsUsed text room r room'
      can_be_used narrow low y =
          used_as (reading_of text (length room))
          (used_is x.reading ∙ rw (le-ltb greatest_used_side f.width narrow, le-ltb greatest_used_side f.height low, x.reading))
          y.answers
          y.leaves

-- a map that can be used was read, and its sides are not too great
pub record CanUse (text : List ℕ) (room : ℕ) (f : Floor) : Type 0 where
  pub read_as : numbers_of (Ok f) ≡ read_for (reading_of text room)
  pub narrow : f.width ≤ greatest_used_side
  pub low : f.height ≤ greatest_used_side

pub can_use : (text : List ℕ) (room : ℕ) (f : Floor) → numbers_of (Ok f) ≡ read_for (used_of text room) → CanUse text room f
unfolding used_of
can_use text room f e = long (ltb greatest_text (length text)) e
  where
    sides : (x : Reading) → reading_of text room ≡ x → numbers_of (Ok f) ≡ read_for (within_sides x) → CanUse text room f
    sides (refused n p) r e = let z : ◌≡◌ {A = ℕ} 0 1 = cc in absurd (omega arith)
    sides (read w h m) r e = go (ltb greatest_used_side w || ltb greatest_used_side h) refl e
      where
        go : (b : Bool) → (ltb greatest_used_side w || ltb greatest_used_side h) ≡ b → numbers_of (Ok f) ≡ read_for (cond b (refused 14 0) (read w h m)) → CanUse text room f
        go true t e = let z : ◌≡◌ {A = ℕ} 0 1 = cc in absurd (omega arith)
        go false t e =
            let width : f.width ≡ w = cc in
            let height : f.height ≡ h = cc in
            let both = neither (ltb greatest_used_side w) (ltb greatest_used_side h) t in
            record {
              read_as = rw r e;
              narrow = rw width (ltb-false greatest_used_side w both.0);
              low = rw height (ltb-false greatest_used_side h both.1);
            }

    long : (b : Bool) → numbers_of (Ok f) ≡ read_for (cond b (refused 14 0) (within_sides (reading_of text room))) → CanUse text room f
    long true e = let z : ◌≡◌ {A = ℕ} 0 1 = cc in absurd (omega arith)
    long false e = sides (reading_of text room) refl e

-- its cells are in the room
pub used_fits : (text : List ℕ) (room : ℕ) (f : Floor) {r : Result Floor Refusal} → r ≡ Ok f → numbers_of r ≡ read_for (used_of text room) → cells f ≤ room
used_fits text room f given e = cells_fit (has_map text room f refl (can_use text room f (ap numbers_of (sym given) ∙ e)).read_as)
