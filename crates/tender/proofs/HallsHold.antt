-- Bigger halls: the numbers compute, the sizes are laws of the floor and the text, and the program's are laws of what it can use.
use mathlib.Core.Path.{◌≡◌, refl, subst, sym}
use mathlib.Core.Logic.{◌↔◌, ◌⊎◌, inl, inr, ⊎_elim}
use mathlib.Core.List.{List}
use Prim.{tt}
use Prim.Native.Nat.{ℕ, ◌≤◌, ◌<◌}
use native.Mathlib.Decide.{dec_lt}
use native.Mathlib.Omega.{arith}
use lib.Dec.{T}
use lib.ListN.{length}
use Rattle.floor.specs.declared.Floor.{Floor}
use Rattle.floor.specs.Place.{has_sides, floor_of}
use Rattle.floor.proofs.Passing.{Side, map_facts, few_cells, sides, has_sides_lem}
use Rattle.std.specs.Prelude.{Result, Ok, Err}
use Rattle.floor.specs.declared.refusals.Refusal.{Refusal}
use Rattle.floor.specs.declared.refusals.Refusal.TheVariants.{TooBig}
use Rattle.maptext.specs.Reading.{IsRead}
use Rattle.maptext.proofs.Storing.{HasMap, has_map}
use Rattle.maptext.proofs.Texts.{read_passes}
use Rattle.maptext.proofs.Lengths.{longest_text}
use Rattle.mapuse.specs.Use.{greatest_text, greatest_used_side, IsUsed}
use Rattle.mapuse.proofs.Promise.{one_use}
use Rattle.mapuse.proofs.Using.{can_use, too_long, too_great}
use Rattle.tender.specs.Halls.{InHalls, Halls}

module _ (f : Floor) where
  sides_in_halls : T (has_sides f) ↔ InHalls f
  sides_in_halls = (
    λ t. let s = sides f t in ((s.0.positive, s.0.top), (s.1.positive, s.1.top)),
    λ h.
        let width : Side f.width = record { positive = h.0.0; top = h.0.1 } in
        let height : Side f.height = record { positive = h.1.0; top = h.1.1 } in
        subst T (sym (has_sides_lem f width height)) tt,
  )

module _ (text room : List ℕ) (f : Floor) where
  read_map : {room' : List ℕ} → IsRead text room (Ok f) room' → HasMap text (length room) f
  read_map x = has_map text (length room) f refl x.answers

  read_in_halls : (room' : List ℕ) → IsRead text room (Ok f) room' → InHalls f
  read_in_halls room' x =
      let y = read_map x in
      let k = map_facts (floor_of f.width f.height 8) y.map (read_passes text (length room) f.width f.height y.map y.reading) in
      ((k.wide, k.wide_top), (k.high, k.high_top))

  no_text_longer : {room' : List ℕ} → IsUsed text room (Ok f) room' → greatest_text < length text → ⊥
  no_text_longer x h =
      let same : ◌≡◌ {A = Result Floor Refusal} (Ok f) (Err TooBig) = (one_use text room x (too_long text room h)).0 in
      let z : ◌≡◌ {A = ℕ} 0 1 = cc in
      omega arith

  used_small : (room' : List ℕ) → IsUsed text room (Ok f) room' → (f.width ≤ 64) × (f.height ≤ 64) × (length text ≤ 4195)
  used_small room' x =
      let y = can_use text (length room) f x.answers in
      (y.narrow, y.low, omega (arith, no_text_longer x))

  large_refused : {room' : List ℕ} → IsRead text room (Ok f) room' → (greatest_used_side < f.width) ⊎ (greatest_used_side < f.height)
      → IsUsed text room (Err TooBig) room
  large_refused x large = go (dec_lt greatest_text (length text)) (dec_lt greatest_used_side f.width)
    where
      go : Dec (greatest_text < length text) → Dec (greatest_used_side < f.width) → IsUsed text room (Err TooBig) room
      go (yes l) w = too_long text room l
      go (no l) (yes w) = too_great text room (omega arith) f (read_map x) (inl w)
      go (no l) (no n) = too_great text room (omega arith) f (read_map x) (inr (omega arith, ⊎_elim (λ w. absurd (n w)) (λ h. h) large))

pub halls : Halls
halls = record {
  sides = sides_in_halls;
  text = read_in_halls;
  cell_room = λ f m p. omega (arith, few_cells (map_facts f m p));
  text_room = λ f m p. omega (arith, longest_text f m p);
  cost = refl;
  cost_is = refl;
  below_mark = omega arith;
  program = used_small;
  too_large = λ text room f room' x large. large_refused text room f x (⊎_elim (λ h. inl (omega arith)) (λ h. inr (omega arith)) large);
}
