-- The promise leaves nothing open: a second result, with the room, is equal to the first.
use mathlib.Core.Path.{◌≡◌, sym, ◌∙◌}
use mathlib.Core.List.{List}
use Prim.Native.Nat.{ℕ}
use Rattle.std.specs.Prelude.{Result}
use Rattle.floor.specs.declared.Floor.{Floor}
use Rattle.floor.specs.declared.refusals.Refusal.{Refusal}
use Rattle.maptext.proofs.Texts.{same_read}
use Rattle.mapuse.specs.Use.{IsUsed}

-- a second result and room that meet the promise of `use_map` are equal
pub one_use : (text room : List ℕ) {r s : Result Floor Refusal} {room₁ room₂ : List ℕ} → IsUsed text room r room₁ → IsUsed text room s room₂ → (r ≡ s) × (room₁ ≡ room₂)
one_use text room {r} {s} x y = (same_read r s (x.answers ∙ sym y.answers), x.leaves ∙ sym y.leaves)
