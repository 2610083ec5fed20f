-- The promise leaves nothing open: the right table is unique, and where the question is refused no table is looked at.
use mathlib.Core.Path.{◌≡◌, sym, ◌∙◌, ap}
use mathlib.Core.List.{List}
use Prim.Native.Nat.{ℕ, ◌≤◌, ◌<◌}
use native.Mathlib.Omega.{arith}
use Rattle.paths.proofs.Exists.{right_unique}
use Rattle.floor.specs.declared.Floor.{Floor}
use Rattle.floor.specs.Screen.{Passed, Refused}
use Rattle.floor.specs.Refusal.{screen}
use Rattle.floor.specs.Step.{graph}
use Rattle.floor.proofs.Lines.{number_between}
use Rattle.answering.specs.Answer.{Answer}
use Rattle.answering.specs.declared.AnswerNumbers.{AnswerNumbers}
use Rattle.answering.specs.Answers.{answer_by, numbers_of}
use Rattle.answering.specs.Rooms.{Rooms, lent_lines}
use Rattle.astar.specs.Astar.{aimed_row, aimed_after, AimedTable, Aimed, refused, passed, AimedCall}

module _ {f : Floor} {m : List ℕ} {start goal : ℕ} {r : Rooms} {a : Answer} {r' : Rooms} where
  -- the two cases, each where it applies
  pub aimed_by_table : Aimed f m start goal r a r' → screen (lent_lines f m start goal r) ≡ Passed → AimedTable f m start goal r a r'
  aimed_by_table (refused n p e b l) k = let z : ◌≡◌ {A = ℕ} 0 1 = cc in absurd (omega arith)
  aimed_by_table (passed e x) k = x

  pub aimed_by_refusal : Aimed f m start goal r a r' → (n p : ℕ) → screen (lent_lines f m start goal r) ≡ Refused n p → (a ≡ Answer.Refused n p) × (r' ≡ r)
  aimed_by_refusal (refused i j e b l) n p k = (cc, l)
  aimed_by_refusal (passed e x) n p k = let z : ◌≡◌ {A = ℕ} 0 1 = cc in absurd (omega arith)

module _ (f : Floor) (m : List ℕ) (start goal : ℕ) (r : Rooms) where
  -- a refusal of A* is one of 1 to 11
  pub aimed_numbers : {n p : ℕ} → screen (lent_lines f m start goal r) ≡ Refused n p → (0 < n) × (n ≤ 11)
  aimed_numbers e = let k = number_between 0 12 (lent_lines f m start goal r) tt tt e in (k.0, omega (arith, k.1))

  -- a second answer with rooms that meet the promise is equal
  pub one_aimed : {a b : Answer} {r₁ r₂ : Rooms} → Aimed f m start goal r a r₁ → Aimed f m start goal r b r₂ → (a ≡ b) × (r₁ ≡ r₂)
  one_aimed (refused n p e c l) y = let z = aimed_by_refusal y n p e in (c ∙ sym z.0, l ∙ sym z.1)
  one_aimed (passed e x) z =
      let y = aimed_by_table z e in
      let t = right_unique (graph f m) start x.table y.table x.right y.right in (
        x.answer ∙ ap (λ (t : List ℕ). answer_by f m start (aimed_row f m start goal t)) t ∙ sym y.answer,
        x.leaves ∙ ap (λ (t : List ℕ). aimed_after f m start goal t r) t ∙ sym y.leaves,
      )

  -- and so for the call from C
  pub one_aimed_call : {a b : AnswerNumbers} {r₁ r₂ : Rooms} → AimedCall f m start goal r a r₁ → AimedCall f m start goal r b r₂ → (a ≡ b) × (r₁ ≡ r₂)
  one_aimed_call x y = let s = one_aimed x.aimed y.aimed in (x.numbers ∙ ap numbers_of s.0 ∙ sym y.numbers, s.1)
