-- The promise leaves nothing open: the right table is unique, and where the question is refused no table is looked at.
use mathlib.Core.Path.{◌≡◌, sym, ◌∙◌, ap}
use mathlib.Core.List.{List}
use Prim.Native.Nat.{ℕ, ◌≤◌, ◌<◌}
use native.Mathlib.Omega.{arith}
use Rattle.paths.proofs.Exists.{right_unique}
use Rattle.floor.specs.declared.Floor.{Floor}
use Rattle.floor.specs.Screen.{Passed, Refused}
use Rattle.floor.specs.Refusal.{screen}
use Rattle.floor.specs.Step.{graph}
use Rattle.floor.proofs.Lines.{number_between}
use Rattle.answering.specs.Answer.{Answer}
use Rattle.answering.specs.declared.AnswerNumbers.{AnswerNumbers}
use Rattle.answering.specs.Answers.{row_of, answer_by, numbers_of}
use Rattle.answering.specs.Rooms.{Rooms}
use Rattle.answering.specs.declared.Question.{Question}
use Rattle.search.specs.Search.{search_lines, after, ByTable, Searched, refused, passed, Called}

module _ {f : Floor} {m : List ℕ} {q : Question} {r : Rooms} {a : Answer} {r' : Rooms} where
  -- the two cases, each where it applies
  pub by_table : Searched f m q r a r' → screen (search_lines f m q r) ≡ Passed → ByTable f m q r a r'
  by_table (refused n p e b l) k = let z : ◌≡◌ {A = ℕ} 0 1 = cc in absurd (omega arith)
  by_table (passed e x) k = x

  pub by_refusal : Searched f m q r a r' → (n p : ℕ) → screen (search_lines f m q r) ≡ Refused n p → (a ≡ Answer.Refused n p) × (r' ≡ r)
  by_refusal (refused i j e b l) n p k = (cc, l)
  by_refusal (passed e x) n p k = let z : ◌≡◌ {A = ℕ} 0 1 = cc in absurd (omega arith)

-- a refusal of the search is one of 1 to 15
pub search_numbers : (f : Floor) (m : List ℕ) (q : Question) (r : Rooms) {n p : ℕ} → screen (search_lines f m q r) ≡ Refused n p → (0 < n) × (n ≤ 15)
search_numbers f m q r e = let k = number_between 0 16 (search_lines f m q r) tt tt e in (k.0, omega (arith, k.1))

-- a second answer with rooms that meet the promise is equal
pub one_search : (f : Floor) (m : List ℕ) (q : Question) (r : Rooms) {a b : Answer} {r₁ r₂ : Rooms}
    → Searched f m q r a r₁ → Searched f m q r b r₂ → (a ≡ b) × (r₁ ≡ r₂)
one_search f m q r (refused n p e c l) y = let z = by_refusal y n p e in (c ∙ sym z.0, l ∙ sym z.1)
one_search f m q r (passed e x) z =
    let y = by_table z e in
    let t = right_unique (graph f m) q.start x.table y.table x.right y.right in (
      x.answer ∙ ap (λ (t : List ℕ). answer_by f m q.start (row_of f m q t)) t ∙ sym y.answer,
      x.leaves ∙ ap (λ (t : List ℕ). after f t (row_of f m q t) r) t ∙ sym y.leaves,
    )

-- and so for the call from C
pub one_call : (f : Floor) (m : List ℕ) (q : Question) (r : Rooms) {a b : AnswerNumbers} {r₁ r₂ : Rooms}
    → Called f m q r a r₁ → Called f m q r b r₂ → (a ≡ b) × (r₁ ≡ r₂)
one_call f m q r x y =
    let s = one_search f m q r x.searched y.searched in
    (x.numbers ∙ ap numbers_of s.0 ∙ sym y.numbers, s.1)
