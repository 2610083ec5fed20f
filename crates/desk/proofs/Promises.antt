-- The promises leave nothing open: a second result, with the rooms, is equal to the first.
use mathlib.Core.Path.{◌≡◌, sym, ap, ◌∙◌, subst}
use mathlib.Core.List.{List, ◌++◌}
use Prim.Native.Nat.{ℕ, zero, suc}
use native.Mathlib.Omega.{arith}
use lib.ListN.{take, drop, take-append-drop}
use Rattle.floor.specs.declared.Floor.{Floor}
use Rattle.answering.specs.Answer.{Answer}
use Rattle.answering.specs.Rooms.{Rooms}
use Rattle.search.proofs.Promise.{one_search}
use Rattle.recordlayout.specs.Record.{record_size, question_in}
use Rattle.desk.specs.Turn.{ArrivedAnswered, IsKept}
use Rattle.desk.specs.Desk.{Asked, no_zeros, searched, Answered, whole_records, IsAnswered}

one_asked : (f : Floor) (m q : List ℕ) (r : Rooms) {a b : Answer} {r₁ r₂ : Rooms} → Asked f m q r a r₁ → Asked f m q r b r₂ → (a ≡ b) × (r₁ ≡ r₂)
one_asked f m q r (no_zeros z e l) (no_zeros z' e' l') = (e ∙ sym e', l ∙ sym l')
one_asked f m q r (no_zeros z e l) (searched z' x) = let z : ◌≡◌ {A = ℕ} 0 1 = cc in absurd (omega arith)
one_asked f m q r (searched z x) (no_zeros z' e l) = let z : ◌≡◌ {A = ℕ} 0 1 = cc in absurd (omega arith)
one_asked f m q r (searched z x) (searched z' y) = one_search _ m (question_in q) r x y

one_answered : (f : Floor) (m : List ℕ) (n : ℕ) (bytes : List ℕ) (r : Rooms) {out₁ out₂ : List ℕ} {r₁ r₂ : Rooms}
    → Answered f m n bytes r out₁ r₁ → Answered f m n bytes r out₂ r₂ → (out₁ ≡ out₂) × (r₁ ≡ r₂)
one_answered f m zero bytes r x y = (x.0 ∙ sym y.0, x.1 ∙ sym y.1)
one_answered f m (suc n) bytes r {r₁ = r₁} x y =
    let first = one_asked f m (take record_size bytes) r x.asked y.asked in
    let others = subst (λ (b : Rooms). Answered f m n (drop record_size bytes) b x.rest r₁) first.1 x.others in
    let all = one_answered f m n (drop record_size bytes) y.between others y.others in
    (x.leaves ∙ rw (first.0, all.0) (sym y.leaves), all.1)

-- a second result, buffer and rooms that meet the promise of `answer_records` are equal
pub one_answering : (f : Floor) (m bytes : List ℕ) (r : Rooms) {n k : ℕ} {out₁ out₂ : List ℕ} {r₁ r₂ : Rooms}
    → IsAnswered f m bytes r n out₁ r₁ → IsAnswered f m bytes r k out₂ r₂ → (n ≡ k) × (out₁ ≡ out₂) × (r₁ ≡ r₂)
one_answering f m bytes r x y =
    let all = one_answered f m (whole_records bytes) bytes r x.records y.records in
    (x.bytes_answered ∙ sym y.bytes_answered, all.0, all.1)

-- and for `answer_arrived`
pub one_arrived : (f : Floor) (m buffer : List ℕ) (end : ℕ) (r : Rooms) {n k : ℕ} {buffer₁ buffer₂ : List ℕ} {r₁ r₂ : Rooms}
    → ArrivedAnswered f m buffer end r n buffer₁ r₁ → ArrivedAnswered f m buffer end r k buffer₂ r₂ → (n ≡ k) × (buffer₁ ≡ buffer₂) × (r₁ ≡ r₂)
one_arrived f m buffer end r {buffer₁ = buffer₁} {buffer₂ = buffer₂} x y =
    let all = one_answering f m (take end buffer) r x.arrived y.arrived in
    let front = ap (λ (b : List ℕ). b ++ drop end buffer₁) all.1 in
    let back = ap (λ (b : List ℕ). take end buffer₂ ++ b) (x.beyond ∙ sym y.beyond) in
    (all.0, sym (take-append-drop end buffer₁) ∙ front ∙ back ∙ take-append-drop end buffer₂, all.2)

-- and for `keep_tail`
pub one_kept : (buffer : List ℕ) (from end : ℕ) {n k : ℕ} {buffer₁ buffer₂ : List ℕ} → IsKept buffer from end n buffer₁ → IsKept buffer from end k buffer₂
    → (n ≡ k) × (buffer₁ ≡ buffer₂)
one_kept buffer from end x y = let same = x.count ∙ sym y.count in (same, x.leaves ∙ rw same (sym y.leaves))
