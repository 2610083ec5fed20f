-- Two answers of the code that are the same answer in 01's words are equal.
use mathlib.Core.Path.{◌≡◌, refl, ap}
use Prim.Native.Nat.{ℕ}
use native.Mathlib.Omega.{arith}
use Rattle.std.specs.Prelude.{Result, Ok, Err}
use Rattle.floor.specs.declared.refusals.Refusal.{Refusal}
use Rattle.floor.specs.declared.RouteLength.{RouteLength}
use Rattle.floor.specs.Refusals.{number_of, place_of}
use Rattle.floor.proofs.Numbered.{same_refusal}
use Rattle.answering.specs.declared.Outcome.{Outcome}
use Rattle.answering.specs.declared.Outcome.TheVariants.{Found, NoRoute, Stopped}
use Rattle.answering.specs.Answer.{answer_of}

different : {A : Type 0} → ◌≡◌ {A = ℕ} 0 1 → A
different z = absurd (omega arith)

pub same_outcome : (a b : Result Outcome Refusal) → answer_of a ≡ answer_of b → a ≡ b
same_outcome (Ok (Found s c l)) (Ok (Found s2 c2 l2)) e =
    let settled : s ≡ s2 = cc in
    let cost : c ≡ c2 = cc in
    let route : l ≡ l2 = cc in
    rw (settled, cost, route) refl
same_outcome (Ok (Found s c l)) (Ok (NoRoute s2)) e = different cc
same_outcome (Ok (Found s c l)) (Ok (Stopped s2 c2)) e = different cc
same_outcome (Ok (Found s c l)) (Err y) e = different cc
same_outcome (Ok (NoRoute s)) (Ok (Found s2 c2 l2)) e = different cc
same_outcome (Ok (NoRoute s)) (Ok (NoRoute s2)) e = let settled : s ≡ s2 = cc in rw settled refl
same_outcome (Ok (NoRoute s)) (Ok (Stopped s2 c2)) e = different cc
same_outcome (Ok (NoRoute s)) (Err y) e = different cc
same_outcome (Ok (Stopped s c)) (Ok (Found s2 c2 l2)) e = different cc
same_outcome (Ok (Stopped s c)) (Ok (NoRoute s2)) e = different cc
same_outcome (Ok (Stopped s c)) (Ok (Stopped s2 c2)) e =
    let settled : s ≡ s2 = cc in
    let floor : c ≡ c2 = cc in
    rw (settled, floor) refl
same_outcome (Ok (Stopped s c)) (Err y) e = different cc
same_outcome (Err x) (Ok (Found s c l)) e = different cc
same_outcome (Err x) (Ok (NoRoute s)) e = different cc
same_outcome (Err x) (Ok (Stopped s c)) e = different cc
same_outcome (Err x) (Err y) e =
    let number : number_of x ≡ number_of y = cc in
    let place : place_of x ≡ place_of y = cc in
    ap (λ (z : Refusal). Err z) (same_refusal x y number place)
