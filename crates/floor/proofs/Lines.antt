-- Along a list of lines whose numbers rise, the first that is to be given is the lowest that applies: by the head of the list, and then the rest.
use mathlib.Core.Path.{◌≡◌, refl, sym, ap, ◌∙◌}
use mathlib.Core.Logic.{◌↔◌, ◌⊎◌, inl, inr}
use mathlib.Core.Bool.{Bool, true, false, cond, ◌&&◌}
use mathlib.Core.List.{List, [], ◌∷◌}
use Prim.Native.Nat.{ℕ, ◌≤◌, ◌<◌}
use native.Mathlib.Omega.{arith}
use lib.Dec.{T, ltb, ltb→lt}
use Rattle.paths.proofs.Bools.{true_T, T_and}
use Rattle.floor.specs.Screen.{Screen, Refused}
use Rattle.floor.specs.Refusal.{Line, line, screen}
use Rattle.floor.specs.LowestLine.{Has, IsLowestLine}

-- the numbers rise along the list, from above b on
abbrev pub rising : ℕ → List Line → Bool
rising b [] = true
rising b (l ∷ ls) = ltb b l.number && rising l.number ls

-- a line of a list that rises from above b is above b
pub above : (b : ℕ) (ls : List Line) → T (rising b ls) → (k : Line) → Has k ls → b < k.number
above b [] r k h = absurd h
above b (l ∷ ls) r k h =
    let s = T_and (ltb b l.number) (rising l.number ls) r in
    let first = ltb→lt b l.number s.0 in
    go first (above l.number ls s.1 k) h
  where
    go : b < l.number → (Has k ls → l.number < k.number) → (k ≡ l) ⊎ Has k ls → b < k.number
    go c later (inl e) = rw e c
    go c later (inr i) = omega (arith, later i)

-- every number of the list is below b
abbrev pub all_below : ℕ → List Line → Bool
all_below b [] = true
all_below b (l ∷ ls) = ltb l.number b && all_below b ls

pub below : (b : ℕ) (ls : List Line) → T (all_below b ls) → (k : Line) → Has k ls → k.number < b
below b [] r k h = absurd h
below b (l ∷ ls) r k h =
    let s = T_and (ltb l.number b) (all_below b ls) r in
    go (ltb→lt l.number b s.0) (below b ls s.1 k) h
  where
    go : l.number < b → (Has k ls → k.number < b) → (k ≡ l) ⊎ Has k ls → k.number < b
    go c later (inl e) = rw e c
    go c later (inr i) = later i

-- the line at the head of a list, by whether it is to be given
module _ (l : Line) (ls : List Line) (later : (k : Line) → Has k ls → l.number < k.number) (n p : ℕ)
    (rest : (screen ls ≡ Refused n p) ↔ IsLowestLine ls n p) where
  head_first : l.given ≡ true → Refused l.number l.place ≡ Refused n p → IsLowestLine (l ∷ ls) n p
  head_first e x =
      let number : l.number ≡ n = cc in
      let place : l.place ≡ p = cc in
      record { applies = inl (rw (← number, ← place, ← e) refl); none_lower = λ k h g. go number k h }
    where
      go : l.number ≡ n → (k : Line) → (k ≡ l) ⊎ Has k ls → n ≤ k.number
      go number k (inl same) = omega (arith, ap (λ (l : Line). l.number) same)
      go number k (inr h) = omega (arith, later k h)

  only_head : l.given ≡ true → IsLowestLine (l ∷ ls) n p → Refused l.number l.place ≡ Refused n p
  only_head e x = go x.applies
    where
      go : (line n true p ≡ l) ⊎ Has (line n true p) ls → Refused l.number l.place ≡ Refused n p
      go (inl same) = rw (← same) refl
      go (inr h) = let lower = x.none_lower l (inl refl) (true_T l.given e) in absurd (omega (arith, later (line n true p) h))

  past_head : l.given ≡ false → IsLowestLine ls n p → IsLowestLine (l ∷ ls) n p
  past_head e x = record { applies = inr x.applies; none_lower = go }
    where
      go : (k : Line) → (k ≡ l) ⊎ Has k ls → T k.given → n ≤ k.number
      go k (inl same) g = let z : T false = rw (same, e) at g in absurd z
      go k (inr h) g = x.none_lower k h g

  not_head : l.given ≡ false → IsLowestLine (l ∷ ls) n p → IsLowestLine ls n p
  not_head e x = record { applies = go x.applies; none_lower = λ k h g. x.none_lower k (inr h) g }
    where
      go : (line n true p ≡ l) ⊎ Has (line n true p) ls → Has (line n true p) ls
      go (inl same) = let z : true ≡ false = ap (λ (l : Line). l.given) same ∙ e in absurd (true_T false (sym z))
      go (inr h) = h

  by_head : (b : Bool) → l.given ≡ b → (cond b (Refused l.number l.place) (screen ls) ≡ Refused n p) ↔ IsLowestLine (l ∷ ls) n p
  by_head true e = (head_first e, only_head e)
  by_head false e = (λ x. past_head e (rest.0 x), λ x. rest.1 (not_head e x))

-- 01: the lowest number that applies is given. Of any lines whose numbers rise
pub lowest_line : (ls : List Line) (b : ℕ) → T (rising b ls) → (n p : ℕ) → (screen ls ≡ Refused n p) ↔ IsLowestLine ls n p
lowest_line [] b r n p = (λ e. let z : ◌≡◌ {A = ℕ} 0 1 = cc in absurd (omega arith), λ x. absurd x.applies)
lowest_line (l ∷ ls) b r n p =
    let s = T_and (ltb b l.number) (rising l.number ls) r in
    by_head l ls (above l.number ls s.1) n p (lowest_line ls l.number s.1 n p) l.given refl

-- a refusal has the number of a line: above b and below c, where those of all lines are
pub number_between : (b c : ℕ) (ls : List Line) → T (rising b ls) → T (all_below c ls) → {n p : ℕ} → screen ls ≡ Refused n p → (b < n) × (n < c)
number_between b c ls r s {n} {p} e =
    let has = ((lowest_line ls b r n p).0 e).applies in
    (above b ls r (line n true p) has, below c ls s (line n true p) has)

-- the lowest that applies, of an answer of another kind: `out` gives it for a screen, and `back` tells the screen from it
module _ {A : Type 0} (out : Screen → A) (back : A → Screen) (same : (s : Screen) → back (out s) ≡ s) {a : A} (ls : List Line) (e : a ≡ out (screen ls)) where
  pub refused_lines : (n p : ℕ) → a ≡ out (Refused n p) → screen ls ≡ Refused n p
  refused_lines n p x = sym (same (screen ls)) ∙ ap back (sym e ∙ x) ∙ same (Refused n p)

  pub by_lines : T (rising 0 ls) → (n p : ℕ) → (a ≡ out (Refused n p)) ↔ IsLowestLine ls n p
  by_lines r n p = (λ x. (lowest_line ls 0 r n p).0 (refused_lines n p x), λ x. e ∙ ap out ((lowest_line ls 0 r n p).1 x))
