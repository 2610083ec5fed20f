-- Lines of the table of refusals, tried one after the other.
use mathlib.Core.Path.{◌≡◌, refl, sym, ap, ◌∙◌}
use mathlib.Core.Bool.{Bool, true, false, cond, not}
use mathlib.Core.List.{List, [], ◌∷◌, ◌++◌}
use Prim.Native.Nat.{ℕ}
use native.Mathlib.Omega.{arith}
use lib.Dec.{T}
use Rattle.floor.specs.Screen.{Screen, Passed, Refused}
use Rattle.floor.specs.Refusal.{Line, screen}

-- no line of the list is to be given
abbrev pub NoneGiven : List Line → Type 0
NoneGiven [] = Unit {0}
NoneGiven (l ∷ ls) = T (not l.given) × NoneGiven ls

pub none_given : (ls : List Line) → screen ls ≡ Passed → NoneGiven ls
none_given [] e = tt
none_given (l ∷ ls) e = go l.given e (none_given ls)
  where
    go : (b : Bool) → cond b (Refused l.number l.place) (screen ls) ≡ Passed → (screen ls ≡ Passed → NoneGiven ls)
        → T (not b) × NoneGiven ls
    go true e ih = let z : ◌≡◌ {A = ℕ} 0 1 = cc in absurd (omega arith)
    go false e ih = (tt, ih e)

-- the second screen is tried where the first has passed
abbrev pub and_then : Screen → Screen → Screen
and_then Passed s = s
and_then (Refused n p) s = Refused n p

pub screen_append : (ls ks : List Line) → screen (ls ++ ks) ≡ and_then (screen ls) (screen ks)
screen_append [] ks = refl
screen_append (l ∷ ls) ks = go l.given (screen_append ls ks)
  where
    go : (b : Bool) → screen (ls ++ ks) ≡ and_then (screen ls) (screen ks)
        → cond b (Refused l.number l.place) (screen (ls ++ ks)) ≡ and_then (cond b (Refused l.number l.place) (screen ls)) (screen ks)
    go true ih = refl
    go false ih = ih

-- after the lines ls, which a call has tried, the lines ks are left
pub screen_after : (ls ks : List Line) (tried s : Screen) → tried ≡ screen ls → tried ≡ s → screen (ls ++ ks) ≡ and_then s (screen ks)
screen_after ls ks tried s e h = screen_append ls ks ∙ ap (λ (x : Screen). and_then x (screen ks)) (sym e ∙ h)
