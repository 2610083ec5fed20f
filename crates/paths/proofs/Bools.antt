-- Tests and what they say: `T b` against `b ≡ true`, conjunctions, and goals that hang on a `cond`.
use mathlib.Core.Path.{◌≡◌, refl, sym}
use mathlib.Core.Logic.{◌≢◌, ◌⊎◌, inl, inr}
use mathlib.Core.Bool.{Bool, true, false, cond, not, ◌&&◌, ◌||◌}
use Rattle.std.specs.Prelude.{None, Some}
use Prim.Native.Nat.{ℕ}
use native.Mathlib.Omega.{arith}
use borrow.Author.Tests.{eq-eqb, ne_eqb}
use lib.Dec.{T, eqb}

pub T_true : (b : Bool) → T b → b ≡ true
T_true true h = refl
T_true false h = absurd h

pub true_T : (b : Bool) → b ≡ true → T b
true_T b e = rw e tt

pub not_T_false : (b : Bool) → (T b → ⊥) → b ≡ false
not_T_false true h = absurd (h tt)
not_T_false false h = refl

pub same_test : (a b : Bool) → (T a → T b) → (T b → T a) → a ≡ b
same_test true b f g = sym (T_true b (f tt))
same_test false b f g = sym (not_T_false b g)

pub dec_T : (b : Bool) → Dec (T b)
dec_T true = yes tt
dec_T false = no (λ h. h)

pub and_T : (a b : Bool) → T a → T b → T (a && b)
and_T true b p q = q
and_T false b p q = p

pub T_and : (a b : Bool) → T (a && b) → T a × T b
T_and true b h = (tt, h)
T_and false b h = absurd h

pub T_not-not : (b : Bool) → T (not (not b)) → T b
T_not-not true h = tt
T_not-not false h = h

pub T-or : (a b : Bool) → T (a || b) → T a ⊎ T b
T-or true b h = inl tt
T-or false b h = inr h

pub not_eqb_ne : (a b : ℕ) → T (not (eqb a b)) → a ≢ b
not_eqb_ne a b h e = let k : T (not true) = rw (eq-eqb a b e) at h in absurd k

pub ne_not_eqb : (a b : ℕ) → a ≢ b → T (not (eqb a b))
ne_not_eqb a b h = rw (ne_eqb a b h) tt

pub eq_T : (a b : ℕ) → a ≡ b → T (eqb a b)
eq_T a b e = true_T (eqb a b) (eq-eqb a b e)

pub by_cond : {A : Type 0} (P : A → Type 0) (b : Bool) (x y : A) → (T b → P x) → (T (not b) → P y) → P (cond b x y)
by_cond P true x y f g = f tt
by_cond P false x y f g = g tt

pub cond_some : (b : Bool) (x c : ℕ) → cond b (Some x) None ≡ Some c → T b × (x ≡ c)
cond_some true x c e = (tt, cc)
cond_some false x c e = let z : ◌≡◌ {A = ℕ} 0 1 = cc in absurd (omega arith)
