-- A text that begins with a line: as std tests it, and as the line and a rest.
use mathlib.Core.Path.{◌≡◌, refl, ap}
use mathlib.Core.Bool.{◌&&◌}
use mathlib.Core.List.{List, [], ◌∷◌, ◌++◌}
use Prim.Native.Nat.{ℕ, ◌+◌, ◌≤◌}
use native.Mathlib.Omega.{arith}
use Rattle.std.specs.List.{starts_with}
use lib.Dec.{T, eqb, eqb→eq, eqb_refl}
use lib.ListN.{length, drop}
use Rattle.paths.proofs.Bools.{T_and, and_T}
use Rattle.textlines.specs.Line.{begins}

-- what std's `starts_with` answers
pub begins_is : (line text : List ℕ) → begins line text ≡ starts_with eqb text line
begins_is [] text = refl
begins_is (b ∷ bs) [] = refl
begins_is (b ∷ bs) (c ∷ cs) = ap (λ t. eqb b c && t) (begins_is bs cs)

pub begins_length : (line text : List ℕ) → T (begins line text) → length line ≤ length text
begins_length [] text t = omega arith
begins_length (b ∷ bs) [] t = absurd t
begins_length (b ∷ bs) (c ∷ cs) t = let r = begins_length bs cs (T_and (eqb b c) (begins bs cs) t).1 in omega arith

pub begins_split : (line text : List ℕ) → T (begins line text) → text ≡ line ++ drop (length line) text
begins_split [] text t = refl
begins_split (b ∷ bs) [] t = absurd t
begins_split (b ∷ bs) (c ∷ cs) t =
    let a = T_and (eqb b c) (begins bs cs) t in
    rw (eqb→eq b c a.0) (ap {B = List ℕ} (λ l. c ∷ l) (begins_split bs cs a.1))

pub begins_append : (line rest : List ℕ) → T (begins line (line ++ rest))
begins_append [] rest = tt
begins_append (b ∷ bs) rest = and_T (eqb b b) (begins bs (bs ++ rest)) (eqb_refl b) (begins_append bs rest)
