-- The bytes that a text gives are weights, by each test of `cell_of`; then byte by byte and row by row.
use mathlib.Core.Bool.{◌&&◌}
use mathlib.Core.List.{List, [], ◌∷◌, ◌++◌, map}
use Prim.Native.Nat.{ℕ, zero, suc, ◌+◌, ◌≤◌}
use native.Mathlib.Omega.{arith}
use lib.Dec.{eqb, ltb, ltb→lt}
use lib.ListN.{take, drop}
use lib.Seq.{get_or-drop}
use Rattle.paths.proofs.Bools.{by_cond, T_and}
use Rattle.floor.specs.Place.{greatest_weight}
use Rattle.textrows.specs.Cell.{Cell}
use Rattle.textrows.specs.Chars.{cell_of}
use Rattle.textrows.specs.Working.{byte_for, byte_or_0, bytes_in, Weights}

byte_small : (b : ℕ) → byte_or_0 b ≤ greatest_weight
unfolding cell_of
byte_small b =
    by_cond small (eqb b 46) _ _ (λ t. omega arith) λ t.
    by_cond small (eqb b 71) _ _ (λ t. omega arith) λ t.
    by_cond small (ltb 48 b && ltb b 58) _ _ (λ t. omega (arith, ltb→lt b 58 (T_and (ltb 48 b) (ltb b 58) t).1)) λ t.
    by_cond small (eqb b 64) _ _ (λ t. omega arith) λ t.
    by_cond small (eqb b 79) _ _ (λ t. omega arith) λ t.
    by_cond small (eqb b 84) _ _ (λ t. omega arith) λ t. omega arith
  where
    small : Cell → Type 0
    small cell = byte_for cell ≤ greatest_weight

weights_map : (bs : List ℕ) → Weights (map byte_or_0 bs)
weights_map [] v = omega arith
weights_map (b ∷ bs) zero = byte_small b
weights_map (b ∷ bs) (suc v) = weights_map bs v

weights_append : (xs ys : List ℕ) → Weights xs → Weights ys → Weights (xs ++ ys)
weights_append [] ys p q v = q v
weights_append (x ∷ xs) ys p q zero = p zero
weights_append (x ∷ xs) ys p q (suc v) = weights_append xs ys (λ u. p (suc u)) q v

pub weights_bytes : (w h : ℕ) (text : List ℕ) → Weights (bytes_in w h text)
weights_bytes w zero text = λ v. omega arith
weights_bytes w (suc h) text =
    weights_append (map byte_or_0 (take w text)) (bytes_in w h (drop (suc w) text)) (weights_map (take w text)) (weights_bytes w h (drop (suc w) text))

pub weights_drop : (k : ℕ) (m : List ℕ) → Weights m → Weights (drop k m)
weights_drop k m h v = rw (get_or-drop k m v 0) (h (k + v))
