-- The side whose line a text begins with: the digits after the word can be those of one side alone, by a test of every side.
use mathlib.Core.Path.{◌≡◌, refl, sym, ◌∙◌, ap, subst}
use mathlib.Core.Bool.{Bool, false, cond, ◌&&◌}
use mathlib.Core.List.{List, [], ◌∷◌, ◌++◌, append_assoc}
use Prim.Native.Nat.{ℕ, zero, suc, ◌+◌, ◌-◌, ◌*◌, ◌≤◌, ◌<◌, zero-le, suc-le-suc}
use native.Mathlib.Omega.{arith}
use borrow.Author.Tests.{le-ltb}
use lib.Dec.{T, eqb, leb, ltb, eqb→eq, leb→le, ltb→lt, le→leb, lt→ltb}
use lib.ListN.{length, get_or, drop}
use lib.Seq.{drop-cons, drop-append_seam}
use Rattle.std.specs.Char.{is_ascii_digit}
use Rattle.paths.specs.Below.{lowest}
use Rattle.paths.proofs.Below.{lowest_is, lowest_none, every_at}
use Rattle.paths.proofs.Bools.{T_true, T_and, and_T, by_cond}
use Rattle.floor.specs.Place.{greatest_side}
use Rattle.textlines.specs.Line.{LF, digits, side_line, begins, side_in}
use Rattle.textlines.specs.Working.{run_value}
use Rattle.textlines.proofs.Beginnings.{begins_split}

-- the run stops at a number of four digits, and at a byte that is no digit
at_four : (n : ℕ) (text : List ℕ) → 1000 ≤ n → run_value n text ≡ n
at_four n [] h = refl
at_four n (b ∷ bs) h = rw (le-ltb n 1000 h)

pub run_full : (n : ℕ) (text : List ℕ) (at : ℕ) → 1000 ≤ n → run_value n (drop at text) ≡ n
run_full n text at h = at_four n (drop at text) h

pub run_stops : (n : ℕ) (text : List ℕ) (at : ℕ) → at < length text → is_ascii_digit (get_or text at 0) ≡ false → run_value n (drop at text) ≡ n
run_stops n text at h e =
    rw (drop-cons text at 0 h) (by_cond (λ (v : ℕ). v ≡ n) (ltb n 1000 && is_ascii_digit (get_or text at 0)) (run_value (10 * n + (get_or text at 0 - 48)) (drop (suc at) text)) n
    (λ t. let d : T false = rw e at (T_and (ltb n 1000) (is_ascii_digit (get_or text at 0)) t).1 in absurd d) (λ t. refl))

lowest_only : (p : ℕ → Bool) (top n : ℕ) → n < top → T (p n) → ((m : ℕ) → m < top → T (p m) → m ≡ n) → lowest p top ≡ n
lowest_only p top n h t only =
    let l = lowest_is p top in
    let low = l.minimal n h t in
    only (lowest p top) (omega arith) (l.passes (omega arith))

suc_inj : {m n : ℕ} → suc m ≡ suc n → m ≡ n
suc_inj e = omega arith

value_of_digits : (rest : List ℕ) (n : ℕ) → n ≤ greatest_side → run_value 0 (digits 4 n ++ (LF ∷ rest)) ≡ n
value_of_digits rest n h =
    eqb→eq _ n (every_at (λ n. eqb (run_value 0 (digits 4 n ++ (LF ∷ rest))) n) (suc greatest_side) tt n (omega arith))

module _ (word text : List ℕ) where
  -- the line of a side is there: the run after the word gives that side
  value_of_side : (n : ℕ) → n ≤ greatest_side → T (begins (side_line word n) text) → run_value 0 (drop (length word) text) ≡ n
  unfolding side_line
  value_of_side n h t =
      let rest = drop (length (side_line word n)) text in
      rw (begins_split (side_line word n) text t, append_assoc (word ++ digits 4 n) (LF ∷ []) rest, append_assoc word (digits 4 n) (LF ∷ rest), drop-append_seam)
      (value_of_digits rest n h)

  pub side_in_is : (n : ℕ) → 0 < n → n ≤ greatest_side → T (begins (side_line word n) text) → side_in word text ≡ n
  unfolding side_in
  side_in_is zero p h t = absurd (omega arith)
  side_in_is (suc n) p h t =
      ap suc
      (lowest_only (λ m. begins (side_line word (suc m)) text) greatest_side n h t
      (λ m l s. suc_inj (sym (value_of_side (suc m) l s) ∙ value_of_side (suc n) h t)))

  pub side_in_none : ((n : ℕ) → n ≡ run_value 0 (drop (length word) text) → 0 < n → n ≤ greatest_side → T (begins (side_line word n) text) → ⊥)
      → side_in word text ≡ suc greatest_side
  unfolding side_in
  side_in_none none-there =
      ap suc
      (lowest_none (λ m. begins (side_line word (suc m)) text) greatest_side
      (λ m l s. none-there (suc m) (sym (value_of_side (suc m) l s)) (omega arith) l s))

  -- by the number that the run gives
  abbrev is_told : ℕ → Bool
  is_told n = ltb 0 n && (leb n greatest_side && begins (side_line word n) text)

  told : (n : ℕ) → 0 < n → n ≤ greatest_side → T (begins (side_line word n) text) → T (is_told n)
  told n p h t = and_T (ltb 0 n) (leb n greatest_side && begins (side_line word n) text) (lt→ltb 0 n p) (and_T (leb n greatest_side) (begins (side_line word n) text) (le→leb n greatest_side h) t)

  pub side_in_by_run : side_in word text
      ≡ cond (ltb 0 (run_value 0 (drop (length word) text)) && (leb (run_value 0 (drop (length word) text)) greatest_side && begins (side_line word (run_value 0 (drop (length word) text))) text))
      (run_value 0 (drop (length word) text)) (suc greatest_side)
  side_in_by_run =
      let n = run_value 0 (drop (length word) text) in
      by_cond (λ (v : ℕ). side_in word text ≡ v) (is_told n) n (suc greatest_side)
      (λ t.
      let a = T_and (ltb 0 n) (leb n greatest_side && begins (side_line word n) text) t in
      let b = T_and (leb n greatest_side) (begins (side_line word n) text) a.1 in
      side_in_is n (ltb→lt 0 n a.0) (leb→le n greatest_side b.0) b.1)
      (λ t. side_in_none λ m g p h s. let k : T (is_told n) = subst (λ (v : ℕ). T (is_told v)) g (told m p h s) in rw (T_true (is_told n) k) at t)

  pub side_there : side_in word text ≤ greatest_side → T (begins (side_line word (side_in word text)) text)
  unfolding side_in
  side_there h = (lowest_is (λ n. begins (side_line word (suc n)) text) greatest_side).passes h

  pub side_positive : 0 < side_in word text
  unfolding side_in
  side_positive = suc-le-suc zero-le
