-- A side in decimal, digit by digit from the greatest unit on.
use mathlib.Core.Path.{◌≡◌}
use mathlib.Core.List.{List, [], ◌∷◌, ◌++◌}
use Prim.Native.Nat.{ℕ, ◌+◌, ◌/◌, ◌%◌, ◌≤◌, ◌<◌}
use native.Mathlib.Omega.{arith}
use native.Mathlib.Decide.{dec_lt}
use borrow.Author.Tests.{lt-ltb, le-ltb}
use lib.Dec.{ltb}
use lib.ListN.{length, length-append}
use Rattle.paths.proofs.Bools.{by_cond}
use Rattle.floor.specs.Place.{greatest_side}
use Rattle.textlines.specs.Line.{digits, side_line}
use Rattle.textlines.specs.Working.{greatest_word, digit_at}

pub four_digits : (n : ℕ) → 0 < n → n < 10000 → digits 4 n ≡ digit_at 1000 n ++ digit_at 100 n ++ digit_at 10 n ++ digit_at 1 n
unfolding digit_at
four_digits n h k =
    let ones : n / 1 % 10 ≡ n % 10 = omega arith in
    let tens : n / 10 / 10 ≡ n / 100 = omega arith in
    let hundreds : n / 100 / 10 ≡ n / 1000 = omega arith in
    elim (dec_lt n 10) [
      | yes a ↦
          let e : n % 10 ≡ n = omega arith in
          rw (lt-ltb n 10 a, lt-ltb n 100 (omega arith), lt-ltb n 1000 (omega arith), le-ltb n 1 (omega arith), ones, e)
      | no a ↦ elim (dec_lt n 100) [
        | yes b ↦
            let e : n / 10 % 10 ≡ n / 10 = omega arith in
            rw (le-ltb n 10 (omega arith), lt-ltb (n / 10) 10 (omega arith))
            (rw (lt-ltb n 100 b, lt-ltb n 1000 (omega arith), le-ltb n 1 (omega arith), ones, e))
        | no b ↦ elim (dec_lt n 1000) [
          | yes d ↦
              let e : n / 100 % 10 ≡ n / 100 = omega arith in
              rw (le-ltb n 10 (omega arith), le-ltb (n / 10) 10 (omega arith), tens, lt-ltb (n / 100) 10 (omega arith))
              (rw (le-ltb n 100 (omega arith), lt-ltb n 1000 d, le-ltb n 1 (omega arith), ones, e))
          | no d ↦
              let e : n / 1000 % 10 ≡ n / 1000 = omega arith in
              rw (le-ltb n 10 (omega arith), le-ltb (n / 10) 10 (omega arith), tens, le-ltb (n / 100) 10 (omega arith), hundreds)
              (rw (lt-ltb (n / 1000) 10 (omega arith), le-ltb n 100 (omega arith), le-ltb n 1000 (omega arith), le-ltb n 1 (omega arith), ones, e))
        ]
      ]
    ]

pub four_lengths : (n : ℕ) → 0 < n → n < 10000
    → length (digits 4 n) ≡ length (digit_at 1000 n) + length (digit_at 100 n) + length (digit_at 10 n) + length (digit_at 1 n)
four_lengths n h k = rw (four_digits n h k) (simp length-append)

digit_length : (unit n : ℕ) → length (digit_at unit n) ≤ 1
unfolding digit_at
digit_length unit n = by_cond (λ (l : List ℕ). length l ≤ 1) (ltb n unit) [] ((48 + n / unit % 10) ∷ []) (λ t. omega arith) (λ t. omega arith)

few_digits : (n : ℕ) → 0 < n → n < 10000 → length (digits 4 n) ≤ 4
few_digits n h k =
    omega (arith, four_lengths n h k, digit_length 1000 n, digit_length 100 n, digit_length 10 n, digit_length 1 n)

-- the word, at most four digits, LF
pub line_length : (word : List ℕ) (n : ℕ) → 0 < n → n ≤ greatest_side → length (side_line word n) ≤ length word + 5
unfolding side_line
line_length word n p k = simp length-append (omega (arith, few_digits n p (omega arith)))

pub short_line : (word : List ℕ) (n : ℕ) → length word ≤ greatest_word → 0 < n → n ≤ greatest_side → length (side_line word n) ≤ 12
short_line word n h p k = omega (arith, line_length word n p k)
