-- Texts that are no map: an answer is a refusal exactly when the reading is, and the program also refuses what is too long, too wide or too high.
use mathlib.Core.Path.{◌≡◌, refl, sym, ap, ◌∙◌}
use mathlib.Core.Logic.Iff
use mathlib.Core.Logic.{◌↔◌, ◌⊎◌, inl, inr, ⊎_elim}
use mathlib.Core.Bool.{Bool, true, false, cond, ◌||◌}
use mathlib.Core.List.{List}
use Prim.Native.Nat.{ℕ, ◌≤◌, ◌<◌}
use native.Mathlib.Decide.{dec_lt}
use native.Mathlib.Omega.{arith}
use borrow.Author.Tests.{lt-ltb, le-ltb}
use lib.Dec.{T, ltb, ltb→lt}
use lib.ListN.{length}
use Rattle.paths.proofs.Bools.{T-or}
use Rattle.std.specs.Prelude.{Result}
use Rattle.floor.specs.declared.Floor.{Floor}
use Rattle.floor.specs.declared.refusals.Refusal.{Refusal}
use Rattle.floor.specs.Numbers.{Numbers}
use Rattle.maptext.specs.Reading.{Reading, refused, read, reading_of, numbers_of, read_for, cells_left, IsRead}
use Rattle.maptext.specs.Faults.{IsFirstFault}
use Rattle.maptext.proofs.Refusals.{refused_exactly}
use Rattle.mapuse.specs.Use.{greatest_text, greatest_used_side, within_sides, used_of, IsUsed}
use Rattle.tender.specs.FirstCondition.{Refuses, IsUnusable, too_long, unread, too_great}

-- an answer of the reader is a refusal exactly when the reading is
read_refused : (x : Reading) {a : Numbers} (n p : ℕ) → a ≡ read_for x → (a ≡ Numbers.refused n p) ↔ (x ≡ refused n p)
read_refused x n p e = (λ k. from x (sym e ∙ k), λ k. e ∙ ap read_for k)
  where
    from : (x : Reading) → read_for x ≡ Numbers.refused n p → x ≡ refused n p
    from (refused a b) e = let number : a ≡ n = cc in let place : b ≡ p = cc in rw (number, place)
    from (read w h m) e = let z : ◌≡◌ {A = ℕ} 0 1 = cc in absurd (omega arith)

-- an answer from a reading, with the room that it leaves
from_reading : {due : ℕ → ℕ → Type 0} {room room' : List ℕ} {a : Numbers} (x : Reading) → a ≡ read_for x → room' ≡ cells_left x room
    → ((n p : ℕ) → (x ≡ refused n p) ↔ due n p) → Refuses due (λ n p. a ≡ Numbers.refused n p) (room' ≡ room)
from_reading {room = room} x answers leaves exactly = record {
  exactly = λ n p. Iff.trans (read_refused x n p answers) (exactly n p);
  alters_nothing = λ n p e. leaves ∙ ap (λ (y : Reading). cells_left y room) ((read_refused x n p answers).0 e);
}

pub reader_refuses : (text room : List ℕ) (r : Result Floor Refusal) (room' : List ℕ) → IsRead text room r room'
    → Refuses (IsFirstFault text (length room)) (λ n p. numbers_of r ≡ Numbers.refused n p) (room' ≡ room)
reader_refuses text room r room' x = from_reading (reading_of text (length room)) x.answers x.leaves (refused_exactly text (length room))

pub judge_refuses : (text : List ℕ) (room : ℕ) (r : Result Floor Refusal) → numbers_of r ≡ read_for (reading_of text room)
    → (n p : ℕ) → (numbers_of r ≡ Numbers.refused n p) ↔ IsFirstFault text room n p
judge_refuses text room r e n p = Iff.trans (read_refused (reading_of text room) n p e) (refused_exactly text room n p)

-- a map is refused for a side exactly when one is too great
sides_refused : (w h : ℕ) (m : List ℕ) (n p : ℕ)
    → (within_sides (read w h m) ≡ refused n p) ↔ (((greatest_used_side < w) ⊎ (greatest_used_side < h)) × (n ≡ 14) × (p ≡ 0))
sides_refused w h m n p = (from (ltb greatest_used_side w || ltb greatest_used_side h) great, λ x. to x.0 x.1 x.2)
  where
    great : T (ltb greatest_used_side w || ltb greatest_used_side h) → (greatest_used_side < w) ⊎ (greatest_used_side < h)
    great t = ⊎_elim (λ a. inl (ltb→lt greatest_used_side w a)) (λ b. inr (ltb→lt greatest_used_side h b)) (T-or (ltb greatest_used_side w) (ltb greatest_used_side h) t)

    from : (b : Bool) → (T b → (greatest_used_side < w) ⊎ (greatest_used_side < h)) → cond b (refused 14 0) (read w h m) ≡ refused n p
        → ((greatest_used_side < w) ⊎ (greatest_used_side < h)) × (n ≡ 14) × (p ≡ 0)
    from true g e = (g tt, cc, cc)
    from false g e = let z : ◌≡◌ {A = ℕ} 0 1 = cc in absurd (omega arith)

    or_true : (b : Bool) → (b || true) ≡ true
    or_true true = refl
    or_true false = refl

    to : (greatest_used_side < w) ⊎ (greatest_used_side < h) → n ≡ 14 → p ≡ 0 → within_sides (read w h m) ≡ refused n p
    to (inl a) e f = rw (lt-ltb greatest_used_side w a, e, f) refl
    to (inr b) e f = rw (lt-ltb greatest_used_side h b, or_true (ltb greatest_used_side w), e, f) refl

module _ (text : List ℕ) (room n p : ℕ) where
  short_refused : length text ≤ greatest_text → (x : Reading) → reading_of text room ≡ x → (within_sides x ≡ refused n p) → IsUnusable text room n p
  short_refused short (refused a b) e given = unread short ((refused_exactly text room n p).0 (e ∙ given))
  short_refused short (read w h m) e given = let s = (sides_refused w h m n p).0 given in too_great short w h m e s.0 s.1 s.2

  -- what the program cannot use
  used_refused : (used_of text room ≡ refused n p) ↔ IsUnusable text room n p
  unfolding used_of
  used_refused = (from (dec_lt greatest_text (length text)), to)
    where
      from : Dec (greatest_text < length text) → used_of text room ≡ refused n p → IsUnusable text room n p
      from (yes long) e =
          let given : refused 14 0 ≡ refused n p = rw (lt-ltb greatest_text (length text) long) at e in
          let number : n ≡ 14 = cc in
          let place : p ≡ 0 = cc in
          too_long long number place
      from (no k) e =
          let short : length text ≤ greatest_text = omega arith in
          short_refused short (reading_of text room) refl (rw (le-ltb greatest_text (length text) short) at e)

      to : IsUnusable text room n p → used_of text room ≡ refused n p
      to (too_long long e f) = rw (lt-ltb greatest_text (length text) long, e, f) refl
      to (unread short x) = rw (le-ltb greatest_text (length text) short, (refused_exactly text room n p).1 x) refl
      to (too_great short w h m e s f g) = rw (le-ltb greatest_text (length text) short, e) ((sides_refused w h m n p).1 (s, f, g))

pub program_refuses : (text room : List ℕ) (r : Result Floor Refusal) (room' : List ℕ) → IsUsed text room r room'
    → Refuses (IsUnusable text (length room)) (λ n p. numbers_of r ≡ Numbers.refused n p) (room' ≡ room)
program_refuses text room r room' x = from_reading (used_of text (length room)) x.answers x.leaves (used_refused text (length room))
