-- A buffer whose records are answered one after the other: whoever answers the records that are left has answered them all.
use mathlib.Core.Path.{◌≡◌, refl, sym, ap, ◌∙◌, subst}
use mathlib.Core.List.{List, ◌++◌, append_assoc}
use Prim.Native.Nat.{ℕ, suc, ◌+◌, ◌-◌, ◌*◌, ◌≤◌, ◌<◌}
use native.Mathlib.Nat.{div-add-mod'}
use native.Mathlib.Omega.{arith}
use lib.ListN.{length, take, drop, take-append-drop}
use lib.Seq.{length-paste, take-paste, drop-paste, drop-drop, take-length}
use Rattle.floor.specs.declared.Floor.{Floor}
use borrow.Rule.Slice.PartMut.{put_mid}
use Rattle.std.proofs.lemmas.Slice.{put_mid-paste}
use Rattle.answering.specs.Answer.{Answer}
use Rattle.answering.specs.Rooms.{Rooms}
use Rattle.recordlayout.specs.Record.{record_size, record_of}
use Rattle.recordlayout.proofs.Records.{record_length}
use Rattle.desk.specs.Desk.{Asked, Answered, whole_records, IsAnswered}
use Rattle.desk.specs.Working.{AnsweredAt}

-- the question was the part of the buffer from `at` on, and its answer has been stored there
pub answered_at : {f : Floor} {m bytes : List ℕ} {at : ℕ} {r : Rooms} {a : Answer} {part : List ℕ} {r' : Rooms}
    → Asked f m (take (at + record_size - at) (drop at bytes)) r a r' → part ≡ record_of a
    → AnsweredAt f m bytes at r (put_mid at (at + record_size - at) bytes part) r'
answered_at {bytes = bytes} {at} {a = a} {part} x e =
    let size : at + record_size - at ≡ record_size = omega arith in
    record {
      answer = a;
      asked = rw size at x;
      leaves = put_mid-paste at (at + record_size - at) bytes part (record_of a) record_size e (sym size) (sym (record_length a));
    }

-- i of the n records of a buffer have been answered
pub record Answering (f : Floor) (m : List ℕ) (n : ℕ) (bytes : List ℕ) (r : Rooms) (i : ℕ) (bytes' : List ℕ) (r' : Rooms) : Type 0 where
  pub room : n * record_size ≤ length bytes'
  pub rest : (out : List ℕ) (r'' : Rooms) → Answered f m (n - i) (drop (i * record_size) bytes') r' out r''
      → Answered f m n bytes r (take (i * record_size) bytes' ++ out) r''

pub answering_none : (f : Floor) (m bytes : List ℕ) (r : Rooms) → Answering f m (whole_records bytes) bytes r 0 bytes r
answering_none f m bytes r = record {
  room = omega (arith, div-add-mod' (length bytes) record_size);
  rest = λ out r'' t. let all : whole_records bytes - 0 ≡ whole_records bytes = omega arith in rw all at t;
}

pub answering_all : {f : Floor} {m bytes : List ℕ} {r : Rooms} {i : ℕ} {bytes' : List ℕ} {r' : Rooms} → i ≡ whole_records bytes
    → Answering f m (whole_records bytes) bytes r i bytes' r' → IsAnswered f m bytes r (whole_records bytes * record_size) bytes' r'
answering_all {f} {m} {bytes} {r} {i} {bytes'} {r'} e p =
    let at = i * record_size in
    let done : whole_records bytes - i ≡ 0 = omega (arith, e) in
    let none : Answered f m (whole_records bytes - i) (drop at bytes') r' (drop at bytes') r' = rw done (refl, refl) in
    record {
      bytes_answered = refl;
      records = rw (take-append-drop at bytes') at (p.rest (drop at bytes') r' none);
    }

module _ {f : Floor} {m : List ℕ} {n : ℕ} {bytes : List ℕ} {r : Rooms} {i : ℕ} {bytes' : List ℕ} {r' : Rooms} (p : Answering f m n bytes r i bytes' r') (h : i < n) where
  abbrev at : ℕ
  at = i * record_size

  pub next_within : at + record_size ≤ length bytes'
  next_within = omega (arith, p.room)

  pub answering_next : {bytes'' : List ℕ} {r'' : Rooms} → AnsweredAt f m bytes' at r' bytes'' r'' → Answering f m n bytes r (i + 1) bytes'' r''
  answering_next {bytes''} {r''} x =
      let answer = record_of x.answer in
      let size = record_length x.answer in
      let enough : record_size ≤ length answer = omega arith in
      let inside : at ≤ length bytes' = omega (arith, next_within) in
      let whole : take record_size answer ≡ answer = ap (λ (k : ℕ). take k answer) (sym size) ∙ take-length answer in
      let len : length bytes'' ≡ length bytes' = ap length x.leaves ∙ length-paste bytes' at answer record_size next_within enough in
      let next : (i + 1) * record_size ≡ at + record_size = omega arith in
      let before : take ((i + 1) * record_size) bytes'' ≡ take at bytes' ++ answer =
      ap (λ (k : ℕ). take k bytes'') next
      ∙ ap (take (at + record_size)) x.leaves ∙ take-paste bytes' at answer record_size inside enough ∙ ap (λ (b : List ℕ). take at bytes' ++ b) whole in
      let after : drop ((i + 1) * record_size) bytes'' ≡ drop record_size (drop at bytes') =
      ap (λ (k : ℕ). drop k bytes'') next
      ∙ ap (drop (at + record_size)) x.leaves ∙ drop-paste bytes' at answer record_size inside enough ∙ sym (drop-drop record_size at bytes') in
      let one : n - i ≡ suc (n - (i + 1)) = omega arith in
      record {
        room = omega (arith, p.room, len);
        rest = λ out r''' t.
            let others = subst (λ (b : List ℕ). Answered f m (n - (i + 1)) b r'' out r''') after t in
            let all = p.rest (answer ++ out) r''' (subst (λ (k : ℕ). Answered f m k (drop at bytes') r' (answer ++ out) r''') (sym one)
            (record { answer = x.answer; between = r''; rest = out; asked = x.asked; others = others; leaves = refl })) in
            subst (λ (b : List ℕ). Answered f m n bytes r (b ++ out) r''') (sym before) (subst (λ (b : List ℕ). Answered f m n bytes r b r''') (sym (append_assoc (take at bytes') answer out)) all);
      }
