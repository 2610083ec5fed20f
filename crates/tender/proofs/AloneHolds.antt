-- Each record as if alone: the record at place i is answered in rooms that kept their lengths, and what rooms of these lengths hold does not show in an answer.
use mathlib.Core.Path.{◌≡◌, refl, sym, ◌∙◌, ap, subst}
use mathlib.Core.Bool.{Bool, true, false}
use mathlib.Core.List.{List, [], append-nil}
use Prim.Native.Nat.{ℕ, ◌/◌, ◌<◌}
use native.Mathlib.Nat.{div-add-mod'}
use native.Mathlib.Omega.{arith}
use lib.ListN.{length, take, drop, length-take, length-drop}
use lib.Seq.{take_all, drop-length}
use Rattle.floor.specs.declared.Floor.{Floor}
use Rattle.answering.specs.Answer.{Answer}
use Rattle.answering.specs.Rooms.{Rooms}
use Rattle.recordlayout.specs.Record.{record_size, question_in, ways_in, ends_in_zeros, record_of}
use Rattle.desk.specs.Desk.{with_ways, Asked, no_zeros, searched, Answered, whole_records, record_at, IsAnswered}
use Rattle.tender.specs.SearchTable.{SameLengths}
use Rattle.tender.specs.Alone.{AsIfAlone}
use Rattle.tender.proofs.Searches.{a_search, same_answer, same_written}
use Rattle.tender.proofs.Records.{alike, answered_each, rest_stays}

module _ (f : Floor) (m : List ℕ) where
  -- one question in rooms that differ
  same_asked : {question : List ℕ} {r p : Rooms} {a b : Answer} {r' p' : Rooms} → SameLengths r p → Asked f m question r a r' → Asked f m question p b p' → a ≡ b
  same_asked s (no_zeros z e l) (no_zeros z' e' l') = e ∙ sym e'
  same_asked s (no_zeros z e l) (searched z' y) = let w : ◌≡◌ {A = ℕ} 0 1 = cc in absurd (omega arith)
  same_asked s (searched z x) (no_zeros z' e l) = let w : ◌≡◌ {A = ℕ} 0 1 = cc in absurd (omega arith)
  same_asked s (searched z x) (searched z' y) = same_answer s x y

  -- there is an answer to every record
  an_answer : (question : List ℕ) (r : Rooms) → (a : Answer) × (r' : Rooms) × Asked f m question r a r'
  an_answer question r = go (ends_in_zeros question) refl
    where
      go : (b : Bool) → ends_in_zeros question ≡ b → (a : Answer) × (r' : Rooms) × Asked f m question r a r'
      go false e = (Answer.Refused 13 0, r, no_zeros e refl refl)
      go true e = let x = a_search (with_ways f (ways_in question)) m (question_in question) r in (x.0, x.1, searched e x.2)

  -- a buffer of one record
  only_record : (question : List ℕ) (p : Rooms) (a : Answer) (p' : Rooms) (out : List ℕ) → length question ≡ record_size → Asked f m question p a p'
      → out ≡ record_of a → IsAnswered f m question p record_size out p'
  only_record question p a p' out size x e =
      let one : whole_records question ≡ 1 = ap (λ (k : ℕ). k / record_size) size in
      let whole : take record_size question ≡ question = take_all record_size question (omega arith) in
      let none : drop record_size question ≡ [] = ap (λ (k : ℕ). drop k question) (sym size) ∙ drop-length question in
      let records : Answered f m 1 question p out p' = record {
        answer = a;
        between = p';
        rest = [];
        asked = rw whole x;
        others = (sym none, refl);
        leaves = e ∙ sym (append-nil (record_of a));
      } in
      record {
        bytes_answered = omega (arith, one);
        records = subst (λ (k : ℕ). Answered f m k question p out p') (sym one) records;
      }

  record_size_lem : (bytes : List ℕ) (i : ℕ) → i < whole_records bytes → length (record_at i bytes) ≡ record_size
  record_size_lem bytes i h = simp (length-take, length-drop) (omega (arith, div-add-mod' (length bytes) record_size))

  as_alone : (bytes : List ℕ) (r : Rooms) (n : ℕ) (bytes' : List ℕ) (r' : Rooms) → IsAnswered f m bytes r n bytes' r' → (p : Rooms) → SameLengths r p
      → (i : ℕ) → i < whole_records bytes → (p' : Rooms) × IsAnswered f m (record_at i bytes) p record_size (record_at i bytes') p'
  as_alone bytes r n bytes' r' x p same i h =
      let here = answered_each f m (whole_records bytes) bytes r bytes' r' x.records i h in
      let again = an_answer (record_at i bytes) p in
      let e = same_asked (alike here.lengths same) here.asked again.2 in
      (again.1, only_record (record_at i bytes) p again.0 again.1 (record_at i bytes') (record_size_lem bytes i h) again.2 (here.leaves ∙ ap record_of e))

-- Every question is answered as if it were asked alone
pub as_if_alone : AsIfAlone
as_if_alone = record {
  search = λ f m q r p same a b r' p' x y. (same_answer same x y, same_written same x y);
  each = as_alone;
  rest = λ f m bytes r n bytes' r' x. rw x.bytes_answered (rest_stays f m (whole_records bytes) bytes r bytes' r' x.records);
}
