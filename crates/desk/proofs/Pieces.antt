-- The two functions of a turn make a turn; two turns are one turn of both pieces; and so any cutting of the input gives the same answers.
use mathlib.Core.Path.{◌≡◌, refl, sym, ap, ◌∙◌, subst}
use mathlib.Core.List.{List, [], ◌∷◌, ◌++◌, append_assoc, append-nil, flatten}
use Prim.Native.Nat.{ℕ, zero, suc, ◌+◌, ◌*◌, ◌/◌, ◌≤◌, ◌<◌}
use native.Mathlib.Nat.{add-zero, div-add-mod'}
use native.Mathlib.Omega.{arith}
use lib.ListN.{length, take, drop, take-append-drop, length-append, length-take, length-drop}
use lib.Seq.{slice, take-take, take-append-le, drop-append-le, take_at, drop_at, length-take-le}
use Rattle.floor.specs.declared.Floor.{Floor}
use Rattle.answering.specs.Rooms.{Rooms}
use Rattle.recordlayout.specs.Record.{record_size, record_of}
use Rattle.recordlayout.proofs.Records.{record_length}
use Rattle.desk.specs.Desk.{Answered, whole_records, IsAnswered}
use Rattle.desk.specs.Turn.{Turn, Turns, ArrivedAnswered, IsKept}
use Rattle.desk.proofs.Promises.{one_answering}

whole_within : (bytes : List ℕ) → whole_records bytes * record_size ≤ length bytes
whole_within bytes = omega (arith, div-add-mod' (length bytes) record_size)

empty : (l : List ℕ) → length l ≡ 0 → l ≡ []
empty [] e = refl
empty (b ∷ l) e = absurd (omega (arith, e))

-- what is kept stands at the buffer's front
kept_is : {buffer : List ℕ} {from end n : ℕ} {buffer' : List ℕ} → IsKept buffer from end n buffer' → take n buffer' ≡ slice from end buffer
kept_is {buffer} {from} {end} {n} y = ap (take n) y.leaves ∙ take_at (slice from end buffer) (drop n buffer) n (sym y.count)

pub kept_length : {buffer : List ℕ} {from end n : ℕ} {buffer' : List ℕ} → IsKept buffer from end n buffer' → length (take n buffer') ≡ n
kept_length y = ap length (kept_is y) ∙ sym y.count

module _ (f : Floor) (m : List ℕ) where
  -- answers take the place of their questions
  answered_length : (n : ℕ) (bytes : List ℕ) (r : Rooms) (bytes' : List ℕ) (r' : Rooms) → n * record_size ≤ length bytes → Answered f m n bytes r bytes' r'
      → length bytes' ≡ length bytes
  answered_length zero bytes r bytes' r' h x = ap length x.0
  answered_length (suc n) bytes r bytes' r' h x =
      let behind = length-drop record_size bytes in
      let rest = answered_length n (drop record_size bytes) x.between x.rest r' (omega (arith, behind)) x.others in
      ap length x.leaves ∙ length-append (record_of x.answer) x.rest ∙ omega (arith, rest, behind, record_length x.answer)

  -- the first n records are answered, and then j of those that follow them and come later
  answered_more : (n j : ℕ) (bytes : List ℕ) (r : Rooms) (done kept : List ℕ) (left : Rooms) (more out : List ℕ) (r' : Rooms) → n * record_size ≤ length bytes
      → length done ≡ n * record_size → Answered f m n bytes r (done ++ kept) left → Answered f m j (kept ++ more) left out r'
      → Answered f m (j + n) (bytes ++ more) r (done ++ out) r'
  answered_more zero j bytes r done kept left more out r' h size x y =
      let none = empty done (omega (arith, size)) in
      let same = rw none at x.0 in
      rw (none, add-zero j) (rw (same, x.1) at y)
  answered_more (suc n) j bytes r done kept left more out r' h size x y =
      let fits : record_size ≤ length done = omega (arith, size) in
      let inside : record_size ≤ length bytes = omega arith in
      let a = record_of x.answer in
      let later = drop record_size done in
      let first : take record_size done ≡ a =
      sym (take-append-le record_size done kept fits) ∙ ap (take record_size) x.leaves ∙ take_at a x.rest record_size (record_length x.answer) in
      let rest : x.rest ≡ later ++ kept =
      sym (drop_at a x.rest record_size (record_length x.answer)) ∙ sym (ap (drop record_size) x.leaves) ∙ drop-append-le record_size done kept fits in
      let others = answered_more n j (drop record_size bytes) x.between later kept left more out r' (omega (arith, length-drop record_size bytes)) (omega (arith, length-drop record_size done, size)) (rw rest at x.others) y in
      let one_more : j + suc n ≡ suc (j + n) = omega arith in
      let all : Answered f m (suc (j + n)) (bytes ++ more) r (done ++ out) r' = record {
        answer = x.answer;
        between = x.between;
        rest = later ++ out;
        asked = rw (take-append-le record_size bytes more inside) x.asked;
        others = rw (drop-append-le record_size bytes more inside) others;
        leaves =
            ap (λ (b : List ℕ). b ++ out) (sym (take-append-drop record_size done))
            ∙ append_assoc (take record_size done) later out
            ∙ ap (λ (b : List ℕ). b ++ (later ++ out)) first;
      } in
      subst (λ (k : ℕ). Answered f m k (bytes ++ more) r (done ++ out) r') (sym one_more) all

  module _ {kept piece : List ℕ} {r : Rooms} {written kept' : List ℕ} {left : Rooms} (x : Turn f m kept piece r written kept' left) where
    turn_length : length written + length kept' ≡ length kept + length piece
    turn_length =
        sym (length-append written kept')
        ∙ answered_length (whole_records (kept ++ piece)) (kept ++ piece) r (written ++ kept') left (whole_within (kept ++ piece)) x.answered.records
        ∙ length-append kept piece

    turn_count : length written ≡ (length kept + length piece) / record_size * record_size
    turn_count = rw (sym (length-append kept piece)) x.answered.bytes_answered

    -- what is kept is a broken record
    pub kept_broken : length kept' < record_size
    kept_broken = omega (arith, turn_length, turn_count)

    -- a turn, and then another: a turn of both pieces
    pub turn_on : {more written₂ kept'' : List ℕ} {r' : Rooms} → Turn f m kept' more left written₂ kept'' r'
        → Turn f m kept (piece ++ more) r (written ++ written₂) kept'' r'
    turn_on {more} {written₂} {kept''} {r'} y =
        let n = whole_records (kept ++ piece) in
        let j = whole_records (kept' ++ more) in
        let all = answered_more n j (kept ++ piece) r written kept' left more (written₂ ++ kept'') r' (whole_within (kept ++ piece)) x.answered.bytes_answered x.answered.records y.answered.records in
        let arrived : kept ++ (piece ++ more) ≡ kept ++ piece ++ more = sym (append_assoc kept piece more) in
        let count : whole_records (kept ++ piece ++ more) ≡ j + n =
        simp (length-append) (omega (arith, turn_length, turn_count)) in
        let records = subst (λ (k : ℕ). Answered f m k (kept ++ piece ++ more) r (written ++ (written₂ ++ kept'')) r') (sym count) all in
        record {
          answered = record {
            bytes_answered = rw (arrived, count, length-append written written₂) (omega (arith, x.answered.bytes_answered, y.answered.bytes_answered));
            records = rw (arrived, append_assoc written written₂ kept'') records;
          };
        }

  -- no bytes have come, and a broken record waits on
  pub no_piece : (kept : List ℕ) (r : Rooms) → length kept < record_size → Turn f m kept [] r [] kept r
  no_piece kept r short =
      let none : whole_records (kept ++ []) ≡ 0 = rw (append-nil kept) (omega arith) in
      record {
        answered = record {
          bytes_answered = rw none refl;
          records = subst (λ (k : ℕ). Answered f m k (kept ++ []) r kept r) (sym none) (sym (append-nil kept), refl);
        };
      }

  -- turns for the pieces are one turn for all of them
  pub turns_at_once : (pieces : List (List ℕ)) (kept : List ℕ) (r : Rooms) (written kept' : List ℕ) (r' : Rooms) → length kept < record_size
      → Turns f m pieces kept r written kept' r' → Turn f m kept (flatten pieces) r written kept' r'
  unfolding flatten
  turns_at_once [] kept r written kept' r' short x =
      rw (x.0, x.1, x.2) (no_piece kept r short)
  turns_at_once (piece ∷ pieces) kept r written kept' r' short x =
      let others = turns_at_once pieces x.between x.left x.rest kept' r' (kept_broken x.turn) x.others in
      rw x.writes (turn_on x.turn others)

  -- Any cutting of the input into pieces, empty ones too, gives the answers that all of it at once gives, and keeps the same broken record
  pub any_cutting : (pieces : List (List ℕ)) (r : Rooms) (written kept : List ℕ) (r' : Rooms) → Turns f m pieces [] r written kept r'
      → (n : ℕ) (bytes : List ℕ) (r'' : Rooms) → IsAnswered f m (flatten pieces) r n bytes r''
      → (n ≡ length written) × (bytes ≡ written ++ kept) × (r'' ≡ r')
  any_cutting pieces r written kept r' x n bytes r'' y = one_answering f m (flatten pieces) r y (turns_at_once pieces [] r written kept r' (omega arith) x).answered

  -- the two functions of a turn
  module _ {buffer : List ℕ} {end : ℕ} {r : Rooms} {n : ℕ} {buffer' : List ℕ} {r' : Rooms} (x : ArrivedAnswered f m buffer end r n buffer' r') where
    answers_inside : n ≤ length (take end buffer')
    answers_inside =
        let a = x.arrived in
        let same = answered_length (whole_records (take end buffer)) (take end buffer) r (take end buffer') r' (whole_within (take end buffer)) a.records in
        omega (arith, a.bytes_answered, whole_within (take end buffer), same)

    pub answers_within : n ≤ length buffer'
    answers_within = omega (arith, answers_inside, length-take end buffer')

    pub turn_made : {k : ℕ} {buffer'' : List ℕ} → IsKept buffer' n end k buffer'' → Turn f m [] (take end buffer) r (take n buffer') (take k buffer'') r'
    turn_made {k} {buffer''} y =
        let inside = answers_inside in
        let written : take n buffer' ≡ take n (take end buffer') = sym (take-take n end buffer' (omega (arith, inside, length-take end buffer'))) in
        let size : length (take n buffer') ≡ n = length-take-le n buffer' answers_within in
        let out : take n buffer' ++ take k buffer'' ≡ take end buffer' =
        ap (λ (b : List ℕ). b ++ take k buffer'') written
        ∙ ap (λ (b : List ℕ). take n (take end buffer') ++ b) (kept_is y)
        ∙ take-append-drop n (take end buffer') in
        record { answered = rw (size, out) x.arrived }
