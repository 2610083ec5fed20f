-- A file that is cut: the entries before the cut are read, and what is left of the next is refused as 61, since the end of the file is met first.
use mathlib.Core.Path.{◌≡◌, sym, ap, ◌∙◌}
use mathlib.Core.Bool.{true}
use mathlib.Core.List.{List, [], ◌∷◌, ◌++◌, append_assoc}
use Prim.Native.Nat.{ℕ, ◌+◌, ◌-◌, ◌≤◌, ◌<◌}
use native.Mathlib.Decide.{dec_lt, dec_le, ℕ_discrete}
use native.Mathlib.Omega.{arith}
use borrow.Author.Tests.{ne_eqb, le-leb, lt-leb}
use lib.Dec.{eqb, eqb→eq}
use lib.ListN.{length, take, length-append}
use lib.Seq.{take-append-add, take-append-le, drop-append_seam, length-take-le}
use Rattle.paths.proofs.Bools.{T_true, eq_T, same_test}
use Rattle.recordlayout.specs.Record.{record_size}
use Rattle.logentries.specs.Entry.{Entry, route_size, route_bytes, entry_bytes, can_be_logged, steps_in, IsEntry}
use Rattle.routelog.specs.Reading.{refused, reading_of}
use Rattle.routelog.specs.File.{file_bytes, log_with, log_of, AllEntries, whole_before, cut_ending}
use Rattle.logentries.proofs.Sizes.{route_length_lem, entry_length}
use Rattle.routelog.proofs.Judging.{head_ends, by_route, route_ends}
use Rattle.routelog.proofs.Taking.{reading_judged}
use Rattle.routelog.proofs.Back.{parted, read_bytes}
use Rattle.routelog.proofs.Files.{log_on, log_nil}

module _ (e : Entry) (k : IsEntry e) (n room : ℕ) (some : 0 < n) (cut : n < length (entry_bytes e)) where
  abbrev piece : List ℕ
  piece = take n (entry_bytes e)

  piece_length : length piece ≡ n
  piece_length = length-take-le n (entry_bytes e) (omega arith)

  -- the cut is in the route
  in_route : record_size + record_size ≤ n → piece ≡ e.question ++ (e.answer ++ take (n - (record_size + record_size)) (route_bytes e.route))
  unfolding entry_bytes
  in_route h =
      let head = e.question ++ e.answer in
      let long : length head ≡ record_size + record_size = length-append e.question e.answer ∙ rw (k.question_whole, k.answer_whole) in
      let at : n ≡ length head + (n - (record_size + record_size)) = omega arith in
      let route = route_bytes e.route in
      ap (λ (m : ℕ). take m (head ++ route)) at ∙ take-append-add head route (n - (record_size + record_size))
      ∙ append_assoc e.question e.answer (take (n - (record_size + record_size)) route)

  torn_route : record_size + record_size ≤ n → reading_of piece room ≡ refused 61 0
  torn_route h =
      let left = take (n - (record_size + record_size)) (route_bytes e.route) in
      let p = parted e.question e.answer left (in_route h) k.question_whole k.answer_whole in
      let size = entry_length e in
      let short : length left ≡ n - (record_size + record_size) = length-take-le (n - (record_size + record_size)) (route_bytes e.route)
      (omega (arith, route_length_lem e.route, k.question_whole, k.answer_whole)) in
      let ends : length left < route_size (steps_in e.answer) = rw (← k.count) (omega (arith, k.question_whole, k.answer_whole)) in
      let logged : can_be_logged e.answer ≡ true = T_true (can_be_logged e.answer) k.answer_fits in
      reading_judged piece room (λ z. omega (arith, piece_length))
      (by_route piece room (omega (arith, piece_length)) (rw p.1 logged) (sym p.2) (ap steps_in (sym p.1)) ∙ route_ends left (steps_in e.answer) room ends)

  pub torn : reading_of piece room ≡ refused 61 0
  torn = elim (dec_lt n (record_size + record_size)) [
    | yes h ↦ reading_judged piece room (λ z. omega (arith, piece_length)) (head_ends piece room (omega (arith, piece_length)))
    | no h ↦ torn_route (omega arith)
  ]

-- a count of bytes that is taken up by the first entry on both sides
same_count : (l n x : ℕ) → l ≤ n → eqb n (l + x) ≡ eqb (n - l) x
same_count l n x h =
    same_test (eqb n (l + x)) (eqb (n - l) x) (λ t. eq_T (n - l) x (omega (arith, eqb→eq n (l + x) t))) (λ t. eq_T n (l + x) (omega (arith, eqb→eq (n - l) x t)))

module _ (room : ℕ) (e : Entry) (es : List Entry) (n : ℕ) where
  -- the cut lies after the first entry
  cut_after : IsEntry e → length e.route ≤ room → length (entry_bytes e) ≤ n
      → (let m = n - length (entry_bytes e) in log_of (take m (file_bytes es)) room ≡ log_with (whole_before m es) (cut_ending m es))
      → log_of (take n (file_bytes (e ∷ es))) room ≡ log_with (whole_before n (e ∷ es)) (cut_ending n (e ∷ es))
  cut_after k fits h ih =
      let bytes = entry_bytes e in
      let m = n - length bytes in
      let rest = take m (file_bytes es) in
      let at : n ≡ length bytes + m = omega arith in
      let there : take n (bytes ++ file_bytes es) ≡ bytes ++ rest = ap (λ (i : ℕ). take i (bytes ++ file_bytes es)) at ∙ take-append-add bytes (file_bytes es) m in
      let count = same_count (length bytes) n (length (file_bytes (whole_before m es))) h in
      rw (there, le-leb (length bytes) n h, length-append bytes (file_bytes (whole_before m es)), count)
      (log_on (bytes ++ rest) room ∙ rw (read_bytes e rest k room fits, drop-append_seam bytes rest, ih))

  -- or in it
  cut_inside : IsEntry e → n < length (entry_bytes e)
      → log_of (take n (file_bytes (e ∷ es))) room ≡ log_with (whole_before n (e ∷ es)) (cut_ending n (e ∷ es))
  cut_inside k h =
      let bytes = entry_bytes e in
      rw (take-append-le n bytes (file_bytes es) (omega arith), lt-leb (length bytes) n h)
      (elim (ℕ_discrete n 0) [
        | yes z ↦ rw z (log_nil room)
        | no z ↦ log_on (take n bytes) room ∙ rw (torn e k n room (omega arith) h, ne_eqb n 0 z)
      ])

-- A file cut at any byte reads as the entries that are whole before the cut, and then as empty or 61
pub log_cut : (room : ℕ) (es : List Entry) → AllEntries room es → (n : ℕ) → n ≤ length (file_bytes es)
    → log_of (take n (file_bytes es)) room ≡ log_with (whole_before n es) (cut_ending n es)
log_cut room [] a n h = let z : n ≡ 0 = omega arith in rw z (log_nil room)
log_cut room (e ∷ es) a n h =
    elim (dec_le (length (entry_bytes e)) n) [
      | yes l ↦ cut_after room e es n a.0 a.1 l
          (log_cut room es a.2 (n - length (entry_bytes e)) (omega (arith, length-append (entry_bytes e) (file_bytes es))))
      | no l ↦ cut_inside room e es n a.0 (omega arith)
    ]
