-- The bytes of an entry read as that entry: question, answer and route stand where the reader looks for them.
use mathlib.Core.Path.{◌≡◌, refl, sym, ap, ◌∙◌}
use mathlib.Core.Logic.{◌≢◌}
use mathlib.Core.Bool.{◌&&◌}
use mathlib.Core.List.{List, [], ◌∷◌, ◌++◌, append_assoc}
use Prim.Native.Nat.{ℕ, zero, suc, ◌+◌, ◌-◌, ◌≤◌}
use native.Mathlib.Omega.{arith}
use lib.Dec.{T, leb, leb→le}
use lib.ListN.{length, take, drop, replicate, length-append, length-replicate}
use lib.Seq.{take_at, drop_at, drop-drop}
use Rattle.paths.proofs.Bools.{T_and}
use Rattle.recordlayout.specs.Record.{record_size}
use Rattle.logentries.specs.Entry.{Entry, entry_of, route_size, filler, route_bytes, entry_bytes, greatest_length, steps_in, all_filler, IsEntry}
use Rattle.routelog.specs.Reading.{question_at, answer_at, route_at, entry_at, entry, reading_of}
use Rattle.logentries.proofs.Answers.{steps_few}
use Rattle.logentries.proofs.Sizes.{size_holds}
use Rattle.routelog.proofs.Passing.{Passes, pass}
use Rattle.routelog.proofs.Taking.{reading_judged}

-- two records, and then the route
pub parted : (q a r : List ℕ) {file : List ℕ} → file ≡ q ++ (a ++ r) → length q ≡ record_size → length a ≡ record_size
    → (question_at file ≡ q) × (answer_at file ≡ a) × (route_at file ≡ r)
parted q a r {file} e m n =
    let rest : drop record_size file ≡ a ++ r = rw e (drop_at q (a ++ r) record_size m) in (
      rw e (take_at q (a ++ r) record_size m),
      rw rest (take_at a r record_size n),
      sym (drop-drop record_size record_size file) ∙ rw rest (drop_at a r record_size n),
    )

pub filler_fills : (n : ℕ) → T (all_filler (replicate n filler))
filler_fills zero = tt
filler_fills (suc n) = filler_fills n

-- bytes that are all filler are just that
pub all_filler_lem : (bs : List ℕ) → T (all_filler bs) → bs ≡ replicate (length bs) filler
all_filler_lem [] t = refl
all_filler_lem (b ∷ bs) t =
    let both = T_and (leb filler b && leb b filler) (all_filler bs) t in
    let ends = T_and (leb filler b) (leb b filler) both.0 in
    let is : b ≡ filler = omega (arith, leb→le filler b ends.0, leb→le b filler ends.1) in
    rw (is, ← all_filler_lem bs both.1)

pub same_entry : {q q' a a' ds ds' : List ℕ} → q ≡ q' → a ≡ a' → ds ≡ ds' → entry_of q a ds ≡ entry_of q' a' ds'
same_entry q a ds = rw (q, a, ds)

-- a room of 4,095 holds the route of every entry
pub entry_few : {e : Entry} → IsEntry e → length e.route ≤ greatest_length
entry_few {e} k = omega (arith, k.count, steps_few e.answer k.answer_fits)

abbrev pub filler_after : List ℕ → List ℕ
filler_after ds = replicate (route_size (length ds) - length ds) filler

pub laid : (e : Entry) (tail : List ℕ) → entry_bytes e ++ tail ≡ e.question ++ (e.answer ++ (e.route ++ (filler_after e.route ++ tail)))
unfolding entry_bytes route_bytes
laid e tail = simp append_assoc

module _ (e : Entry) (tail : List ℕ) (k : IsEntry e) where
  where_parts : let file = entry_bytes e ++ tail in
      (question_at file ≡ e.question) × (answer_at file ≡ e.answer) × (route_at file ≡ e.route ++ (filler_after e.route ++ tail))
  where_parts = parted e.question e.answer (e.route ++ (filler_after e.route ++ tail)) (laid e tail) k.question_whole k.answer_whole

  route_back : take (steps_in e.answer) (e.route ++ (filler_after e.route ++ tail)) ≡ e.route
  route_back = take_at e.route (filler_after e.route ++ tail) (steps_in e.answer) k.count

  pub entry_back : entry_at (entry_bytes e ++ tail) ≡ e
  entry_back = let p = where_parts in same_entry p.0 p.1 (rw (p.1, p.2) route_back)

  pub bytes_pass : (room : ℕ) → length e.route ≤ room → Passes (entry_bytes e ++ tail) room
  bytes_pass room enough =
      let p = where_parts in
      let ds = e.route in
      let n = steps_in e.answer in
      let fill = filler_after ds in
      let full : length fill ≡ route_size n - n = length-replicate (route_size (length ds) - length ds) filler ∙ rw k.count in
      let left : drop n (ds ++ (fill ++ tail)) ≡ fill ++ tail = drop_at ds (fill ++ tail) n k.count in
      let long = ap length (laid e tail) ∙ length-append e.question (e.answer ++ (ds ++ (fill ++ tail))) in
      record {
        head_long = omega (arith, long, length-append e.answer (ds ++ (fill ++ tail)), k.question_whole, k.answer_whole);
        logged = rw p.1 k.answer_fits;
        route_long = rw (p.1, p.2) (omega (arith, length-append ds (fill ++ tail), length-append fill tail, k.count, full, size_holds n));
        directions = rw (p.1, p.2, route_back) k.directions;
        filled = rw (p.1, p.2, left, take_at fill tail (route_size n - n) full) (filler_fills (route_size (length ds) - length ds));
        room_long = rw p.1 (omega (arith, k.count));
      }

  pub bytes_some : length (entry_bytes e ++ tail) ≢ 0
  bytes_some z =
      let long = ap length (laid e tail) ∙ length-append e.question (e.answer ++ (e.route ++ (filler_after e.route ++ tail))) in
      omega (arith, long, k.question_whole)

  -- whatever follows it
  pub read_bytes : (room : ℕ) → length e.route ≤ room → reading_of (entry_bytes e ++ tail) room ≡ entry e
  read_bytes room enough = reading_judged (entry_bytes e ++ tail) room bytes_some (pass (bytes_pass room enough)) ∙ ap entry entry_back
