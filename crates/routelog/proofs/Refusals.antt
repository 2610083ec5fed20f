-- A refusal is given exactly when R-1's words say so: every input is refused in those words, passes, or is empty, and the words fix the number.
use mathlib.Core.Path.{◌≡◌, refl, sym, ap, ◌∙◌, subst}
use mathlib.Core.Logic.{◌≢◌, ◌↔◌, ◌⊎◌, inl, inr, ⊎_elim}
use mathlib.Core.Bool.{Bool, true, false}
use mathlib.Core.List.{List}
use Prim.Native.Nat.{ℕ, ◌+◌, ◌-◌, ◌≤◌, ◌<◌}
use native.Mathlib.Decide.{ℕ_discrete, dec_lt}
use native.Mathlib.Omega.{arith}
use lib.ListN.{length, get_or, take, drop, length-drop}
use lib.Seq.{length-take-le, get_or-take, get_or-drop}
use Rattle.std.specs.Prelude.{Option, Result}
use Rattle.floor.specs.declared.refusals.Refusal.{Refusal}
use Rattle.floor.specs.Screen.{Screen, Passed, Refused}
use Rattle.floor.specs.Refusal.{screen}
use Rattle.floor.specs.Numbers.{Numbers, written_as}
use Rattle.recordlayout.specs.Record.{record_size}
use Rattle.routelog.specs.declared.EntryRead.{EntryRead}
use Rattle.logentries.specs.Entry.{Entry, entry_bytes, route_size, filler, can_be_logged, steps_in, all_directions, all_filler}
use Rattle.routelog.specs.Reading.{answer_at, route_at, route_lines, read_lines, Reading, empty, refused, entry, reading_of, numbers_of, outcome_for}
use Rattle.routelog.specs.Writing.{part_lines, write_lines, written_for}
use Rattle.routelog.specs.Refusals.{WrongByte, HasRecords, HasRoute, ReaderRefuses, WriterRefuses}
use Rattle.logentries.proofs.Bytes.{within_at, outside}
use Rattle.logentries.proofs.Sizes.{size_holds}
use Rattle.routelog.proofs.Judging as judging
use Rattle.routelog.proofs.Taking.{reading_empty, reading_judged}
use Rattle.routelog.proofs.Writing as writing

-- the two tests of a route's bytes, against a wrong byte among them
module _ (n : ℕ) (bytes : List ℕ) (long : route_size n ≤ length bytes) where
  abbrev fill : List ℕ
  fill = take (route_size n - n) (drop n bytes)

  steps_length : length (take n bytes) ≡ n
  steps_length = length-take-le n bytes (omega (arith, size_holds n))

  fill_length : length fill ≡ route_size n - n
  fill_length = length-take-le (route_size n - n) (drop n bytes) (omega (arith, length-drop n bytes))

  fill_at : (i : ℕ) → i < route_size n - n → get_or fill i 0 ≡ get_or bytes (n + i) 0
  fill_at i h = get_or-take (route_size n - n) (drop n bytes) i 0 h ∙ get_or-drop n bytes i 0

  direction_there : all_directions (take n bytes) ≡ false → WrongByte n bytes
  direction_there e =
      let o = outside 0 7 (take n bytes) e in
      let here : o.place < n = omega (arith, o.within, steps_length) in
      let same = get_or-take n bytes o.place 0 here in
      record {
        place = o.place;
        within = omega (arith, size_holds n);
        wrong = inl (here, ⊎_elim (λ low. absurd (omega arith)) (λ high. omega (arith, same)) o.out);
      }

  filler_there : all_filler fill ≡ false → WrongByte n bytes
  filler_there e =
      let o = outside filler filler fill e in
      let here : o.place < route_size n - n = omega (arith, o.within, fill_length) in
      let same = fill_at o.place here in
      record {
        place = n + o.place;
        within = omega arith;
        wrong = inr (omega arith, λ is. ⊎_elim (λ low. omega (arith, same)) (λ high. omega (arith, same)) o.out);
      }

  none_wrong : all_directions (take n bytes) ≡ true → all_filler fill ≡ true → WrongByte n bytes → ⊥
  none_wrong d f w = ⊎_elim direction other w.wrong
    where
      direction : (w.place < n) × (7 < get_or bytes w.place 0) → ⊥
      direction x = omega (arith, x.0, x.1, (within_at 0 7 (take n bytes) d w.place (omega (arith, x.0, steps_length))).1, get_or-take n bytes w.place 0 x.0)

      other : (n ≤ w.place) × (get_or bytes w.place 0 ≢ filler) → ⊥
      other x =
          let i = w.place - n in
          let at : n + i ≡ w.place = omega (arith, x.0) in
          let here : i < route_size n - n = omega (arith, x.0, w.within) in
          let is = within_at filler filler fill f i (omega (arith, fill_length)) in
          let same = fill_at i here ∙ ap (λ (j : ℕ). get_or bytes j 0) at in
          x.1 (omega (arith, is.0, is.1, same))

module _ (rest : List ℕ) (room : ℕ) where
  abbrev n : ℕ
  n = steps_in (answer_at rest)

  by_route : HasRecords rest → screen (read_lines rest room) ≡ screen (route_lines (route_at rest) n room)
  by_route r = judging.by_route rest room r.long r.logged refl refl

  some : record_size + record_size ≤ length rest → length rest ≢ 0
  some h z = omega arith

  -- the words fix the number
  pub refused_in_words : {k : ℕ} → ReaderRefuses rest room k → reading_of rest room ≡ refused k 0
  refused_in_words (ReaderRefuses.ends_in_records s h) = reading_judged rest room s (judging.head_ends rest room h)
  refused_in_words (ReaderRefuses.answer_wrong h e) = reading_judged rest room (some h) (judging.wrong_answer rest room h e)
  refused_in_words (ReaderRefuses.ends_in_route r h) = reading_judged rest room (some r.long) (by_route r ∙ judging.route_ends (route_at rest) n room h)
  refused_in_words (ReaderRefuses.route_wrong r w) =
      reading_judged rest room (some r.records.long)
      (by_route r.records ∙ go (all_directions (take n (route_at rest))) refl (all_filler (fill n (route_at rest) r.route_long)) refl)
    where
      go : (d : Bool) → all_directions (take n (route_at rest)) ≡ d → (f : Bool) → all_filler (fill n (route_at rest) r.route_long) ≡ f
          → screen (route_lines (route_at rest) n room) ≡ Refused 63 0
      go false d f e = judging.wrong_direction (route_at rest) n room r.route_long d
      go true d false e = judging.wrong_filler (route_at rest) n room r.route_long d e
      go true d true e = absurd (none_wrong n (route_at rest) r.route_long d e w)
  refused_in_words (ReaderRefuses.room_short r right h) =
      reading_judged rest room (some r.records.long)
      (by_route r.records ∙ go (all_directions (take n (route_at rest))) refl (all_filler (fill n (route_at rest) r.route_long)) refl)
    where
      go : (d : Bool) → all_directions (take n (route_at rest)) ≡ d → (f : Bool) → all_filler (fill n (route_at rest) r.route_long) ≡ f
          → screen (route_lines (route_at rest) n room) ≡ Refused 64 0
      go false d f e = absurd (right (direction_there n (route_at rest) r.route_long d))
      go true d false e = absurd (right (filler_there n (route_at rest) r.route_long e))
      go true d true e = judging.room_short (route_at rest) n room r.route_long d e h

  abbrev Decided : Type 0
  Decided = (length rest ≡ 0) ⊎ (((length rest ≢ 0) × (screen (read_lines rest room) ≡ Passed)) ⊎ ((k : ℕ) × ReaderRefuses rest room k))

  of_route : HasRoute rest → Decided
  of_route r = go (all_directions (take n (route_at rest))) refl (all_filler (fill n (route_at rest) r.route_long)) refl (dec_lt room n)
    where
      go : (d : Bool) → all_directions (take n (route_at rest)) ≡ d → (f : Bool) → all_filler (fill n (route_at rest) r.route_long) ≡ f → Dec (room < n) → Decided
      go false d f e l = inr (inr (63, ReaderRefuses.route_wrong r (direction_there n (route_at rest) r.route_long d)))
      go true d false e l = inr (inr (63, ReaderRefuses.route_wrong r (filler_there n (route_at rest) r.route_long e)))
      go true d true e (yes l) = inr (inr (64, ReaderRefuses.room_short r (none_wrong n (route_at rest) r.route_long d e) l))
      go true d true e (no l) =
          inr (inl (some r.records.long, by_route r.records ∙ judging.route_passes (route_at rest) n room r.route_long d e (omega arith)))

  of_records : record_size + record_size ≤ length rest → Decided
  of_records h = go (can_be_logged (answer_at rest)) refl (dec_lt (length (route_at rest)) (route_size n))
    where
      go : (b : Bool) → can_be_logged (answer_at rest) ≡ b → Dec (length (route_at rest) < route_size n) → Decided
      go false e l = inr (inr (62, ReaderRefuses.answer_wrong h e))
      go true e (yes l) = inr (inr (61, ReaderRefuses.ends_in_route (record { long = h; logged = e }) l))
      go true e (no l) = of_route (record { records = record { long = h; logged = e }; route_long = omega arith })

  decided : Decided
  decided = go (ℕ_discrete (length rest) 0) (dec_lt (length rest) (record_size + record_size))
    where
      go : Dec (length rest ≡ 0) → Dec (length rest < record_size + record_size) → Decided
      go (yes z) l = inl z
      go (no z) (yes l) = inr (inr (61, ReaderRefuses.ends_in_records z l))
      go (no z) (no l) = of_records (omega arith)

  -- the reader refuses exactly in R-1's words, with place 0
  pub reader_refuses : (k p : ℕ) → (reading_of rest room ≡ refused k p) ↔ (ReaderRefuses rest room k × (p ≡ 0))
  reader_refuses k p = (λ e. ⊎_elim (none e) (⊎_elim (passed e) (words e)) decided, λ w. rw w.1 (refused_in_words w.0))
    where
      none : reading_of rest room ≡ refused k p → length rest ≡ 0 → ReaderRefuses rest room k × (p ≡ 0)
      none e z = let x = sym (reading_empty rest room z) ∙ e in let y : ◌≡◌ {A = ℕ} 0 1 = cc in absurd (omega arith)

      passed : reading_of rest room ≡ refused k p → (length rest ≢ 0) × (screen (read_lines rest room) ≡ Passed) → ReaderRefuses rest room k × (p ≡ 0)
      passed e s = let x = sym (reading_judged rest room s.0 s.1) ∙ e in let y : ◌≡◌ {A = ℕ} 0 1 = cc in absurd (omega arith)

      words : reading_of rest room ≡ refused k p → (j : ℕ) × ReaderRefuses rest room j → ReaderRefuses rest room k × (p ≡ 0)
      words e w =
          let x = sym (refused_in_words w.1) ∙ e in
          let number : w.0 ≡ k = cc in
          let place : p ≡ 0 = cc in
          (subst (λ (j : ℕ). ReaderRefuses rest room j) number w.1, place)

module _ (e : Entry) (room : ℕ) where
  -- a direction above 7 fails the test of them all
  above_seven : (i : ℕ) → i < length e.route → 7 < get_or e.route i 0 → all_directions e.route ≡ false
  above_seven i h high = go (all_directions e.route) refl
    where
      go : (b : Bool) → all_directions e.route ≡ b → b ≡ false
      go false d = refl
      go true d = absurd (omega (arith, (within_at 0 7 e.route d i h).1))

  pub refused_as_written : {k : ℕ} → WriterRefuses e room k → screen (write_lines e room) ≡ Refused k 0
  refused_as_written (WriterRefuses.answer_wrong a) = writing.after_parts e room (writing.answer_wrong e.answer e.route a)
  refused_as_written (WriterRefuses.count_wrong a c) = writing.after_parts e room (writing.count_wrong e.answer e.route a c)
  refused_as_written (WriterRefuses.direction_wrong a i h high) = writing.after_parts e room (go (ℕ_discrete (length e.route) (steps_in e.answer)))
    where
      go : Dec (length e.route ≡ steps_in e.answer) → screen (part_lines e.answer e.route) ≡ Refused 63 0
      go (yes c) = writing.direction_wrong e.answer e.route a c (above_seven i h high)
      go (no c) = writing.count_wrong e.answer e.route a c
  refused_as_written (WriterRefuses.room_short a c right h) =
      writing.room_short e room (writing.parts_pass e.answer e.route a c (go (all_directions e.route) refl)) h
    where
      go : (b : Bool) → all_directions e.route ≡ b → b ≡ true
      go true d = refl
      go false d = let o = outside 0 7 e.route d in ⊎_elim (λ low. absurd (omega arith)) (λ high. absurd (omega (arith, right o.place o.within))) o.out

  abbrev Tried : Type 0
  Tried = (screen (write_lines e room) ≡ Passed) ⊎ ((k : ℕ) × WriterRefuses e room k)

  tried : Tried
  tried = go (can_be_logged e.answer) refl (ℕ_discrete (length e.route) (steps_in e.answer)) (all_directions e.route) refl (dec_lt room (length (entry_bytes e)))
    where
      go : (b : Bool) → can_be_logged e.answer ≡ b → Dec (length e.route ≡ steps_in e.answer) → (d : Bool) → all_directions e.route ≡ d
          → Dec (room < length (entry_bytes e)) → Tried
      go false a c d x l = inr (62, WriterRefuses.answer_wrong a)
      go true a (no c) d x l = inr (63, WriterRefuses.count_wrong a c)
      go true a (yes c) false x l =
          let o = outside 0 7 e.route x in
          inr (63, WriterRefuses.direction_wrong a o.place o.within (⊎_elim (λ low. absurd (omega arith)) (λ high. high) o.out))
      go true a (yes c) true x (yes l) = inr (64, WriterRefuses.room_short a c (λ i h. (within_at 0 7 e.route x i h).1) l)
      go true a (yes c) true x (no l) = inl (writing.room_enough e room (writing.parts_pass e.answer e.route a c x) (omega arith))

  -- and so for the writer
  pub writer_refuses : (k p : ℕ) → (screen (write_lines e room) ≡ Refused k p) ↔ (WriterRefuses e room k × (p ≡ 0))
  writer_refuses k p = (λ x. ⊎_elim (passed x) (words x) tried, λ w. rw w.1 (refused_as_written w.0))
    where
      passed : screen (write_lines e room) ≡ Refused k p → screen (write_lines e room) ≡ Passed → WriterRefuses e room k × (p ≡ 0)
      passed x y = let z : ◌≡◌ {A = ℕ} 0 1 = cc in absurd (omega arith)

      words : screen (write_lines e room) ≡ Refused k p → (j : ℕ) × WriterRefuses e room j → WriterRefuses e room k × (p ≡ 0)
      words x w =
          let y = sym (refused_as_written w.1) ∙ x in
          let number : w.0 ≡ k = cc in
          let place : p ≡ 0 = cc in
          (subst (λ (j : ℕ). WriterRefuses e room j) number w.1, place)

-- the reader's own answer is a refusal exactly when the reading is
pub outcome_refused : (y : Reading) (r : Result (Option EntryRead) Refusal) (k p : ℕ) → numbers_of r ≡ outcome_for y
    → (numbers_of r ≡ Numbers.refused k p) ↔ (y ≡ refused k p)
outcome_refused y r k p is = (λ e. go y (sym e ∙ is), λ e. is ∙ ap outcome_for e)
  where
    go : (y : Reading) → Numbers.refused k p ≡ outcome_for y → y ≡ refused k p
    go empty e = let z : ◌≡◌ {A = ℕ} 0 1 = cc in absurd (omega arith)
    go (refused j q) e = let number : k ≡ j = cc in let place : p ≡ q = cc in rw (number, place)
    go (entry y) e = let z : ◌≡◌ {A = ℕ} 0 1 = cc in absurd (omega arith)

-- and the writer's exactly when its lines give one
pub written_refused : (e : Entry) (s : Screen) (w : Result ℕ Refusal) (k p : ℕ) → written_as w ≡ written_for e s
    → (written_as w ≡ Numbers.refused k p) ↔ (s ≡ Refused k p)
written_refused e s w k p is = (λ y. go s (sym y ∙ is), λ y. is ∙ ap (written_for e) y)
  where
    go : (s : Screen) → Numbers.refused k p ≡ written_for e s → s ≡ Refused k p
    go Passed y = let z : ◌≡◌ {A = ℕ} 0 1 = cc in absurd (omega arith)
    go (Refused j q) y = let number : k ≡ j = cc in let place : p ≡ q = cc in rw (number, place)
