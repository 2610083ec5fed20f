-- With enough room the lines 9 to 11 pass on every map that can be used, so that only the lines before and after them can refuse.
use mathlib.Core.Path.{◌≡◌, sym, ap, ◌∙◌}
use mathlib.Core.List.{List, [], ◌∷◌, ◌++◌}
use mathlib.Core.Logic.{◌⊎◌, inl, inr, ⊎_elim}
use Prim.Native.Nat.{ℕ, ◌*◌, ◌≤◌, ◌<◌}
use native.Mathlib.Nat.{mul-le-mul}
use native.Mathlib.Omega.{arith}
use borrow.Author.Tests.{le-ltb}
use lib.ListN.{length}
use Rattle.std.specs.Prelude.{Ok}
use Rattle.settling.specs.Answer.{Kind, Row}
use Rattle.floor.specs.declared.Floor.{Floor}
use Rattle.floor.specs.Screen.{Screen, Passed, Refused}
use Rattle.floor.specs.Place.{cells}
use Rattle.floor.specs.declared.RouteLength.{RouteLength}
use Rattle.floor.specs.Length.{route_length}
use Rattle.floor.specs.Refusal.{screen, question_lines}
use Rattle.floor.proofs.Screens.{and_then, screen_append}
use Rattle.floor.proofs.Lines.{number_between}
use Rattle.maptext.specs.Reading as reading
use Rattle.maptext.specs.Reading.{read_for}
use Rattle.answering.specs.Answer.{Answer}
use Rattle.answering.specs.Answers.{row_of, answered, numbers_of}
use Rattle.answering.specs.Rooms.{Rooms, room_lines}
use Rattle.search.specs.Search.{limit_line, search_lines, refused, passed}
use Rattle.recordlayout.specs.Record.{question_in, ways_in}
use Rattle.mapuse.specs.Use.{greatest_used_cells, used_of}
use Rattle.mapuse.proofs.Using.{can_use}
use Rattle.desk.specs.Desk.{with_ways, Asked, no_zeros, searched}
use Rattle.desk.specs.Room.{EnoughRoom}

module _ (text : List ℕ) (room : ℕ) (f : Floor) (used : reading.numbers_of (Ok f) ≡ read_for (used_of text room)) (r : Rooms) (enough : EnoughRoom r) where
  rooms_pass : (ways : ℕ) → screen (room_lines (with_ways f ways) (length r.costs) (length r.work) (length r.route)) ≡ Passed
  rooms_pass ways =
      let x = can_use text room f used in
      let few : cells f ≤ greatest_used_cells = mul-le-mul x.narrow x.low in
      rw (
        le-ltb (length r.costs) (cells f) (omega (arith, enough.costs)),
        le-ltb (length r.work) (2 * cells f) (omega (arith, enough.work)),
        le-ltb (length r.route) (cells f) (omega (arith, enough.route)),
      )

  not_refused : (measure : List ℕ → RouteLength) (k : Kind) (a : Row) → (numbers_of (answered measure k a)).refusal < 9
  not_refused measure Kind.found a = omega arith
  not_refused measure Kind.none a = omega arith
  not_refused measure Kind.stopped a = omega arith

  -- a refusal is given by the lines before them or by those after
  before_or_after : {n p : ℕ} (early late : Screen) → and_then (and_then early Passed) late ≡ Refused n p → (early ≡ Refused n p) ⊎ (late ≡ Refused n p)
  before_or_after Passed late e = inr e
  before_or_after (Refused i j) late e = inl e

  -- no question about a map that can be used is refused as 9, 10 or 11
  pub room_enough : (m question : List ℕ) {a : Answer} {r' : Rooms} → Asked f m question r a r'
      → ((numbers_of a).refusal < 9) ⊎ ((numbers_of a).refusal ≡ 13) ⊎ ((numbers_of a).refusal ≡ 15)
  room_enough m question (no_zeros z e l) = inr (inl (ap (λ (x : Answer). (numbers_of x).refusal) e))
  room_enough m question (searched z (passed e x)) =
      let g = with_ways f (ways_in question) in
      let q = question_in question in
      let w = row_of g m q x.table in
      inl (rw x.answer (not_refused (route_length g m q.start) w.kind w))
  room_enough m question (searched z (refused n p e k l)) =
      let g = with_ways f (ways_in question) in
      let q = question_in question in
      let early = question_lines g m q.start q.goal in
      let late = limit_line q.limit ∷ [] in
      let rooms = room_lines g (length r.costs) (length r.work) (length r.route) in
      let tried : screen (search_lines g m q r) ≡ and_then (and_then (screen early) Passed) (screen late) =
      screen_append (early ++ rooms) late
      ∙ ap (λ (s : Screen). and_then s (screen late)) (screen_append early rooms ∙ ap (and_then (screen early)) (rooms_pass (ways_in question))) in
      rw k
      (⊎_elim (λ h. inl (number_between 0 9 early tt tt h).1) (λ h. let b = number_between 14 16 late tt tt h in inr (inr (omega (arith, b.0, b.1))))
      (before_or_after (screen early) (screen late) (sym tried ∙ e)))
