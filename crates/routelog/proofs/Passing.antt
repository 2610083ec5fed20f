-- What is known of the rest of a file that passes the reader's refusals, and that this is enough to pass.
use mathlib.Core.Path.{◌≡◌, refl, ◌∙◌}
use mathlib.Core.Bool.{◌&&◌}
use mathlib.Core.List.{List}
use Prim.Native.Nat.{ℕ, ◌+◌, ◌-◌, ◌≤◌}
use native.Mathlib.Omega.{arith}
use lib.Dec.{T, nltb→le}
use lib.ListN.{length, take, drop, length-drop}
use lib.Seq.{length-take-le}
use Rattle.paths.proofs.Bools.{T_true, T_and, T_not-not}
use Rattle.floor.specs.Screen.{Passed}
use Rattle.floor.specs.Refusal.{screen}
use Rattle.floor.proofs.Screens.{none_given}
use Rattle.recordlayout.specs.Record.{record_size}
use Rattle.logentries.specs.Entry.{route_size, entry_bytes, can_be_logged, steps_in, all_directions, all_filler}
use Rattle.routelog.specs.Reading.{question_at, answer_at, route_at, entry_at, read_lines}
use Rattle.logentries.proofs.Sizes.{size_holds, entry_length}
use Rattle.routelog.proofs.Judging.{by_route, route_passes}

pub record Passes (rest : List ℕ) (room : ℕ) : Type 0 where
  pub head_long : record_size + record_size ≤ length rest
  pub logged : T (can_be_logged (answer_at rest))
  pub route_long : route_size (steps_in (answer_at rest)) ≤ length (route_at rest)
  pub directions : T (all_directions (take (steps_in (answer_at rest)) (route_at rest)))
  pub filled : T (all_filler (take (route_size (steps_in (answer_at rest)) - steps_in (answer_at rest)) (drop (steps_in (answer_at rest)) (route_at rest))))
  pub room_long : steps_in (answer_at rest) ≤ room

pub passes : (rest : List ℕ) (room : ℕ) → screen (read_lines rest room) ≡ Passed → Passes rest room
unfolding read_lines
passes rest room e =
    let n = steps_in (answer_at rest) in
    let none = none_given (read_lines rest room) e in
    let right = all_directions (take n (route_at rest)) in
    let full = all_filler (take (route_size n - n) (drop n (route_at rest))) in
    let both = T_and right full (T_not-not (right && full) none.1.1.1.0) in
    record {
      head_long = nltb→le (length rest) (record_size + record_size) none.0;
      logged = T_not-not (can_be_logged (answer_at rest)) none.1.0;
      route_long = nltb→le (length (route_at rest)) (route_size n) none.1.1.0;
      directions = both.0;
      filled = both.1;
      room_long = nltb→le room n none.1.1.1.1.0;
    }

module _ {rest : List ℕ} {room : ℕ} (p : Passes rest room) where
  pub pass : screen (read_lines rest room) ≡ Passed
  pass =
      let n = steps_in (answer_at rest) in
      by_route rest room p.head_long (T_true (can_be_logged (answer_at rest)) p.logged) refl refl
      ∙ route_passes (route_at rest) n room p.route_long (T_true (all_directions (take n (route_at rest))) p.directions)
      (T_true (all_filler (take (route_size n - n) (drop n (route_at rest)))) p.filled)
      p.room_long

  pub question_length : length (question_at rest) ≡ record_size
  question_length = length-take-le record_size rest (omega (arith, p.head_long))

  pub answer_length : length (answer_at rest) ≡ record_size
  answer_length = length-take-le record_size (drop record_size rest) (omega (arith, length-drop record_size rest, p.head_long))

  -- the route is as long as its answer says
  pub steps_there : length (entry_at rest).route ≡ steps_in (answer_at rest)
  steps_there = let n = steps_in (answer_at rest) in length-take-le n (route_at rest) (omega (arith, size_holds n, p.route_long))

  pub bytes_taken : length (entry_bytes (entry_at rest)) ≡ record_size + record_size + route_size (steps_in (answer_at rest))
  bytes_taken = entry_length (entry_at rest) ∙ rw (question_length, answer_length, steps_there)
