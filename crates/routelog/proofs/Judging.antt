-- What is refused of an entry, line by line, in the order in which the code tries the lines.
use mathlib.Core.Path.{◌≡◌}
use mathlib.Core.Bool.{true, false}
use mathlib.Core.List.{List}
use Prim.Native.Nat.{ℕ, ◌+◌, ◌-◌, ◌≤◌, ◌<◌}
use borrow.Author.Tests.{lt-ltb, le-ltb}
use lib.ListN.{length, take, drop}
use Rattle.floor.specs.Screen.{Passed, Refused}
use Rattle.floor.specs.Refusal.{screen}
use Rattle.recordlayout.specs.Record.{record_size}
use Rattle.logentries.specs.Entry.{route_size, can_be_logged, steps_in, all_directions, all_filler}
use Rattle.routelog.specs.Reading.{answer_at, route_at, route_lines, read_lines}

module _ (bytes : List ℕ) (n room : ℕ) where
  pub route_ends : length bytes < route_size n → screen (route_lines bytes n room) ≡ Refused 61 0
  route_ends h = rw (lt-ltb (length bytes) (route_size n) h)

  module _ (long : route_size n ≤ length bytes) where
    pub wrong_direction : all_directions (take n bytes) ≡ false → screen (route_lines bytes n room) ≡ Refused 63 0
    wrong_direction e = rw (le-ltb (length bytes) (route_size n) long, e)

    module _ (right : all_directions (take n bytes) ≡ true) where
      pub wrong_filler : all_filler (take (route_size n - n) (drop n bytes)) ≡ false → screen (route_lines bytes n room) ≡ Refused 63 0
      wrong_filler e = rw (le-ltb (length bytes) (route_size n) long, right, e)

      module _ (filled : all_filler (take (route_size n - n) (drop n bytes)) ≡ true) where
        pub room_short : room < n → screen (route_lines bytes n room) ≡ Refused 64 0
        room_short h = rw (le-ltb (length bytes) (route_size n) long, right, filled, lt-ltb room n h)

        pub route_passes : n ≤ room → screen (route_lines bytes n room) ≡ Passed
        route_passes h = rw (le-ltb (length bytes) (route_size n) long, right, filled, le-ltb room n h)

module _ (rest : List ℕ) (room : ℕ) where
  pub head_ends : length rest < record_size + record_size → screen (read_lines rest room) ≡ Refused 61 0
  unfolding read_lines
  head_ends h = rw (lt-ltb (length rest) (record_size + record_size) h)

  module _ (long : record_size + record_size ≤ length rest) where
    pub wrong_answer : can_be_logged (answer_at rest) ≡ false → screen (read_lines rest room) ≡ Refused 62 0
    unfolding read_lines
    wrong_answer e = rw (le-ltb (length rest) (record_size + record_size) long, e)

    pub by_route : can_be_logged (answer_at rest) ≡ true → {bytes : List ℕ} {n : ℕ} → bytes ≡ route_at rest → n ≡ steps_in (answer_at rest)
        → screen (read_lines rest room) ≡ screen (route_lines bytes n room)
    unfolding read_lines
    by_route e part steps = rw (le-ltb (length rest) (record_size + record_size) long, e, part, steps)
