-- The question that was read from a record is asked on the floor with the record's ways.
use mathlib.Core.Path.{◌≡◌}
use mathlib.Core.Bool.{true}
use mathlib.Core.List.{List}
use Prim.Native.Nat.{ℕ}
use Rattle.floor.specs.declared.Floor.{Floor}
use Rattle.answering.specs.Answer.{Answer}
use Rattle.answering.specs.Rooms.{Rooms}
use Rattle.answering.specs.Question.{question}
use Rattle.search.specs.Search.{Searched}
use Rattle.recordlayout.specs.Record.{number_at, ways_in, ends_in_zeros}
use Rattle.desk.specs.Desk.{with_ways, Asked, searched}

pub asked_as_read : (f : Floor) (m bytes : List ℕ) (r : Rooms) (s g k w : ℕ) {a : Answer} {r' : Rooms} → ends_in_zeros bytes ≡ true
    → s ≡ number_at bytes 0 → g ≡ number_at bytes 4 → k ≡ number_at bytes 8 → w ≡ ways_in bytes
    → Searched (with_ways f w) m (question s g k) r a r' → Asked f m bytes r a r'
asked_as_read f m bytes r s g k w z start goal limit ways x = searched z (rw (start, goal, limit, ways) at x)
