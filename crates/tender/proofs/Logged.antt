-- The route log: the theorems of `routelog`, and each record of a buffer with the route that the search left for it.
use mathlib.Core.Path.{◌≡◌, ◌∙◌}
use mathlib.Core.List.{List}
use Prim.Native.Nat.{ℕ, ◌*◌, ◌≤◌, ◌<◌}
use native.Mathlib.Nat.{div-add-mod'}
use native.Mathlib.Omega.{arith}
use lib.ListN.{length, drop, length-drop}
use lib.Seq.{length-take-le}
use Rattle.floor.specs.declared.Floor.{Floor}
use Rattle.floor.specs.Place.{cells}
use Rattle.answering.specs.Answer.{Answer}
use Rattle.answering.specs.Rooms.{Rooms}
use Rattle.recordlayout.specs.Record.{record_size, question_in, ways_in}
use Rattle.routelog.proofs.Logging.{refused, answer_logged}
use Rattle.routelog.proofs.Searches.{Logs, searched_logs, logs_entry}
use Rattle.routelog.proofs.Files.{log_written, log_back, same_bytes}
use Rattle.routelog.proofs.Torn.{log_cut}
use Rattle.routelog.proofs.Window.{window_reads, piece_tells}
use Rattle.routelog.proofs.RoundTrip as trip
use Rattle.routelog.proofs.CallTrip.{reads_back_call, writes_back_call}
use Rattle.mapuse.specs.Use.{greatest_used_cells}
use Rattle.desk.specs.Desk.{with_ways, Asked, no_zeros, searched, whole_records, record_at, IsAnswered}
use Rattle.tender.specs.RouteLog.{CanBeEntered, RouteLog}
use Rattle.tender.proofs.Records.{answered_each}

asked_logs : (f : Floor) (m question : List ℕ) (r : Rooms) {a : Answer} {r' : Rooms} → cells f ≤ greatest_used_cells → Asked f m question r a r' → Logs a r'.route
asked_logs f m question r few (no_zeros z e l) = rw e (record { can = refused 13 0 (omega arith) (omega arith); there = omega arith; right = tt })
asked_logs f m question r few (searched z x) = searched_logs (with_ways f (ways_in question)) m (question_in question) r few x

-- a whole record has the bytes of one
record_whole : (bytes : List ℕ) (i : ℕ) → i < whole_records bytes → length (record_at i bytes) ≡ record_size
record_whole bytes i h =
    let whole = div-add-mod' (length bytes) record_size in
    length-take-le record_size (drop (i * record_size) bytes) (omega (arith, length-drop (i * record_size) bytes))

answers_entered : (f : Floor) (m bytes : List ℕ) (r : Rooms) (k : ℕ) (bytes' : List ℕ) (r' : Rooms) → IsAnswered f m bytes r k bytes' r' → cells f ≤ greatest_used_cells
    → (i : ℕ) → i < whole_records bytes → CanBeEntered f m r (record_at i bytes) (record_at i bytes')
answers_entered f m bytes r k bytes' r' x few i h =
    let y = answered_each f m (whole_records bytes) bytes r bytes' r' x.records i h in
    let logs = asked_logs f m (record_at i bytes) y.rooms few y.asked in
    record {
      before = y.rooms;
      lengths = y.lengths;
      given = y.answer;
      after = y.left;
      asked = y.asked;
      is_record = y.leaves;
      entered = rw y.leaves (logs_entry (record_at i bytes) y.left.route y.answer (record_whole bytes i h) logs);
      no_other = λ ds e. e.count ∙ rw y.leaves (answer_logged logs.can).1;
    }

pub route_log : RouteLog
route_log = record {
  reads_back = λ e q a room room' n w more route route' r x. trip.reads_back e room room' more route route' n r q a w x;
  reads_back_call = reads_back_call;
  file_read = log_written;
  writes_back = λ rest route route' r x room room' w. trip.writes_back rest route route' room room' r w x;
  writes_back_call = writes_back_call;
  file_written = log_back;
  one_list = same_bytes;
  torn = log_cut;
  window = window_reads;
  piece = piece_tells;
  answers = answers_entered;
}
