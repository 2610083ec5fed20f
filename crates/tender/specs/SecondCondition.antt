-- The second condition of the tender: the answers of both engines, claims accepted exactly when true, and the map's round trip.
use Rattle.std.specs.Prelude.{◌≡◌, ◌↔◌, true, Option, None, Result, Ok, List, [], ◌∷◌, ◌++◌, ℕ, ◌/◌, ◌%◌, ◌≤◌, ◌<◌, length, get_or, take, drop}
use Rattle.paths.specs.Graph.{MARK}
use Rattle.paths.specs.Route.{cost_of, Route, Reachable}
use Rattle.paths.specs.Table as table
use Rattle.floor.specs.declared.Floor.{Floor}
use Rattle.floor.specs.declared.refusals.Refusal.{Refusal}
use Rattle.floor.specs.declared.written.WrittenNumbers.{WrittenNumbers}
use Rattle.floor.specs.Screen.{Passed}
use Rattle.floor.specs.Place.{cells}
use Rattle.floor.specs.Refusal.{screen}
use Rattle.floor.specs.Step.{graph}
use Rattle.floor.specs.Numbers.{gives}
use Rattle.maptext.specs.declared.ReadNumbers.{ReadNumbers}
use Rattle.maptext.specs.Text.{IsWritten}
use Rattle.maptext.specs.Reading as reading
use Rattle.maptext.specs.Reading.{reading_of, read_for, IsRead}
use Rattle.maptext.specs.Calls.{read_numbers, ReadCalled, WriteCalled}
use Rattle.claims.specs.declared.FaultAt.{FaultAt}
use Rattle.claims.specs.Route as route
use Rattle.claims.specs.Route.{Claim, claim_lines, route_verdict, IsTrue, packed}
use Rattle.claims.specs.Table as claimed
use Rattle.claims.specs.Table.{IsLowest, table_lines, table_verdict, as_fault}
use Rattle.answering.specs.Answer.{Answer}
use Rattle.answering.specs.declared.AnswerNumbers.{AnswerNumbers}
use Rattle.answering.specs.Answers.{numbers_of}
use Rattle.answering.specs.Rooms.{Rooms, lent_lines}
use Rattle.answering.specs.declared.Question.{Question}
use Rattle.search.specs.Search.{search_lines, Searched, Called}
use Rattle.astar.specs.Astar.{Aimed, AimedCall}
use Rattle.recordlayout.specs.Record.{question_in, ways_in, ends_in_zeros, record_for}
use Rattle.mapuse.specs.Use.{IsUsed}
use Rattle.desk.specs.Desk.{with_ways, whole_records, record_at, IsAnswered}
use Rattle.tender.specs.SearchTable.{SameLengths, TableHolds}
use Rattle.tender.specs.AstarTable.{AstarAnswers}

-- an answer record: it is the record of numbers for which 01's table holds, in rooms of the lengths of r
pub record RecordHolds (f : Floor) (m : List ℕ) (q : Question) (r : Rooms) (answer : List ℕ) : Type 0 where
  pub numbers : AnswerNumbers
  pub is_record : answer ≡ record_for numbers
  pub before : Rooms
  pub after : Rooms
  pub lengths : SameLengths r before
  pub table : TableHolds f m q numbers before after

-- a question that passes has a limit from 1 on: 02, R-2, and `LimitsFromOne` in Limits.antt
pub record SecondCondition : Type 0 where
  pub search : (f : Floor) (m : List ℕ) (q : Question) (r : Rooms) (a : Answer) (r' : Rooms) → Searched f m q r a r'
      → screen (search_lines f m q r) ≡ Passed → TableHolds f m q (numbers_of a) r r'
  -- and so for the call from C
  pub call : (f : Floor) (m : List ℕ) (q : Question) (r : Rooms) (n : AnswerNumbers) (r' : Rooms) → Called f m q r n r'
      → screen (search_lines f m q r) ≡ Passed → TableHolds f m q n r r'
  -- and for each record of a buffer that is not refused, in rooms of the same lengths
  pub records : (f : Floor) (m bytes : List ℕ) (r : Rooms) (k : ℕ) (bytes' : List ℕ) (r' : Rooms) → IsAnswered f m bytes r k bytes' r'
      → (i : ℕ) → i < whole_records bytes →
      let q = record_at i bytes in
      ends_in_zeros q ≡ true → screen (search_lines (with_ways f (ways_in q)) m (question_in q) r) ≡ Passed → RecordHolds (with_ways f (ways_in q)) m (question_in q) r (record_at i bytes')
  -- A* in R-4's words; TwoEngines.antt says that it answers as the search does with the limit at the cell count
  pub astar : (f : Floor) (m : List ℕ) (start goal : ℕ) (r : Rooms) (a : Answer) (r' : Rooms) → Aimed f m start goal r a r'
      → screen (lent_lines f m start goal r) ≡ Passed → AstarAnswers f m start goal (numbers_of a) r r'
  pub astar_call : (f : Floor) (m : List ℕ) (start goal : ℕ) (r : Rooms) (n : AnswerNumbers) (r' : Rooms) → AimedCall f m start goal r n r'
      → screen (lent_lines f m start goal r) ≡ Passed → AstarAnswers f m start goal n r r'
  -- "Claims not refused are accepted exactly when true": a route, a cost table, and a "none" by the table
  pub route_claim : (f : Floor) (m : List ℕ) (c : Claim) (v : Result (Result ℕ FaultAt) Refusal) → route.numbers_of v ≡ route_verdict f m c → screen (claim_lines f m c) ≡ Passed
      → (k : ℕ) → (v ≡ Ok (Ok k))
      ↔ (Route (graph f m) c.start c.goal c.route × (cost_of (graph f m) c.start c.route ≡ c.cost) × (k ≡ c.cost))
  -- for the collector: 0 in the high half, and then the cost in the low half
  pub route_call : (f : Floor) (m : List ℕ) (c : Claim) → c.cost ≤ MARK → (x : ℕ) → x ≡ packed (route_verdict f m c)
      → ((x / 4294967296 ≡ 0) ↔ IsTrue f m c) × (x / 4294967296 ≡ 0 → x % 4294967296 ≡ c.cost)
  pub table_claim : (f : Floor) (m : List ℕ) (s : ℕ) (t : List ℕ) (v : Result (Option ℕ) Refusal) → claimed.numbers_of v ≡ table_verdict f m s t
      → screen (table_lines f m s t) ≡ Passed → (v ≡ Ok None) ↔ table.Right (graph f m) s (take (cells f) t)
  -- from C: 0 in the high half for the right table; else 40, and then the lowest cell that breaks the rule in the low half
  pub table_call : (f : Floor) (m : List ℕ) (s : ℕ) (t : List ℕ) (x : ℕ) → x ≡ packed (as_fault (table_verdict f m s t)) → screen (table_lines f m s t) ≡ Passed
      → ((x / 4294967296 ≡ 0) ↔ table.Right (graph f m) s (take (cells f) t))
      × ((b : ℕ) → ((x / 4294967296 ≡ 40) × (x % 4294967296 ≡ b)) ↔ IsLowest f m s t b)
  pub none_claim : (f : Floor) (m : List ℕ) (s : ℕ) (t : List ℕ) (v : Result (Option ℕ) Refusal) → claimed.numbers_of v ≡ table_verdict f m s t
      → v ≡ Ok None → (goal : ℕ) → goal < cells f
      → (get_or t goal 0 ≡ MARK) ↔ (Reachable (graph f m) s goal → ⊥)
  pub none_call : (f : Floor) (m : List ℕ) (s : ℕ) (t : List ℕ) (x : ℕ) → x ≡ packed (as_fault (table_verdict f m s t))
      → x / 4294967296 ≡ 0 → (goal : ℕ) → goal < cells f
      → (get_or t goal 0 ≡ MARK) ↔ (Reachable (graph f m) s goal → ⊥)
  -- "a map written as text reads back the same", ways apart; n is the length that the writer returned
  pub map : (f : Floor) (m text text' : List ℕ) (n : ℕ) → IsWritten f m text (Ok n) text'
      → (room : List ℕ) (r : Result Floor Refusal) (room' : List ℕ) → IsRead (take n text') room r room' → cells f ≤ length room
      → (r ≡ Ok (record { width = f.width; height = f.height; ways = 8 })) × (room' ≡ m ++ drop (length m) room)
  -- and so for the two calls from C, where a refusal of 0 says that the map was written
  pub map_call : (f : Floor) (m text text' : List ℕ) (x : WrittenNumbers) → WriteCalled f m text x text' → x.refusal ≡ 0
      → (room : List ℕ) (y : ReadNumbers) (room' : List ℕ) → ReadCalled (take x.length text') room y room' → cells f ≤ length room
      → (y ≡ read_numbers (gives (f.width ∷ f.height ∷ 8 ∷ []))) × (room' ≡ m ++ drop (length m) room)
  -- judging answers what the reader does with a room of that length; a map that the program can use is what the reader reads
  pub judge : (text room : List ℕ) (r : Result Floor Refusal) (room' : List ℕ) → IsRead text room r room' → (j : Result Floor Refusal) → reading.numbers_of j ≡ read_for (reading_of text (length room)) → j ≡ r
  pub judge_call : (text room : List ℕ) (x : ReadNumbers) (room' : List ℕ) → ReadCalled text room x room'
      → (j : ReadNumbers) → j ≡ read_numbers (read_for (reading_of text (length room))) → j ≡ x
  pub program_map : (text room : List ℕ) (f : Floor) (room' : List ℕ) → IsUsed text room (Ok f) room' → IsRead text room (Ok f) room'
