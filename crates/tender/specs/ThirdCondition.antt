-- The third condition of the tender: how a route's true length compares, for the route and the floor that a search returns.
use Rattle.std.specs.Prelude.{◌≡◌, List, ℕ, ◌*◌, ◌<◌, T, take}
use Rattle.paths.specs.Route.{Route}
use Rattle.floor.specs.declared.Floor.{Floor}
use Rattle.floor.specs.Length.{Surd, surd, square, at_most, times, squared, length_of}
use Rattle.floor.specs.Step.{graph}
use Rattle.answering.specs.Answer.{Answer}
use Rattle.answering.specs.declared.AnswerNumbers.{AnswerNumbers}
use Rattle.answering.specs.Answers.{numbers_of}
use Rattle.answering.specs.Rooms.{Rooms}
use Rattle.answering.specs.declared.Question.{Question}
use Rattle.search.specs.Search.{Searched, Called}
use Rattle.astar.specs.Astar.{Aimed, AimedCall}
use Rattle.recordlayout.specs.Record.{question_in, ways_in, record_for}
use Rattle.desk.specs.Desk.{with_ways, whole_records, record_at, IsAnswered}

-- the square of a route's true length, times k
abbrev pub times_square : ℕ → Floor → List ℕ → ℕ → List ℕ → Surd
times_square k f m start ds = times k (squared (length_of f m start ds))

-- twice the square of a cost
abbrev pub twice_square : ℕ → Surd
twice_square c = surd (2 * square c) 0

-- n are the numbers of an answer: kind 1 is found, 3 stopped. The route room begins with the route
pub record Measured (f : Floor) (m : List ℕ) (start goal : ℕ) (n : AnswerNumbers) (room : List ℕ) : Type 0 where
  -- P and Q of the answer are those of its route (02, R-6); Sums.antt says what can so be read off an answer or a record alone
  pub sums : n.kind ≡ 1 → surd n.p n.q ≡ length_of f m start (take n.length room)
  -- 9800 × its true length² ≤ 9801 × that of any allowed route for the same question
  pub nearly_shortest : n.kind ≡ 1 → (ds : List ℕ) → Route (graph f m) start goal ds
      → T (at_most (times_square 9800 f m start (take n.length room)) (times_square 9801 f m start ds))
  -- 2 × its cost² lies between 9800 and 9801 × its own true length²
  pub cost_above : n.kind ≡ 1 → T (at_most (times_square 9800 f m start (take n.length room)) (twice_square n.number))
  pub cost_below : n.kind ≡ 1 → T (at_most (twice_square n.number) (times_square 9801 f m start (take n.length room)))
  -- after a stop, 2 × floor² ≤ 9801 × the true length² of any allowed route to the goal
  pub floor_below : n.kind ≡ 3 → (ds : List ℕ) → Route (graph f m) start goal ds
      → T (at_most (twice_square n.number) (times_square 9801 f m start ds))

pub record ThirdCondition : Type 0 where
  pub search : (f : Floor) (m : List ℕ) (q : Question) (r : Rooms) (a : Answer) (r' : Rooms) → Searched f m q r a r' → Measured f m q.start q.goal (numbers_of a) r'.route
  pub call : (f : Floor) (m : List ℕ) (q : Question) (r : Rooms) (n : AnswerNumbers) (r' : Rooms) → Called f m q r n r' → Measured f m q.start q.goal n r'.route
  -- record i of a buffer is the record of such numbers, for the route that its search found
  pub records : (f : Floor) (m bytes : List ℕ) (r : Rooms) (k : ℕ) (bytes' : List ℕ) (r' : Rooms) → IsAnswered f m bytes r k bytes' r'
      → (i : ℕ) → i < whole_records bytes
      → (n : AnswerNumbers) × (record_at i bytes' ≡ record_for n)
      × ((room : List ℕ)
      × Measured (with_ways f (ways_in (record_at i bytes))) m (question_in (record_at i bytes)).start (question_in (record_at i bytes)).goal n room)
  -- A*, which never stops short (02, R-4)
  pub astar : (f : Floor) (m : List ℕ) (start goal : ℕ) (r : Rooms) (a : Answer) (r' : Rooms) → Aimed f m start goal r a r'
      → Measured f m start goal (numbers_of a) r'.route
  pub astar_call : (f : Floor) (m : List ℕ) (start goal : ℕ) (r : Rooms) (n : AnswerNumbers) (r' : Rooms) → AimedCall f m start goal r n r'
      → Measured f m start goal n r'.route
