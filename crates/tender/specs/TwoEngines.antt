-- 02, R-4: "Found, cost and first route are proved equal to the plain search's with the limit at the cell count", of any two results that meet the promises; and A* settles no cell that the plain search does not.
use Rattle.std.specs.Prelude.{◌≡◌, ◌≢◌, List, ℕ, ◌≤◌, ◌<◌, get_or, take}
use Rattle.paths.specs.Graph.{MARK}
use Rattle.floor.specs.declared.Floor.{Floor}
use Rattle.floor.specs.Screen.{Passed}
use Rattle.floor.specs.Place.{cells}
use Rattle.floor.specs.Length.{surd}
use Rattle.floor.specs.Refusal.{screen}
use Rattle.answering.specs.Answer.{Answer}
use Rattle.answering.specs.declared.AnswerNumbers.{AnswerNumbers}
use Rattle.answering.specs.Answers.{numbers_of}
use Rattle.answering.specs.declared.Question.{Question}
use Rattle.answering.specs.Question.{question}
use Rattle.answering.specs.Rooms.{Rooms, lent_lines}
use Rattle.search.specs.Search.{search_lines, Searched, Called}
use Rattle.astar.specs.Astar.{Aimed, AimedCall}

-- the plain search's question, with the limit at the cell count
abbrev pub as_plain : Floor → ℕ → ℕ → Question
as_plain f start goal = question start goal (cells f)

-- the numbers of two answers, each with its route room: the same kind, number returned and route, with its P and Q; the settled counts may differ
pub record SameAnswer (n : AnswerNumbers) (room : List ℕ) (k : AnswerNumbers) (room' : List ℕ) : Type 0 where
  pub kind : n.kind ≡ k.kind
  pub number : n.number ≡ k.number
  pub length : n.length ≡ k.length
  pub sums : surd n.p n.q ≡ surd k.p k.q
  pub route : take n.length room ≡ take k.length room'

-- of the plain search's numbers and costs room and then A*'s: where A* leaves a cost, the plain search leaves the same, and A*'s count is no greater
pub record SettlesNoMore (f : Floor) (n : AnswerNumbers) (room : List ℕ) (k : AnswerNumbers) (room' : List ℕ) : Type 0 where
  pub costs : (v : ℕ) → v < cells f → get_or room' v 0 ≢ MARK → get_or room v 0 ≡ get_or room' v 0
  pub settled : k.settled ≤ n.settled

pub record TwoEngines : Type 0 where
  -- both are refused alike: with the limit at the cell count 15 is never given
  pub refused : (f : Floor) (m : List ℕ) (start goal : ℕ) (r : Rooms) → screen (search_lines f m (as_plain f start goal) r) ≡ screen (lent_lines f m start goal r)
  -- in rooms of any lengths that are long enough
  pub same : (f : Floor) (m : List ℕ) (start goal : ℕ) → (r : Rooms) (a : Answer) (r' : Rooms) → Searched f m (as_plain f start goal) r a r'
      → screen (search_lines f m (as_plain f start goal) r) ≡ Passed
      → (p : Rooms) (b : Answer) (p' : Rooms) → Aimed f m start goal p b p' → screen (lent_lines f m start goal p) ≡ Passed
      → SameAnswer (numbers_of a) r'.route (numbers_of b) p'.route
  -- and so for the calls from C
  pub same_call : (f : Floor) (m : List ℕ) (start goal : ℕ) → (r : Rooms) (a : AnswerNumbers) (r' : Rooms) → Called f m (as_plain f start goal) r a r'
      → screen (search_lines f m (as_plain f start goal) r) ≡ Passed
      → (p : Rooms) (b : AnswerNumbers) (p' : Rooms) → AimedCall f m start goal p b p' → screen (lent_lines f m start goal p) ≡ Passed
      → SameAnswer a r'.route b p'.route
  -- A* settles no cell that the plain search does not: only the goal's estimate is 0, so others that are settled cost less and stand before it in L; for none both settle all of L
  pub fewer : (f : Floor) (m : List ℕ) (start goal : ℕ) → (r : Rooms) (a : Answer) (r' : Rooms) → Searched f m (as_plain f start goal) r a r'
      → screen (search_lines f m (as_plain f start goal) r) ≡ Passed
      → (p : Rooms) (b : Answer) (p' : Rooms) → Aimed f m start goal p b p' → screen (lent_lines f m start goal p) ≡ Passed
      → SettlesNoMore f (numbers_of a) r'.costs (numbers_of b) p'.costs
  pub fewer_call : (f : Floor) (m : List ℕ) (start goal : ℕ) → (r : Rooms) (a : AnswerNumbers) (r' : Rooms) → Called f m (as_plain f start goal) r a r'
      → screen (search_lines f m (as_plain f start goal) r) ≡ Passed
      → (p : Rooms) (b : AnswerNumbers) (p' : Rooms) → AimedCall f m start goal p b p' → screen (lent_lines f m start goal p) ≡ Passed
      → SettlesNoMore f a r'.costs b p'.costs
