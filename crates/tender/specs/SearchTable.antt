-- 01's table under "The search", for the list L: when an answer is found, none or stopped, its columns, and what the rooms hold afterwards.
use Rattle.std.specs.Prelude.{◌≡◌, ◌↔◌, List, ◌++◌, ℕ, ◌+◌, ◌*◌, ◌≤◌, ◌<◌, length, get_or, take, drop, replicate}
use Rattle.paths.specs.Graph.{MARK}
use Rattle.paths.specs.Route.{Least}
use Rattle.paths.specs.First.{First}
use Rattle.settling.specs.List.{At, IsL}
use Rattle.floor.specs.declared.Floor.{Floor}
use Rattle.floor.specs.Place.{cells}
use Rattle.floor.specs.Step.{graph}
use Rattle.floor.specs.Length.{surd, length_of}
use Rattle.answering.specs.declared.AnswerNumbers.{AnswerNumbers}
use Rattle.answering.specs.Rooms.{Rooms}
use Rattle.answering.specs.declared.Question.{Question}

-- "goal in L, i < k"
pub record GoalWithin (l : List ℕ) (q : Question) : Type 0 where
  pub i : ℕ
  pub place : At l i q.goal
  pub within : i < q.limit

-- "goal not in L, n ≤ k"
pub record GoalMissing (l : List ℕ) (q : Question) : Type 0 where
  pub nowhere : (i : ℕ) → At l i q.goal → ⊥
  pub covered : length l ≤ q.limit

-- "otherwise"
pub record Otherwise (l : List ℕ) (q : Question) : Type 0 where
  pub not_found : GoalWithin l q → ⊥
  pub not_none : GoalMissing l q → ⊥

-- the route room begins with the first least-cost route and is untouched further along; the answer has its length, and its P and Q (02, R-6)
pub record BeginsWithRoute (f : Floor) (m : List ℕ) (start goal : ℕ) (n : AnswerNumbers) (room room' : List ℕ) : Type 0 where
  pub way : List ℕ
  pub first : First (graph f m) start goal way
  pub steps : n.length ≡ length way
  pub sums : surd n.p n.q ≡ length_of f m start way
  pub leaves : room' ≡ way ++ drop n.length room

-- the route room is untouched, and length, P and Q are 0
pub record NoRoute (n : AnswerNumbers) (room room' : List ℕ) : Type 0 where
  pub steps : n.length ≡ 0
  pub sums : surd n.p n.q ≡ surd 0 0
  pub leaves : room' ≡ room

pub record SameLengths (r r' : Rooms) : Type 0 where
  pub costs : length r'.costs ≡ length r.costs
  pub work : length r'.work ≡ length r.work
  pub route : length r'.route ≡ length r.route

-- n are 01's numbers of the answer to question q: kind 1 is found, 2 none, 3 stopped. r and r' are the rooms before and after, l is L
pub record Answers (f : Floor) (m : List ℕ) (q : Question) (l : List ℕ) (n : AnswerNumbers) (r r' : Rooms) : Type 0 where
  pub not_refused : (n.refusal ≡ 0) × (n.place ≡ 0)
  pub found : (n.kind ≡ 1) ↔ GoalWithin l q
  pub found_settled : (w : GoalWithin l q) → n.settled ≡ w.i + 1
  pub found_number : GoalWithin l q → Least (graph f m) q.start q.goal n.number
  pub found_route : GoalWithin l q → BeginsWithRoute f m q.start q.goal n r.route r'.route
  pub none : (n.kind ≡ 2) ↔ GoalMissing l q
  pub none_settled : GoalMissing l q → n.settled ≡ length l
  pub none_number : GoalMissing l q → n.number ≡ MARK
  pub none_route : GoalMissing l q → NoRoute n r.route r'.route
  pub stopped : (n.kind ≡ 3) ↔ Otherwise l q
  pub stopped_settled : Otherwise l q → n.settled ≡ q.limit
  -- the floor is the least cost of the cell at place k of L
  pub stopped_number : Otherwise l q → (v : ℕ) × At l q.limit v × Least (graph f m) q.start v n.number
  pub stopped_route : Otherwise l q → NoRoute n r.route r'.route
  -- the costs room has the least cost for the first `settled` cells of L and MARK for all others of the map
  pub costs : (i v : ℕ) → At l i v → i < n.settled → Least (graph f m) q.start v (get_or r'.costs v 0)
  pub marks : (v : ℕ) → v < cells f → ((i : ℕ) → At l i v → n.settled ≤ i) → get_or r'.costs v 0 ≡ MARK
  pub zeros : take (2 * cells f) r'.work ≡ replicate (2 * cells f) 0
  -- what lies further along is untouched
  pub costs_beyond : drop (cells f) r'.costs ≡ drop (cells f) r.costs
  pub work_beyond : drop (2 * cells f) r'.work ≡ drop (2 * cells f) r.work
  pub lengths : SameLengths r r'

-- there is one list L, and the table holds for it
abbrev pub TableHolds : Floor → List ℕ → Question → AnswerNumbers → Rooms → Rooms → Type 0
TableHolds f m q n r r' =
    (l : List ℕ) × IsL (graph f m) q.start l × ((k : List ℕ) → IsL (graph f m) q.start k → k ≡ l) × Answers f m q l n r r'
