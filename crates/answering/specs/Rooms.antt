-- The rooms that a search is lent: which are too short, and what an answer leaves in them.
use Rattle.std.specs.Prelude.{List, [], ◌∷◌, ◌++◌, ℕ, ◌*◌, ltb, length, drop, replicate}
use Rattle.floor.specs.declared.Floor.{Floor}
use Rattle.floor.specs.Place.{cells}
use Rattle.floor.specs.Refusal.{Line, line, question_lines}

-- the three rooms' contents
pub record Rooms : Type 0 where
  pub costs : List ℕ
  pub work : List ℕ
  pub route : List ℕ

abbrev pub rooms : List ℕ → List ℕ → List ℕ → Rooms
rooms c w r = record { costs = c; work = w; route = r }

-- 9, 10 and 11: a room is too short, by the lengths of the rooms
abbrev pub room_lines : Floor → ℕ → ℕ → ℕ → List Line
room_lines f costs work route = line 9 (ltb costs (cells f)) 0 ∷ line 10 (ltb work (2 * cells f)) 0 ∷ line 11 (ltb route (cells f)) 0 ∷ []

-- 1 to 11
abbrev pub length_lines : Floor → List ℕ → ℕ → ℕ → ℕ → ℕ → ℕ → List Line
length_lines f m start goal costs work route = question_lines f m start goal ++ room_lines f costs work route

-- and so of the rooms themselves
abbrev pub lent_lines : Floor → List ℕ → ℕ → ℕ → Rooms → List Line
lent_lines f m start goal r = length_lines f m start goal (length r.costs) (length r.work) (length r.route)

-- the rooms after an answer: the costs left, zeros, and the route, each with the rest as it was
abbrev pub leaving : Floor → List ℕ → List ℕ → Rooms → Rooms
leaving f left way r =
    rooms (left ++ drop (cells f) r.costs) (replicate (2 * cells f) 0 ++ drop (2 * cells f) r.work) (way ++ drop (length way) r.route)
