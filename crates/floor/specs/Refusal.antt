-- Refusals: lines of 01's table, tried in the order of their numbers.
use Rattle.std.specs.Prelude.{◌≡◌, Bool, cond, not, ◌||◌, List, [], ◌∷◌, ◌++◌, ℕ, eqb, ltb, length, get_or}
use Rattle.paths.specs.Below.{lowest}
use Rattle.floor.specs.declared.Floor.{Floor}
use Rattle.floor.specs.Screen.{Screen, Passed, Refused}
use Rattle.floor.specs.Place.{greatest_weight, cells, has_sides}

-- a line of the table: its number, whether it is to be given at this input, and the place
pub record Line : Type 0 where
  pub number : ℕ
  pub given : Bool
  pub place : ℕ

abbrev pub line : ℕ → Bool → ℕ → Line
line n b p = record { number = n; given = b; place = p }

-- the first line that is to be given; a list of lines stands by number, so that is the lowest number that applies
abbrev pub screen : List Line → Screen
screen [] = Passed
screen (l ∷ ls) = cond l.given (Refused l.number l.place) (screen ls)

-- the lowest cell whose byte is above the greatest weight, or the map's length
unfoldable pub first_above : List ℕ → ℕ
first_above m = lowest (λ v. ltb greatest_weight (get_or m v 0)) (length m)

-- 1: a side is 0 or too great; 2: the map's length is not width × height; 3: a byte is above 9, at the lowest such cell
abbrev pub map_lines : Floor → List ℕ → List Line
map_lines f m =
    line 1 (not (has_sides f)) 0
    ∷ line 2 (not (eqb (length m) (cells f))) 0
    ∷ line 3 (ltb (first_above m) (length m)) (first_above m)
    ∷ []

-- 4: ways is neither 4 nor 8
abbrev pub ways_line : Floor → Line
ways_line f = line 4 (not (eqb f.ways 4 || eqb f.ways 8)) 0

abbrev pub floor_lines : Floor → List ℕ → List Line
floor_lines f m = map_lines f m ++ (ways_line f ∷ [])

-- 5 and 6: a cell is not below width × height; 7 and 8: it is blocked
abbrev pub outside_line : ℕ → Floor → ℕ → Line
outside_line n f v = line n (not (ltb v (cells f))) 0

abbrev pub blocked_line : ℕ → List ℕ → ℕ → Line
blocked_line n m v = line n (eqb (get_or m v 0) 0) 0

-- of a question's start and goal
abbrev pub ends_lines : Floor → List ℕ → ℕ → ℕ → List Line
ends_lines f m start goal = outside_line 5 f start ∷ outside_line 6 f goal ∷ blocked_line 7 m start ∷ blocked_line 8 m goal ∷ []

abbrev pub question_lines : Floor → List ℕ → ℕ → ℕ → List Line
question_lines f m start goal = floor_lines f m ++ ends_lines f m start goal

abbrev pub HasPassed : Floor → List ℕ → Type 0
HasPassed f m = screen (floor_lines f m) ≡ Passed
