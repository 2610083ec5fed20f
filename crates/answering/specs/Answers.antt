-- The row of 01's table that answers a question, a row as an answer, and an answer as the paper's numbers.
use Rattle.std.specs.Prelude.{List, ℕ}
use Rattle.paths.specs.Graph.{MARK}
use Rattle.settling.specs.Answer.{Kind, Row, answer_of}
use Rattle.floor.specs.declared.Floor.{Floor}
use Rattle.floor.specs.declared.RouteLength.{RouteLength}
use Rattle.floor.specs.Step.{graph}
use Rattle.floor.specs.Length.{route_length}
use Rattle.answering.specs.Answer.{Answer, Found, None, Stopped}
use Rattle.answering.specs.declared.AnswerNumbers.{AnswerNumbers}
use Rattle.answering.specs.declared.Question.{Question}

-- the row of 01's table that the right table of the start gives
abbrev pub row_of : Floor → List ℕ → Question → List ℕ → Row
row_of f m q t = answer_of (graph f m) q.start t q.goal q.limit

-- a row as the answer of a search: settled count, number returned, and how long its route is by a measure of routes
abbrev pub answered : (List ℕ → RouteLength) → Kind → Row → Answer
answered measure Kind.found a = Found a.settled a.number (measure a.route)
answered measure Kind.none a = None a.settled
answered measure Kind.stopped a = Stopped a.settled a.number

-- and so of a floor, from a start: the measure is steps, P and Q
abbrev pub answer_by : Floor → List ℕ → ℕ → Row → Answer
answer_by f m start a = answered (route_length f m start) a.kind a

-- the numbers of an answer that has no route: its length, P and Q are 0
abbrev pub without_route : ℕ → ℕ → ℕ → ℕ → ℕ → AnswerNumbers
without_route kind refusal place settled number =
    record { kind = kind; refusal = refusal; place = place; settled = settled; number = number; length = 0; p = 0; q = 0 }

-- the paper's numbers of an answer: kind (0 refused, 1 found, 2 none, 3 stopped), refusal number and place, settled count, number returned; and, if found, route
-- length, P and Q (02, R-6)
abbrev pub numbers_of : Answer → AnswerNumbers
numbers_of (Answer.Refused n p) = without_route 0 n p 0 0
numbers_of (Found s c l) = record { kind = 1; refusal = 0; place = 0; settled = s; number = c; length = l.steps; p = l.p; q = l.q }
numbers_of (None s) = without_route 2 0 0 s MARK
numbers_of (Stopped s c) = without_route 3 0 0 s c
