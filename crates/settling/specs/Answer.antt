-- What a search answers and what costs it leaves, from the right table, the goal and the limit: 01's table under "The search".
use Rattle.std.specs.Prelude.{cond, ◌&&◌, List, [], ℕ, ◌+◌, eqb, leb, ltb, length, get_or}
use Rattle.paths.specs.Below.{values}
use Rattle.paths.specs.Graph.{Graph, MARK}
use Rattle.paths.specs.First.{first_route}
use Rattle.settling.specs.Order.{L, place}

pub data Kind : Type 0 where
  found : Kind
  none : Kind
  stopped : Kind

-- a row of 01's table; `number` is the number returned, and the route's length is the length of `route`
pub record Row : Type 0 where
  pub kind : Kind
  pub settled : ℕ
  pub number : ℕ
  pub route : List ℕ

-- n is the length of L and i the goal's place in it, n if the goal is not there; t is the right table of s, k the limit
unfoldable pub answer_of : Graph → ℕ → List ℕ → ℕ → ℕ → Row
answer_of g s t goal k =
    let n = length (L t) in
    let i = place goal (L t) in
    cond (ltb i n && ltb i k) (record { kind = Kind.found; settled = i + 1; number = get_or t goal 0; route = first_route g s t goal })
    (cond (eqb i n && leb n k) (record { kind = Kind.none; settled = n; number = MARK; route = [] })
    (record { kind = Kind.stopped; settled = k; number = get_or t (get_or (L t) k 0) 0; route = [] }))

-- the least cost for the first `settled` cells of L, MARK for all others
unfoldable pub costs_left : List ℕ → ℕ → List ℕ
costs_left t settled = values (λ v. cond (ltb (place v (L t)) settled) (get_or t v 0) MARK) (length t)
