-- The rooms after an engine that did not refuse: each is the part that was written, no longer than the room, and then the rest as it was.
use mathlib.Core.Path.{◌≡◌, refl, sym, ◌∙◌, ap}
use mathlib.Core.List.{List, [], ◌++◌}
use Prim.Native.Nat.{ℕ, ◌*◌, ◌≤◌, ◌<◌}
use native.Mathlib.Omega.{arith}
use lib.ListN.{length, get_or, take, drop, replicate, length-replicate, get_or-append}
use lib.Seq.{length-take-le, length_front, take_at, take-append-le, drop_at}
use Rattle.paths.specs.Graph.{Graph, Lawful}
use Rattle.paths.specs.Route.{cost_of, Least}
use Rattle.paths.specs.First.{First}
use Rattle.settling.specs.Answer.{Kind, Row, costs_left}
use Rattle.paths.proofs.Meaning.{least_cost_route_short}
use Rattle.settling.proofs.Outcomes.{none_exactly, stopped_exactly, none_is, stopped_is, found_first, length_left}
use Rattle.floor.specs.declared.Floor.{Floor}
use Rattle.floor.specs.Screen.{Passed}
use Rattle.floor.specs.Place.{cells}
use Rattle.floor.specs.Refusal.{screen}
use Rattle.answering.specs.Answer.{Answer}
use Rattle.answering.specs.Rooms.{Rooms, leaving}
use Rattle.answering.specs.declared.Question.{Question}
use Rattle.search.specs.Search.{search_lines, ByTable}
use Rattle.search.proofs.Lending.{long_costs, long_work, long_route}
use Rattle.tender.specs.SearchTable.{SameLengths}
use Rattle.tender.proofs.Rowed.{given, law, starts, ends}

-- the first route has least cost
pub first_least : {g : Graph} {s v : ℕ} {ds : List ℕ} → First g s v ds → Least g s v (cost_of g s ds)
first_least {ds = ds} f = record { way = ds; route = f.route; costs = refl; none_less = f.least }

pub first_short : {g : Graph} {least most : ℕ} → Lawful g least most → (s : ℕ) → s < g.cells → (v : ℕ) (ds : List ℕ) → First g s v ds → length ds < g.cells
first_short {g} law s start v ds f = least_cost_route_short law s start v (cost_of g s ds) (first_least f) ds f.route refl

-- a written part and the rest of a room are as long as the room
room_length : (part room : List ℕ) (n : ℕ) → length part ≡ n → n ≤ length room → length (part ++ drop n room) ≡ length room
room_length part room n e h = length_front room part n (e ∙ sym (length-take-le n room h))

-- what `leaving` leaves: a cell of the map in the costs room, the zeros, and what lies beyond
pub record Left (f : Floor) (left : List ℕ) (r r' : Rooms) : Type 0 where
  pub cell : (v : ℕ) → v < cells f → get_or r'.costs v 0 ≡ get_or left v 0
  pub zeros : take (2 * cells f) r'.work ≡ replicate (2 * cells f) 0
  pub costs_beyond : drop (cells f) r'.costs ≡ drop (cells f) r.costs
  pub work_beyond : drop (2 * cells f) r'.work ≡ drop (2 * cells f) r.work

module _ (f : Floor) (left way : List ℕ) (r r' : Rooms) (e : r' ≡ leaving f left way r) (cover : length left ≡ cells f) where
  pub work_cover : length {A = ℕ} (replicate (2 * cells f) 0) ≡ 2 * cells f
  work_cover = length-replicate {A = ℕ} (2 * cells f) 0

  pub left_rooms : Left f left r r'
  left_rooms = rw e (record {
    cell = λ v h. get_or-append left (drop (cells f) r.costs) 0 v (omega (arith, cover));
    zeros = take_at (replicate (2 * cells f) 0) (drop (2 * cells f) r.work) (2 * cells f) work_cover;
    costs_beyond = drop_at left (drop (cells f) r.costs) (cells f) cover;
    work_beyond = drop_at (replicate (2 * cells f) 0) (drop (2 * cells f) r.work) (2 * cells f) work_cover;
  })

  pub lengths_kept : cells f ≤ length r.costs → 2 * cells f ≤ length r.work → length way ≤ length r.route → SameLengths r r'
  lengths_kept c w t = rw e (record {
    costs = room_length left r.costs (cells f) cover c;
    work = room_length (replicate (2 * cells f) 0) r.work (2 * cells f) work_cover w;
    route = room_length way r.route (length way) refl t;
  })

  -- as much of the route room as is told of is the route's
  pub way_kept : (n : ℕ) → n ≤ length way → take n r'.route ≡ take n way
  way_kept n h = rw e (take-append-le n way (drop (length way) r.route) h)

module _ {f : Floor} {m : List ℕ} {q : Question} {r : Rooms} {a : Answer} {r' : Rooms} (x : ByTable f m q r a r')
    (p : screen (search_lines f m q r) ≡ Passed) where
  abbrev left : List ℕ
  left = costs_left x.table (given x).settled

  cover : length left ≡ cells f
  cover = length_left x.table (given x).settled ∙ x.right.covers

  pub search_left : Left f left r r'
  search_left = left_rooms f left (given x).route r r' x.leaves cover

  pub route_left : r'.route ≡ (given x).route ++ drop (length (given x).route) r.route
  route_left = ap (λ (z : Rooms). z.route) x.leaves

  pub costs_written : take (cells f) r'.costs ≡ costs_left x.table (given x).settled
  costs_written = ap (λ (z : Rooms). take (cells f) z.costs) x.leaves ∙ take_at left (drop (cells f) r.costs) (cells f) cover

  pub search_way : (n : ℕ) → n ≤ length (given x).route → take n r'.route ≡ take n (given x).route
  search_way = way_kept f left (given x).route r r' x.leaves cover

  route_fits : length (given x).route ≤ length r.route
  route_fits = go (given x).kind refl
    where
      empty : {w : Row} → given x ≡ w → w.route ≡ [] → length (given x).route ≤ length r.route
      empty e z = omega (arith, ap (λ (w : Row). length w.route) e, ap length z)

      go : (k : Kind) → (given x).kind ≡ k → length (given x).route ≤ length r.route
      go Kind.found k =
          let first = found_first (law x p) q.start (starts x p) x.table x.right q.goal (ends x p) q.limit k in
          omega (arith, first_short (law x p) q.start (starts x p) q.goal (given x).route first, long_route f m q r p)
      go Kind.none k =
          let when = (none_exactly (law x p) q.start (starts x p) x.table x.right q.goal (ends x p) q.limit).0 k in
          empty (none_is (law x p) q.start (starts x p) x.table x.right q.goal (ends x p) q.limit when) refl
      go Kind.stopped k =
          let when = (stopped_exactly (law x p) q.start (starts x p) x.table x.right q.goal (ends x p) q.limit).0 k in
          empty (stopped_is (law x p) q.start (starts x p) x.table x.right q.goal (ends x p) q.limit when) refl

  pub lengths_stay : SameLengths r r'
  lengths_stay = lengths_kept f left (given x).route r r' x.leaves cover (long_costs f m q r p) (long_work f m q r p) route_fits
