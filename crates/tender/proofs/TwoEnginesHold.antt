-- Two engines, one answer: the right table is one, and its two rows have the same kind, number and route; the limit's line never applies at the cell count; what A* settles is in the part of L that the plain search settles.
use mathlib.Core.Path.{◌≡◌, refl, sym, ◌∙◌, ap, subst}
use mathlib.Core.List.{List, [], ◌∷◌}
use Prim.Native.Nat.{ℕ, ◌≤◌, ◌<◌}
use native.Mathlib.Omega.{arith}
use borrow.Author.Tests.{ne_eqb}
use lib.Dec.{T}
use lib.ListN.{length, get_or}
use Rattle.paths.proofs.Exists.{right_unique}
use Rattle.settling.specs.Order.{L, place}
use Rattle.settling.specs.Answer.{Kind, Row}
use Rattle.settling.specs.Aimed.{is_settled, settled_count}
use Rattle.settling.proofs.Outcomes.{settled_left}
use Rattle.settling.proofs.AimedPlain.{aimed_kind, aimed_number, aimed_route, fewer_cells, fewer_count}
use Rattle.floor.specs.declared.Floor.{Floor}
use Rattle.floor.specs.Screen.{Screen, Passed, Refused}
use Rattle.floor.specs.Place.{cells}
use Rattle.floor.specs.Step.{graph}
use Rattle.floor.specs.Length.{surd, length_of}
use Rattle.floor.specs.Estimate.{estimate}
use Rattle.floor.specs.Refusal.{screen}
use Rattle.floor.proofs.Laws.{lawful}
use Rattle.floor.proofs.Estimating.{estimate_away}
use Rattle.floor.proofs.Screens.{screen_after}
use Rattle.floor.proofs.Questions.{start_inside}
use Rattle.answering.specs.Answer.{Answer}
use Rattle.answering.specs.declared.AnswerNumbers.{AnswerNumbers}
use Rattle.answering.specs.Answers.{row_of, answer_by, numbers_of}
use Rattle.answering.specs.Rooms.{Rooms, lent_lines}
use Rattle.answering.proofs.Lending.{asked_well}
use Rattle.search.specs.Search.{limit_line, search_lines, ByTable}
use Rattle.search.proofs.Promise.{by_table}
use Rattle.astar.specs.Astar.{AimedTable}
use Rattle.astar.proofs.Promise.{aimed_by_table}
use Rattle.tender.specs.TwoEngines.{as_plain, SameAnswer, SettlesNoMore, TwoEngines}
use Rattle.tender.proofs.Rowed.{told, settled_is}
use Rattle.tender.proofs.Leaving.{search_left}
use Rattle.tender.proofs.Searches.{route_written}
use Rattle.tender.proofs.AstarTabled.{row, has_passed, starts, ends, settled_value, cost_settled, settled_row, astar_written}

refused_alike : (f : Floor) (m : List ℕ) (start goal : ℕ) (r : Rooms) → screen (search_lines f m (as_plain f start goal) r) ≡ screen (lent_lines f m start goal r)
refused_alike f m start goal r = go (screen (lent_lines f m start goal r)) refl
  where
    go : (s : Screen) → screen (lent_lines f m start goal r) ≡ s → screen (search_lines f m (as_plain f start goal) r) ≡ screen (lent_lines f m start goal r)
    go Passed e =
        let inside = start_inside f m start goal (asked_well f m start goal r e) in
        screen_after (lent_lines f m start goal r) (limit_line (as_plain f start goal).limit ∷ []) _ Passed refl e ∙ rw (e, ne_eqb (as_plain f start goal).limit 0 (omega (arith, inside)))
    go (Refused n p) e = screen_after (lent_lines f m start goal r) (limit_line (as_plain f start goal).limit ∷ []) _ (Refused n p) refl e ∙ sym e

-- rows of the same kind, number and route are told alike
record Alike (n k : AnswerNumbers) : Type 0 where
  kind : n.kind ≡ k.kind
  number : n.number ≡ k.number
  length : n.length ≡ k.length
  sums : surd n.p n.q ≡ surd k.p k.q

module _ (f : Floor) (m : List ℕ) (s : ℕ) (v w : Row) (k : v.kind ≡ w.kind) (n : v.number ≡ w.number) (t : v.route ≡ w.route) where
  rows_alike : (k : Kind) → Alike (numbers_of (told f m s k v)) (numbers_of (told f m s k w))
  rows_alike Kind.found = record { kind = refl; number = n; length = ap length t; sums = ap (length_of f m s) t }
  rows_alike Kind.none = record { kind = refl; number = refl; length = refl; sums = refl }
  rows_alike Kind.stopped = record { kind = refl; number = n; length = refl; sums = refl }

  alike : {a b : Answer} → a ≡ answer_by f m s v → b ≡ answer_by f m s w → Alike (numbers_of a) (numbers_of b)
  alike e h = rw (e, h) (subst (λ (j : Kind). Alike (numbers_of (told f m s v.kind v)) (numbers_of (told f m s j w))) k (rows_alike v.kind))

module _ {f : Floor} {m : List ℕ} {start goal : ℕ} {r p : Rooms} {a b : Answer} {r' p' : Rooms}
    (x : ByTable f m (as_plain f start goal) r a r') (c : screen (search_lines f m (as_plain f start goal) r) ≡ Passed)
    (y : AimedTable f m start goal p b p') (d : screen (lent_lines f m start goal p) ≡ Passed) where
  table : x.table ≡ y.table
  table = right_unique (graph f m) start x.table y.table x.right y.right

  abbrev plain : Row
  plain = row_of f m (as_plain f start goal) x.table

  kinds : plain.kind ≡ (row y d).kind
  kinds = rw table (sym (aimed_kind (lawful f m (has_passed y d)) start (starts y d) y.table y.right goal (ends y d) (estimate f goal)))

  numbers : plain.number ≡ (row y d).number
  numbers = rw table (sym (aimed_number (lawful f m (has_passed y d)) start (starts y d) y.table y.right goal (ends y d) (estimate f goal)))

  routes : plain.route ≡ (row y d).route
  routes = rw table (sym (aimed_route (lawful f m (has_passed y d)) start (starts y d) y.table y.right goal (ends y d) (estimate f goal)))

  same : SameAnswer (numbers_of a) r'.route (numbers_of b) p'.route
  same =
      let z = alike f m start plain (row y d) kinds numbers routes x.answer y.answer in
      record {
        kind = z.kind;
        number = z.number;
        length = z.length;
        sums = z.sums;
        route = route_written x c ∙ rw (z.length, routes) (sym (astar_written y d));
      }

  early : (v : ℕ) → v < cells f → T (is_settled (estimate f goal) y.table goal v) → place v (L x.table) < plain.settled
  early = rw table (fewer_cells (lawful f m (has_passed y d)) start (starts y d) y.table y.right goal (ends y d) (estimate f goal) (estimate_away f goal))

  few : settled_count (estimate f goal) y.table goal ≤ plain.settled
  few = rw table (fewer_count (lawful f m (has_passed y d)) start (starts y d) y.table y.right goal (ends y d) (estimate f goal) (estimate_away f goal))

  fewer : SettlesNoMore f (numbers_of a) r'.costs (numbers_of b) p'.costs
  fewer = record {
    costs = λ v i k.
        let t = cost_settled y d v i k in
        (search_left x c).cell v i ∙ settled_left x.table plain.settled v (omega (arith, x.right.covers)) (early v i t)
        ∙ ap (λ (l : List ℕ). get_or l v 0) table ∙ sym (settled_value y d v i t);
    settled = omega (arith, few, settled_is x, settled_row y d);
  }

pub two_engines : TwoEngines
two_engines = record {
  refused = refused_alike;
  same = λ f m start goal r a r' x c p b p' y d. same (by_table x c) c (aimed_by_table y d) d;
  same_call = λ f m start goal r a r' x c p b p' y d. rw (x.numbers, y.numbers) (same (by_table x.searched c) c (aimed_by_table y.aimed d) d);
  fewer = λ f m start goal r a r' x c p b p' y d. fewer (by_table x c) c (aimed_by_table y d) d;
  fewer_call = λ f m start goal r a r' x c p b p' y d. rw (x.numbers, y.numbers) (fewer (by_table x.searched c) c (aimed_by_table y.aimed d) d);
}
