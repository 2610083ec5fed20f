-- A refusal is given at once; else the parts that are lent are as long as the core asks.
use mathlib.Core.Path.{◌≡◌, sym, ◌∙◌}
use native.Mathlib.Omega.{arith}
use borrow.Author.Rules.{rules}
use lib.Seq.{length-take-le}
use Rattle.floor.specs.Screen.{Passed}
use Rattle.floor.specs.Refusal.{screen}
use Rattle.floor.specs.Refusals.{number_of, place_of}
use Rattle.floor.proofs.Questions.{question_covers}
use Rattle.answering.specs.Answer.{Answer, answer_of}
use Rattle.answering.specs.Rooms.{rooms}
use Rattle.search.specs.Search.{search_lines}
use Rattle.search.proofs.Lending.{searched_refused, search_question, long_costs, long_work, long_route}
use Rattle.search.proofs.rooms.search.Goals as goal

pub returns-in_err-screen_search : goal.returns-in_err-screen_search
returns-in_err-screen_search c =
    let r = c.in_err-screen_search.field-0.0 in
    let told : answer_of c.from_residual.result ≡ Answer.Refused (number_of r) (place_of r) = search rules in
    rw told (searched_refused _ _ _ _ _ _ (sym c.in_err-screen_search.ensures))

pub search_rooms-requires-clause-costs_len : goal.search_rooms-requires-clause-costs_len
search_rooms-requires-clause-costs_len c =
    let a = c.args in
    let f = a.f in
    let m = a.map.now in
    let q = a.question in
    let r = rooms a.costs.now a.work.now a.route.now in
    let passed : screen (search_lines f m q r) ≡ Passed = sym c.in_ok-screen_search.ensures in
    let covers = question_covers f m q.start q.goal (search_question f m q r passed) in
    let costs = long_costs f m q r passed in
    let work = long_work f m q r passed in
    (length-take-le _ _ (omega arith) ∙ covers, length-take-le _ _ (omega arith) ∙ omega arith, long_route f m q r passed)
