-- No cell is open, or the goal is below the bound and its place is counted in the list, or the limit falls in the band: each answer is a row of 01's table.
use Rattle.std.proofs.Common.{arith}
use Rattle.lastband.proofs.Answering.{are_cells, few, covers, counted, can_stop, can_walk, limit_falls, goal_before, place_small, finished_none, finished_found, finished_stopped}
use Rattle.lastband.proofs.last.finish.Goals as goal
use Rattle.lastband.proofs.last.finish.Goals.{then-cost-band+else-place-question, else-cost-band}

pub returns-then-front-eq0 : goal.returns-then-front-eq0
returns-then-front-eq0 c = finished_none c.requires c.if-front-eq0.true

pub key_of-requires : goal.key_of-requires
key_of-requires c = omega (arith, c.requires.inside, few c.requires)

pub count_before-requires : goal.count_before-requires
count_before-requires c = (are_cells c.requires, omega (arith, covers c.requires, few c.requires))

pub overflow_add-place : goal.overflow_add-place
overflow_add-place c =
    let n = c.if-front-eq0.false in
    omega (arith, counted c.requires n c.key_of.ensures c.count_before.ensures, place_small c.requires n c.if-cost-band.true)

pub arrive-requires : goal.arrive-requires
arrive-requires c =
    let n = c.if-front-eq0.false in
    record {
      walk = can_walk c.requires n c.if-cost-band.true;
      room = c.requires.room;
      small = omega (arith, counted c.requires n c.key_of.ensures c.count_before.ensures, place_small c.requires n c.if-cost-band.true);
    }

pub returns-then-place-question : goal.returns-then-place-question
returns-then-place-question c =
    let n = c.if-front-eq0.false in
    let p = counted c.requires n c.key_of.ensures c.count_before.ensures in
    finished_found c.requires n c.if-cost-band.true p (omega (arith, p, c.if-place-question.true)) c.arrive.ensures

pub stop_at_limit-requires : goal.stop_at_limit-requires
stop_at_limit-requires c =
    let n = c.if-front-eq0.false in
    can_stop c.requires n
    (elim c.if-cost-band.branch [
      | then-cost-band+else-place-question w ↦ omega (arith, counted c.requires n w.key_of.ensures w.count_before.ensures, w.if-place-question.false, goal_before c.requires n w.if-cost-band.true)
      | else-cost-band w ↦ limit_falls c.requires n w.if-cost-band.false
    ])

pub returns : goal.returns
returns c =
    let n = c.if-front-eq0.false in
    finished_stopped c.requires n
    (λ b. elim c.if-cost-band.branch [
      | then-cost-band+else-place-question w ↦ omega (arith, counted c.requires n w.key_of.ensures w.count_before.ensures, w.if-place-question.false)
      | else-cost-band w ↦ absurd (omega (arith, w.if-cost-band.false))
    ])
    c.stop_at_limit.ensures
