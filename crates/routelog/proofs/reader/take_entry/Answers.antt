-- The rest of the file has passed, so that the records and the route are there and the route has room; what is copied is the entry.
use mathlib.Core.Path.{◌≡◌, sym, ap, ◌∙◌}
use mathlib.Core.List.{List, ◌++◌}
use Prim.Native.Nat.{ℕ, ◌+◌, ◌-◌, ◌≤◌}
use native.Mathlib.Omega.{arith}
use lib.ListN.{length, take, drop, length-drop}
use lib.Seq.{take-length, length-take-le}
use Rattle.answering.specs.declared.AnswerNumbers.{AnswerNumbers}
use Rattle.recordlayout.specs.Record.{record_size, answer_in}
use Rattle.logentries.specs.Entry.{greatest_length, steps_in}
use Rattle.routelog.specs.Reading.{answer_at}
use Rattle.logentries.proofs.Sizes.{size_holds}
use Rattle.logentries.proofs.Answers.{steps_few}
use Rattle.routelog.proofs.Passing.{Passes, passes}
use Rattle.routelog.proofs.Taking.{taken}
use Rattle.routelog.proofs.reader.take_entry.Goals as goal
use Rattle.routelog.proofs.reader.take_entry.Goals.{Start, After-numbers_in-length}

known : (c : Start) → Passes c.args.rest.now (length c.args.route.now)
known c = passes _ _ c.requires

-- how many directions there are
steps : (c : After-numbers_in-length) → c.numbers_in-length.result.length ≡ steps_in (answer_at c.args.rest.now)
steps c = ap (λ (n : AnswerNumbers). n.length) (c.numbers_in-length.ensures ∙ ap answer_in c.record_at-answer.ensures)

pub record_at-question-requires : goal.record_at-question-requires
record_at-question-requires c = omega (arith, known (goal.at.record_at-question-requires c).Start)

pub record_at-answer-requires : goal.record_at-answer-requires
record_at-answer-requires c = omega (arith, known (goal.at.record_at-answer-requires c).Start)

few : (c : After-numbers_in-length) → Passes c.args.rest.now (length c.args.route.now) → c.numbers_in-length.result.length ≤ greatest_length
few c k = omega (arith, steps c, steps_few _ k.logged)

within : (c : After-numbers_in-length) → Passes c.args.rest.now (length c.args.route.now) → record_size + record_size + c.numbers_in-length.result.length ≤ length c.args.rest.now
within c k =
    omega (arith, steps c, size_holds (steps_in (answer_at c.args.rest.now)), k.route_long, k.head_long, length-drop (record_size + record_size) c.args.rest.now)

-- the part of the rest that is copied is as long as there are directions
part_long : (n : ℕ) (rest : List ℕ) → record_size + record_size + n ≤ length rest → length (take (record_size + record_size + n - (record_size + record_size)) (drop (record_size + record_size) rest)) ≡ n
part_long n rest h =
    let e : record_size + record_size + n - (record_size + record_size) ≡ n = omega arith in
    rw e (length-take-le n (drop (record_size + record_size) rest) (omega (arith, length-drop (record_size + record_size) rest)))

in_front : (part new room : List ℕ) (n : ℕ) → length part ≡ n → new ≡ part → new ++ drop n room ≡ take (length part) part ++ drop (length part) room
in_front part new room n e same = rw (take-length part, e, same)

pub overflow_add-length : goal.overflow_add-length
overflow_add-length c = let a = goal.at.overflow_add-length c in omega (arith, few a.After-numbers_in-length (known a.Start))

pub slice_bounds-copy_from_slice-end : goal.slice_bounds-copy_from_slice-end
slice_bounds-copy_from_slice-end c =
    let a = goal.at.slice_bounds-copy_from_slice-end c in
    let k = known a.Start in
    omega (arith, steps a.After-numbers_in-length, k.room_long)

pub slice_bounds-copy_from_slice-end-2 : goal.slice_bounds-copy_from_slice-end-2
slice_bounds-copy_from_slice-end-2 c =
    let a = goal.at.slice_bounds-copy_from_slice-end-2 c in
    let k = known a.Start in
    sym (length-take-le _ c.args.route.now (omega (arith, steps a.After-numbers_in-length, k.room_long)))

pub slice_bounds-copy_from_slice-end-3 : goal.slice_bounds-copy_from_slice-end-3
slice_bounds-copy_from_slice-end-3 c =
    let a = goal.at.slice_bounds-copy_from_slice-end-3 c in
    omega (arith, within a.After-numbers_in-length (known a.Start))

pub copy_from_slice-requires : goal.copy_from_slice-requires
copy_from_slice-requires c =
    let a = goal.at.copy_from_slice-requires c in
    let k = known a.Start in
    length-take-le _ c.args.route.now (omega (arith, steps a.After-numbers_in-length, k.room_long))
    ∙ sym (part_long _ c.args.rest.now (within a.After-numbers_in-length k))

pub route_size-requires : goal.route_size-requires
route_size-requires c = let a = goal.at.route_size-requires c in few a.After-numbers_in-length (known a.Start)

pub overflow_add-result : goal.overflow_add-result
overflow_add-result c =
    let a = goal.at.overflow_add-result c in
    omega (arith, few a.After-numbers_in-length (known a.Start), size_holds c.numbers_in-length.result.length, c.route_size.ensures)

pub returns : goal.returns
returns c =
    let a = goal.at.returns c in
    taken (known a.Start) c.record_at-question.ensures c.record_at-answer.ensures (steps a.After-numbers_in-length) c.route_size.ensures
    (in_front _ _ c.args.route.now _ (part_long _ c.args.rest.now (within a.After-numbers_in-length (known a.Start))) c.copy_from_slice.ensures.after)
