-- The text is a map, and its rows, which end the text, are stored.
use Rattle.std.proofs.Common.{length, arith}
use native.Mathlib.Nat.{mul_comm}
use Rattle.maptext.proofs.Storing.{has_map, rows_start, cells_fit, width_small, left_stored}
use Rattle.maptext.proofs.reader.read_map.Goals as goal

pub overflow_add-from : goal.overflow_add-from
overflow_add-from c =
    let map = has_map c.args.text.now (length c.args.cells.now) c.in_ok-floor.floor c.in_ok-floor.was (cc) in
    omega (arith, width_small map)

pub overflow_mul-from : goal.overflow_mul-from
overflow_mul-from c =
    let map = has_map c.args.text.now (length c.args.cells.now) c.in_ok-floor.floor c.in_ok-floor.was (cc) in
    omega (arith, rows_start map)

pub overflow_sub-from : goal.overflow_sub-from
overflow_sub-from c =
    let map = has_map c.args.text.now (length c.args.cells.now) c.in_ok-floor.floor c.in_ok-floor.was (cc) in
    omega (arith, rows_start map)

pub fill_rows-requires : goal.fill_rows-requires
fill_rows-requires c =
    let map = has_map c.args.text.now (length c.args.cells.now) c.in_ok-floor.floor c.in_ok-floor.was (cc) in
    let f = c.in_ok-floor.floor in
    (omega (arith, rows_start map), omega (arith, mul_comm f.width f.height, cells_fit map))

pub returns : goal.returns
returns c =
    let map = has_map c.args.text.now (length c.args.cells.now) c.in_ok-floor.floor c.in_ok-floor.was (cc) in
    left_stored map c.fill_rows.ensures
