-- Each return is one of the four things that `Using` has a text come to.
use Rattle.std.proofs.Common.{length, arith}
use Rattle.std.proofs.lemmas.Result.{err_from_is_err_and}
use Rattle.maptext.proofs.Storing.{has_map}
use Rattle.mapuse.proofs.Using.{too_long, reader_refuses, too_great, can_be_used}
use Rattle.mapuse.proofs.use_map.Goals as goal

pub returns-then-text-gt-GREATEST_TEXT : goal.returns-then-text-gt-GREATEST_TEXT
returns-then-text-gt-GREATEST_TEXT c = too_long _ _ c.if-text-gt-GREATEST_TEXT.true

pub returns-in_err-floor : goal.returns-in_err-floor
returns-in_err-floor c =
    let told = err_from_is_err_and c.from_residual.result c.from_residual.ensures.1 in
    rw (told.1, told.2) (reader_refuses _ _ c.if-text-gt-GREATEST_TEXT.false c.in_err-floor.field-0.0 c.in_err-floor.ensures)

pub returns-then-floor-gt-GREATEST_USED_SIDE : goal.returns-then-floor-gt-GREATEST_USED_SIDE
returns-then-floor-gt-GREATEST_USED_SIDE c =
    let map = has_map c.args.text.now (length c.args.cells.now) c.in_ok-floor.floor c.in_ok-floor.was c.judge_map.ensures in
    too_great _ _ c.if-text-gt-GREATEST_TEXT.false _ map c.then-floor-gt-GREATEST_USED_SIDE.either

pub returns : goal.returns
returns c =
    let map = has_map c.args.text.now (length c.args.cells.now) c.in_ok-floor.floor c.in_ok-floor.was c.judge_map.ensures in
    can_be_used _ _ c.if-text-gt-GREATEST_TEXT.false _ map (omega arith) (omega arith) c.read_map.ensures
