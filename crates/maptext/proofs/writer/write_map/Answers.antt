-- The map has passed where the other answers are given, and its text is as long as was tested.
use Rattle.std.proofs.Common.{sym, arith}
use Rattle.floor.proofs.Passing.{map_facts}
use Rattle.putting.proofs.Puts.{put_both}
use Rattle.maptext.specs.Text.{text_of}
use Rattle.maptext.proofs.Lengths.{text_length}
use Rattle.maptext.proofs.Writing.{rows_in_map, written_short, written_whole}
use Rattle.maptext.proofs.writer.write_map.Goals as goal

pub text_length-requires : goal.text_length-requires
text_length-requires c =
    let passed = sym c.in_ok-screen_map.ensures in
    let k = map_facts c.args.f c.args.map.now passed in
    (k.wide, k.wide_top, k.high, k.high_top)

pub returns-then-text-text_length : goal.returns-then-text-text_length
returns-then-text-text_length c =
    let passed = sym c.in_ok-screen_map.ensures in
    let k = map_facts c.args.f c.args.map.now passed in
    let size = text_length c.args.f.width c.args.f.height c.args.map.now (rows_in_map k) in
    written_short _ _ _ passed (omega (arith, size, c.text_length.ensures))

pub put_header-rows_at-requires : goal.put_header-rows_at-requires
put_header-rows_at-requires c =
    let passed = sym c.in_ok-screen_map.ensures in
    let k = map_facts c.args.f c.args.map.now passed in
    (k.wide, k.wide_top, k.high, k.high_top, omega (arith, c.text_length.ensures))

pub put_rows-requires : goal.put_rows-requires
put_rows-requires c =
    let passed = sym c.in_ok-screen_map.ensures in
    let k = map_facts c.args.f c.args.map.now passed in
    (k.weights, rows_in_map k, omega (arith, c.text_length.ensures, c.put_header-rows_at.ensures.next))

pub returns : goal.returns
unfolding text_of
returns c =
    let passed = sym c.in_ok-screen_map.ensures in
    let k = map_facts c.args.f c.args.map.now passed in
    let size = text_length c.args.f.width c.args.f.height c.args.map.now (rows_in_map k) in
    written_whole _ _ _ passed (omega (arith, size, c.text_length.ensures)) (put_both c.put_header-rows_at.ensures c.put_rows.ensures)
