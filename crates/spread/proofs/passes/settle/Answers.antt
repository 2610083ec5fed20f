-- The calls in a row: what each leaves is what the next needs. The search is over, or no cell is listed.
use Rattle.std.proofs.Common.{arith, sym, ◌∙◌}
use Rattle.floor.proofs.Laws.{lawful}
use Rattle.spread.proofs.Listings.{begun_listing}
use Rattle.spread.proofs.Passing.{can_aim, can_look, can_pass, ends_empty, ends_over}
use Rattle.spread.proofs.passes.settle.Goals as goal

pub begin-len-requires : goal.begin-len-requires
begin-len-requires c =
    let p = c.requires.has_passed in
    record {
      inside = omega arith;
      small = omega (arith, (lawful c.args.aim.floor c.args.map.now p.0).cells_fit);
      double = omega arith;
    }

pub loop-len-init : goal.loop-len-init
loop-len-init c = begun_listing c.requires.has_passed.0 c.requires.has_passed.1 (rw c.requires.costs_len.0 at c.begin-len.ensures)

pub least_sum-least-requires : goal.least_sum-least-requires
least_sum-least-requires c =
    let p = c.requires.has_passed in
    can_look c.args.aim c.loop-len.invariant (can_aim c.args.aim c.args.map.now p.0 p.2 p.3) c.loop-len-test.true

pub returns-then-is_over : goal.returns-then-is_over
returns-then-is_over c = ends_over c.args.aim c.loop-len.invariant c.requires.has_passed.3 c.least_sum-least.ensures.least (sym c.if-is_over.true ∙ c.is_over.ensures)

pub pass-len-requires : goal.pass-len-requires
pass-len-requires c =
    let p = c.requires.has_passed in
    can_pass c.args.aim c.loop-len.invariant (can_aim c.args.aim c.args.map.now p.0 p.2 p.3) c.least_sum-least.ensures.least (omega arith)

pub returns : goal.returns
returns c = ends_empty c.args.aim c.loop-len.invariant (omega arith)
