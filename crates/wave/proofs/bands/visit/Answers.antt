-- The two returns are the two things that a band does to its first cell, for any wave at hand.
use Rattle.std.proofs.Common.{arith}
use Rattle.wave.proofs.Visits.{first_inside, first_taking, first_within, first_room, first_kept, first_done}
use Rattle.wave.proofs.bands.visit.Goals as goal

pub bounds-costs-cell : goal.bounds-costs-cell
bounds-costs-cell c = omega (arith, first_inside c.requires.here c.requires.before, c.requires.here.wave.covers)

pub take_steps-requires : goal.take_steps-requires
take_steps-requires c =
    let p = c.requires in
    record {
      can = record { s = p.s; bound = c.args.bound; at = c.args.at; stop = p.stop; other = p.other; here = first_taking p.here p.before c.if-costs-cell.true };
      within = first_within p.here p.before c.args.limit p.within c.if-costs-cell.true;
    }

pub returns-then-costs-cell : goal.returns-then-costs-cell
returns-then-costs-cell c = λ s stop other l b. first_done (c.take_steps.ensures s c.args.bound c.args.at stop other (first_taking b l c.if-costs-cell.true))

pub bounds-work-end : goal.bounds-work-end
bounds-work-end c = omega (arith, first_room c.requires.here c.requires.before c.if-costs-cell.false, c.requires.here.halves)

pub returns : goal.returns
returns c = λ s stop other l b. first_kept b l c.if-costs-cell.false
