-- What `all` answers of a slice, as std says it of a test that the closure computes.
use Rattle.std.proofs.Common.{◌&&◌, rules, tests}
use Rattle.std.proofs.lemmas.Iterator.{YieldsList-from_slice}
use Rattle.std.proofs.lemmas.Iterator.Search.{all_from_yields_List}
use lib.Dec.{leb}
use Rattle.logentries.proofs.all_within.Goals as goal

pub returns : goal.returns
returns c =
    all_from_yields_List (λ b. leb c.args.least b && leb b c.args.greatest) _ _ c.all.result c.all.ensures.ran
    (YieldsList-from_slice c.args.bytes.now cc)
    (λ x b q k. search (rules, tests))
