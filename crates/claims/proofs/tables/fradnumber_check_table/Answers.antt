-- Every place and cell of a verdict fits the low half.
use Rattle.claims.proofs.Packing.{table_value_small}
use Rattle.claims.proofs.tables.fradnumber_check_table.Goals as goal

pub pack-requires : goal.pack-requires
pack-requires c = rw c.check_table.ensures (table_value_small _ _ _ _)
