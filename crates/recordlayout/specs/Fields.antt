-- The numbers of an answer in the fields of its record. What records mean is in Record.
use Rattle.std.specs.Prelude.{◌≤◌, ◌<◌}
use Rattle.paths.specs.Graph.{MARK}
use Rattle.answering.specs.declared.AnswerNumbers.{AnswerNumbers}

-- kind and refusal number have room in their bytes
pub record SmallCodes (n : AnswerNumbers) : Type 0 where
  pub kind : n.kind < 256
  pub refusal : n.refusal < 256

-- every number has room in its field
pub record InRecord (n : AnswerNumbers) : Type 0 where
  pub kind_fits : n.kind < 256
  pub refusal_fits : n.refusal < 256
  pub settled_fits : n.settled ≤ MARK
  pub number_fits : n.number ≤ MARK
  pub length_fits : n.length ≤ MARK
  pub p_fits : n.p ≤ MARK
  pub q_fits : n.q ≤ MARK
