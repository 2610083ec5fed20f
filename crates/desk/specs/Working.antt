-- What the parts of the desk promise to each other. What records mean is in Desk.
use Rattle.std.specs.Prelude.{◌≡◌, List, ℕ, take, drop}
use Rattle.std.proofs.Math.Seq.{paste}
use Rattle.floor.specs.declared.Floor.{Floor}
use Rattle.answering.specs.Answer.{Answer}
use Rattle.answering.specs.Rooms.{Rooms}
use Rattle.recordlayout.specs.Record.{record_size, record_of}
use Rattle.desk.specs.Desk.{Asked}

-- the record at an offset of the buffer is answered in its place
pub record AnsweredAt (f : Floor) (m bytes : List ℕ) (at : ℕ) (r : Rooms) (bytes' : List ℕ) (r' : Rooms) : Type 0 where
  pub answer : Answer
  pub asked : Asked f m (take record_size (drop at bytes)) r answer r'
  pub leaves : bytes' ≡ paste bytes at (record_of answer) record_size
