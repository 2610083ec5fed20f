-- What the program has answered. No contract speaks of what a system call read or wrote: `piece` is what stands in the buffer once it was read, and
-- `written` is what was handed to `write_out`.
use Rattle.std.specs.Prelude.{IfNone, List, [], ℕ, ◌<◌, length, take}
use Rattle.floor.specs.declared.Floor.{Floor}
use Rattle.answering.specs.Rooms.{Rooms}
use Rattle.recordlayout.specs.Record.{record_size}
use Rattle.desk.specs.Turn.{Turn}
use Rattle.planner.specs.declared.Turn as declared
use Rattle.planner.specs.Gone.{Gone}

-- the bytes kept and the piece were taken in a turn, before which so many bytes had gone out; what is kept now stands at the buffer's front
pub record TurnTaken (f : Floor) (m kept piece : List ℕ) (before : ℕ) (r : Rooms) (t : declared.Turn) (buffer' : List ℕ) (r' : Rooms) : Type 0 where
  pub written : List ℕ
  pub turn : Turn f m kept piece r written (take t.kept buffer') r'
  pub broken : t.kept < record_size
  pub out : Gone written before t.gone t.end

-- some piece was taken so, with a byte at least if there may be more to read
pub record SomeTurn (f : Floor) (m kept : List ℕ) (before : ℕ) (r : Rooms) (t : declared.Turn) (buffer' : List ℕ) (r' : Rooms) : Type 0 where
  pub piece : List ℕ
  pub taken : TurnTaken f m kept piece before r t buffer' r'
  pub grows : IfNone t.end (0 < length piece)

-- all that has arrived so far was taken so
pub record AllSoFar (f : Floor) (m : List ℕ) (r : Rooms) (t : declared.Turn) (buffer' : List ℕ) (r' : Rooms) : Type 0 where
  pub arrived : List ℕ
  pub taken : TurnTaken f m [] arrived 0 r t buffer' r'
