-- What the calls from C promise: the numbers of the reader and the writer in a struct, in which those that a case does not have are 0.
use Rattle.std.specs.Prelude.{◌≡◌, List, ℕ, length, get_or}
use Rattle.floor.specs.declared.Floor.{Floor}
use Rattle.floor.specs.declared.written.WrittenNumbers.{WrittenNumbers}
use Rattle.floor.specs.Numbers.{Numbers, refused, fault, gives, written_numbers}
use Rattle.floor.specs.Refusal.{screen}
use Rattle.maptext.specs.declared.ReadNumbers.{ReadNumbers}
use Rattle.maptext.specs.Text.{text_of, write_lines, written_for, text_left}
use Rattle.maptext.specs.Reading.{reading_of, read_for, cells_left}

-- refusal and place, or width, height and ways
abbrev pub read_numbers : Numbers → ReadNumbers
read_numbers (refused n p) = record { refusal = n; place = p; width = 0; height = 0; ways = 0 }
read_numbers (fault n p) = record { refusal = n; place = p; width = 0; height = 0; ways = 0 }
read_numbers (gives vs) = record { refusal = 0; place = 0; width = get_or vs 0 0; height = get_or vs 1 0; ways = get_or vs 2 0 }

-- the promise of the reader's call: its numbers and its room are the reader's
pub record ReadCalled (text room : List ℕ) (n : ReadNumbers) (room' : List ℕ) : Type 0 where
  pub numbers : n ≡ read_numbers (read_for (reading_of text (length room)))
  pub leaves : room' ≡ cells_left (reading_of text (length room)) room

-- and of the writer's
pub record WriteCalled (f : Floor) (m room : List ℕ) (n : WrittenNumbers) (room' : List ℕ) : Type 0 where
  pub numbers : n ≡ written_numbers (written_for f m (length room))
  pub leaves : room' ≡ text_left (text_of f.width f.height m) room (screen (write_lines f m (length room)))
