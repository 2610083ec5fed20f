-- What is wrong with a text that is no map, in 01's words: the first fault met in its rows, and a text that ends inside its header.
use Rattle.std.specs.Prelude.{◌≡◌, ◌≢◌, ◌⊎◌, List, [], ◌++◌, ℕ, suc, ◌+◌, ◌*◌, ◌%◌, ◌<◌, T, length, get_or}
use Rattle.floor.specs.Screen.{Passed}
use Rattle.floor.specs.Place.{is_side}
use Rattle.floor.specs.Refusal.{screen}
use Rattle.floor.specs.LowestLine.{IsLowestLine}
use Rattle.textlines.specs.Line.{LF, side_line}
use Rattle.textrows.specs.Cell.{NoCell}
use Rattle.textrows.specs.Chars.{cell_of}
use Rattle.maptext.specs.Text.{type_line, height_word, width_word}
use Rattle.maptext.specs.Reading.{height_in, width_in, rows_at, header_lines}

-- byte b is right at offset i of rows of w cells: a cell character where a cell is due, and LF after a full row
pub record IsRight (w i b : ℕ) : Type 0 where
  pub cell : i % suc w < w → cell_of b ≢ NoCell
  pub line_end : i % suc w ≡ w → b ≡ LF

-- fault n at offset i of h rows of w cells that begin at `start`: 25 a byte that is no cell character where a cell is due,
-- 26 another byte than LF after a full row, 27 the text ends too soon, 28 a further byte after the last row
pub data IsWrong (text : List ℕ) (start w h i n : ℕ) : Type 0 where
  no_cell : start + i < length text → i < h * suc w → i % suc w < w → cell_of (get_or text (start + i) 0) ≡ NoCell → n ≡ 25 → IsWrong text start w h i n
  no_line_end : start + i < length text → i < h * suc w → i % suc w ≡ w → get_or text (start + i) 0 ≢ LF → n ≡ 26 → IsWrong text start w h i n
  too_soon : start + i ≡ length text → i < h * suc w → n ≡ 27 → IsWrong text start w h i n
  further : start + i < length text → i ≡ h * suc w → n ≡ 28 → IsWrong text start w h i n

-- fault n at place p is the first met in the rows of the text: every byte of the rows before it is right
pub record IsRowsFault (text : List ℕ) (n p : ℕ) : Type 0 where
  pub offset : ℕ
  pub place : p ≡ rows_at text + offset
  pub before : (i : ℕ) → i < offset → IsRight (width_in text) i (get_or text (rows_at text + i) 0)
  pub wrong : IsWrong text (rows_at text) (width_in text) (height_in text) offset n

-- what the reader refuses, for a cell room of that length: a line of the header, or, where none applies, the first fault met in the rows
abbrev pub IsFirstFault : List ℕ → ℕ → ℕ → ℕ → Type 0
IsFirstFault text room n p = IsLowestLine (header_lines text room) n p ⊎ ((screen (header_lines text room) ≡ Passed) × IsRowsFault text n p)

-- the text ends too soon: its header has passed, it ends before its last row does, at p, and what it has of its rows is right
pub record EndsTooSoon (text : List ℕ) (room p : ℕ) : Type 0 where
  pub header : screen (header_lines text room) ≡ Passed
  pub place : p ≡ length text
  pub short : length text < rows_at text + height_in text * suc (width_in text)
  pub right : (i : ℕ) → rows_at text + i < length text → IsRight (width_in text) i (get_or text (rows_at text + i) 0)

-- the lines of a header before the one that is refused n
pub data LinesBefore : ℕ → List ℕ → Type 0 where
  first : LinesBefore 21 []
  second : LinesBefore 22 type_line
  third : (h : ℕ) → T (is_side h) → LinesBefore 23 (type_line ++ side_line height_word h)
  fourth : (h w : ℕ) → T (is_side h) → T (is_side w) → LinesBefore 24 (type_line ++ side_line height_word h ++ side_line width_word w)

-- the text ends inside the line that is refused n, and which starts at p: that line's LF has not come
pub record EndsInLine (text : List ℕ) (n p : ℕ) : Type 0 where
  pub before : List ℕ
  pub begun : List ℕ
  pub lines : LinesBefore n before
  pub no_end : (i : ℕ) → i < length begun → get_or begun i 0 ≢ LF
  pub text_is : text ≡ before ++ begun
  pub place : p ≡ length before
