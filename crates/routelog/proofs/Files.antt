-- A whole file, by its first entry and then the rest: what was written is read, and what was read is what stands there.
use mathlib.Core.Path.{◌≡◌, refl, sym, ap, ◌∙◌}
use mathlib.Core.List.{List, [], ◌∷◌, ◌++◌, append_assoc, append-nil}
use Prim.Native.Nat.{ℕ, zero, suc, ◌≤◌}
use native.Mathlib.Omega.{arith}
use lib.ListN.{length, length-drop}
use lib.Seq.{drop-append_seam}
use Rattle.floor.specs.Screen.{Screen, Passed, Refused}
use Rattle.logentries.specs.Entry.{Entry, entry_bytes}
use Rattle.routelog.specs.Reading.{Reading, empty, refused, entry, reading_of}
use Rattle.routelog.specs.File.{file_bytes, Log, log_with, rest_after, and_then, entries_of, log_of, AllEntries}
use Rattle.routelog.proofs.Taking.{reading_empty}
use Rattle.routelog.proofs.Back.{read_bytes}
use Rattle.routelog.proofs.Found.{empty_is, found, found_entry, found_fits, found_bytes, found_long}

rest_shorter : (x : Reading) (file : List ℕ) → length (rest_after x file) ≤ length file
rest_shorter empty file = omega arith
rest_shorter (refused n p) file = omega arith
rest_shorter (entry e) file = omega (arith, length-drop (length (entry_bytes e)) file)

-- after an entry less is left, so that as many turns as a file has bytes are enough
rest_less : (room n : ℕ) (file : List ℕ) (e : Entry) → reading_of file room ≡ entry e → length file ≤ suc n → length (rest_after (entry e) file) ≤ n
rest_less room n file e x h = omega (arith, length-drop (length (entry_bytes e)) file, found_long (found file room e x))

pub enough_turns : (room n m : ℕ) (file : List ℕ) → length file ≤ n → length file ≤ m → entries_of room n file ≡ entries_of room m file
enough_turns room zero zero file h k = refl
enough_turns room zero (suc m) file h k = rw (reading_empty file room (omega arith))
enough_turns room (suc n) zero file h k = rw (reading_empty file room (omega arith))
enough_turns room (suc n) (suc m) file h k = go (reading_of file room) refl (enough_turns room n m)
  where
    go : (x : Reading) → reading_of file room ≡ x → ((rest : List ℕ) → length rest ≤ n → length rest ≤ m → entries_of room n rest ≡ entries_of room m rest)
        → and_then x (entries_of room n (rest_after x file)) ≡ and_then x (entries_of room m (rest_after x file))
    go empty e ih = refl
    go (refused r p) e ih = refl
    go (entry y) e ih = ap (and_then (entry y)) (ih (rest_after (entry y) file) (rest_less room n file y e h) (rest_less room m file y e k))

-- a file is its first reading, and then the rest
pub log_on : (file : List ℕ) (room : ℕ) → log_of file room ≡ and_then (reading_of file room) (log_of (rest_after (reading_of file room) file) room)
unfolding log_of
log_on file room =
    let x = reading_of file room in
    let rest = rest_after x file in
    enough_turns room (length file) (suc (length file)) file (omega arith) (omega arith)
    ∙ ap (and_then x) (enough_turns room (length file) (length rest) rest (rest_shorter x file) (omega arith))

pub log_nil : (room : ℕ) → log_of [] room ≡ log_with [] Passed
unfolding log_of
log_nil room = refl

-- entries that were written are read before whatever follows them
pub log_after : (room : ℕ) (es : List Entry) (tail : List ℕ) → AllEntries room es
    → log_of (file_bytes es ++ tail) room ≡ log_with (es ++ (log_of tail room).entries) (log_of tail room).ending
log_after room [] tail a = refl
log_after room (e ∷ es) tail a =
    let rest = file_bytes es ++ tail in
    let first = read_bytes e rest a.0 room a.1 in
    rw (append_assoc (entry_bytes e) (file_bytes es) tail)
    (log_on (entry_bytes e ++ rest) room ∙ rw (first, drop-append_seam (entry_bytes e) rest, log_after room es tail a.2))

-- writing entries and reading the file gives the same entries
pub log_written : (room : ℕ) (es : List Entry) → AllEntries room es → log_of (file_bytes es) room ≡ log_with es Passed
log_written room es a = rw (← append-nil (file_bytes es)) (log_after room es [] a ∙ rw (log_nil room, append-nil es))

-- two lists of entries with the same bytes are the same list
pub same_bytes : (room : ℕ) (es fs : List Entry) → AllEntries room es → AllEntries room fs → file_bytes es ≡ file_bytes fs → es ≡ fs
same_bytes room es fs a b e =
    let same : log_with es Passed ≡ log_with fs Passed = sym (log_written room es a) ∙ ap (λ (file : List ℕ). log_of file room) e ∙ log_written room fs b in
    ap (λ (l : Log). l.entries) same

abbrev pub ended_by : Screen → Reading
ended_by Passed = empty
ended_by (Refused n p) = refused n p

-- a file is the bytes of its entries, and then a rest that is empty or refused
pub record Splits (room : ℕ) (file : List ℕ) (l : Log) : Type 0 where
  pub rest : List ℕ
  pub bytes : file ≡ file_bytes l.entries ++ rest
  pub ends : reading_of rest room ≡ ended_by l.ending
  pub entries : AllEntries room l.entries

split : (room n : ℕ) (file : List ℕ) → length file ≤ n → Splits room file (entries_of room n file)
split room zero file h = record { rest = file; bytes = refl; ends = reading_empty file room (omega arith); entries = tt }
split room (suc n) file h = go (reading_of file room) refl (split room n)
  where
    go : (x : Reading) → reading_of file room ≡ x → ((rest : List ℕ) → length rest ≤ n → Splits room rest (entries_of room n rest))
        → Splits room file (and_then x (entries_of room n (rest_after x file)))
    go empty e ih = record { rest = file; bytes = refl; ends = e; entries = tt }
    go (refused r p) e ih = record { rest = file; bytes = refl; ends = e; entries = tt }
    go (entry y) e ih =
        let f = found file room y e in
        let s = ih (rest_after (entry y) file) (rest_less room n file y e h) in
        let later = file_bytes (entries_of room n (rest_after (entry y) file)).entries in
        record {
          rest = s.rest;
          bytes = sym (found_bytes f) ∙ ap (λ (bs : List ℕ). entry_bytes y ++ bs) s.bytes ∙ sym (append_assoc (entry_bytes y) later s.rest);
          ends = s.ends;
          entries = (found_entry f, found_fits f, s.entries);
        }

pub log_splits : (room : ℕ) (file : List ℕ) → Splits room file (log_of file room)
unfolding log_of
log_splits room file = split room (length file) file (omega arith)

-- a file that is read whole writes back byte for byte
pub log_back : (room : ℕ) (file : List ℕ) (es : List Entry) → log_of file room ≡ log_with es Passed → file_bytes es ≡ file
log_back room file es x =
    let s = rw x at (log_splits room file) in
    sym (s.bytes ∙ ap (λ (rest : List ℕ). file_bytes es ++ rest) (empty_is s.rest room s.ends) ∙ append-nil (file_bytes es))
