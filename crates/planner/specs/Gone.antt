-- How many bytes have gone out, as standard error tells it when a call fails. No contract speaks of what the system did with them: here a byte has gone out
-- if `write_out` answers so, and that its answer is what the writes said is read in its code, not proved.
use Rattle.std.specs.Prelude.{◌≡◌, Option, IfNone, List, ℕ, ◌+◌, ◌≤◌, min, length}

-- a count of 64 bits stays at its greatest number
abbrev pub greatest_count : ℕ
greatest_count = 18446744073709551615

abbrev pub counted : ℕ → ℕ → ℕ
counted before more = min greatest_count (before + more)

-- Some of the answers have gone out, the first of them, and are counted with those before; all of them, if there is nothing that ends the turns
pub record Gone {E : Type 0} (answers : List ℕ) (before count : ℕ) (end : Option E) : Type 0 where
  pub gone : ℕ
  pub within : gone ≤ length answers
  pub counts : count ≡ counted before gone
  pub whole : IfNone end (gone ≡ length answers)
