-- How long the bytes of a route and of an entry are.
use mathlib.Core.Path.{◌≡◌}
use mathlib.Core.List.{List, ◌++◌}
use Prim.Native.Nat.{ℕ, ◌+◌, ◌-◌, ◌%◌, ◌≤◌, ◌<◌}
use native.Mathlib.Nat.{div-add-mod', mod-lt}
use native.Mathlib.Omega.{arith}
use lib.ListN.{length, replicate, length-append, length-replicate}
use Rattle.recordlayout.specs.Record.{record_size}
use Rattle.logentries.specs.Entry.{Entry, route_size, filler, route_bytes, entry_bytes}

-- the records hold the directions, and one record less would not
pub size_holds : (n : ℕ) → (n ≤ route_size n) × (route_size n < n + record_size)
unfolding route_size
size_holds n =
    let whole = div-add-mod' (n + (record_size - 1)) record_size in
    let part : (n + (record_size - 1)) % record_size < record_size = mod-lt (n + (record_size - 1)) (omega arith) in
    (omega arith, omega arith)

-- more directions do not take fewer records
pub sizes_rise : (n k : ℕ) → n ≤ k → route_size n ≤ route_size k
unfolding route_size
sizes_rise n k h =
    let part : (k + (record_size - 1)) % record_size < record_size = mod-lt (k + (record_size - 1)) (omega arith) in
    omega (arith, div-add-mod' (n + (record_size - 1)) record_size, div-add-mod' (k + (record_size - 1)) record_size, h)

pub route_length_lem : (ds : List ℕ) → length (route_bytes ds) ≡ route_size (length ds)
unfolding route_bytes
route_length_lem ds =
    omega (arith, length-append ds (replicate (route_size (length ds) - length ds) filler), length-replicate (route_size (length ds) - length ds) filler, size_holds (length ds))

pub entry_length : (e : Entry) → length (entry_bytes e) ≡ length e.question + length e.answer + route_size (length e.route)
unfolding entry_bytes
entry_length e =
    omega (arith, length-append (e.question ++ e.answer) (route_bytes e.route), length-append e.question e.answer, route_length_lem e.route)
