-- An entry of the route log, and its bytes: 02, R-1 and R-6.
use Rattle.std.specs.Prelude.{◌≡◌, Bool, false, cond, not, ◌&&◌, List, ◌++◌, ℕ, ◌+◌, ◌-◌, ◌*◌, ◌/◌, T, eqb, leb, ltb, length, take, drop, replicate}
use Rattle.std.specs.List.{list_all}
use Rattle.paths.specs.Graph.{MARK}
use Rattle.answering.specs.declared.AnswerNumbers.{AnswerNumbers}
use Rattle.recordlayout.specs.Record.{record_size, all_zero, ends_in_eight_zeros, answer_in}

-- the question record, the answer record, and the directions of the route
pub record Entry : Type 0 where
  pub question : List ℕ
  pub answer : List ℕ
  pub route : List ℕ

abbrev pub entry_of : List ℕ → List ℕ → List ℕ → Entry
entry_of q a ds = record { question = q; answer = a; route = ds }

-- n directions take as many records as hold them; this is how many bytes those have
unfoldable pub route_size : ℕ → ℕ
route_size n = (n + (record_size - 1)) / record_size * record_size

-- the last record of a route is filled up with 255
abbrev pub filler : ℕ
filler = 255

unfoldable pub route_bytes : List ℕ → List ℕ
route_bytes ds = ds ++ replicate (route_size (length ds) - length ds) filler

unfoldable pub entry_bytes : Entry → List ℕ
entry_bytes e = e.question ++ e.answer ++ route_bytes e.route

abbrev pub greatest_refusal : ℕ
greatest_refusal = 15

abbrev pub greatest_length : ℕ
greatest_length = 4095

-- a refusal number from 1 to 15
abbrev pub refusal_fits : ℕ → Bool
refusal_fits n = ltb 0 n && leb n greatest_refusal

-- an answer with no route: length, P and Q are 0
abbrev pub no_route : AnswerNumbers → Bool
no_route n = eqb n.length 0 && (eqb n.p 0 && eqb n.q 0)

-- kind 1 with a cost that isn't MARK and a length up to 4,095, kind 2 with MARK and no route, or kind 3 with a floor that isn't MARK and no route; P and Q of
-- kind 1 may be any
unfoldable pub kind_fits : AnswerNumbers → Bool
kind_fits n =
    cond (eqb n.kind 1) (not (eqb n.number MARK) && leb n.length greatest_length)
    (cond (eqb n.kind 2) (eqb n.number MARK && no_route n)
    (cond (eqb n.kind 3) (not (eqb n.number MARK) && no_route n) false))

-- Which answers can be logged: kind 0, such a refusal number, zeros after it; or refusal number 0, two zeros, eight zeros at the end, and such a kind
unfoldable pub can_be_logged : List ℕ → Bool
can_be_logged a =
    let n = answer_in a in
    cond (eqb n.kind 0) (refusal_fits n.refusal && all_zero (drop 2 a)) (all_zero (take 3 (drop 1 a)) && (ends_in_eight_zeros a && kind_fits n))

-- how many directions an answer has: as many as its length says, which is 0 for every answer but found
abbrev pub steps_in : List ℕ → ℕ
steps_in a = (answer_in a).length

-- every byte lies between two
abbrev pub all_within : ℕ → ℕ → List ℕ → Bool
all_within least greatest bytes = list_all (λ b. leb least b && leb b greatest) bytes

-- no direction is above 7
abbrev pub all_directions : List ℕ → Bool
all_directions ds = all_within 0 7 ds

abbrev pub all_filler : List ℕ → Bool
all_filler bs = all_within filler filler bs

-- the entries that can stand in a log
pub record IsEntry (e : Entry) : Type 0 where
  pub question_whole : length e.question ≡ record_size
  pub answer_whole : length e.answer ≡ record_size
  pub answer_fits : T (can_be_logged e.answer)
  pub count : length e.route ≡ steps_in e.answer
  pub directions : T (all_directions e.route)
