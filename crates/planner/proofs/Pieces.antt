-- The pieces that were answered, one after the other, are answered as one; what has gone out of each is counted together.
use mathlib.Core.Path.{◌≡◌, refl, ◌∙◌, ap}
use mathlib.Core.List.{List, [], ◌++◌}
use Prim.Native.Nat.{ℕ, ◌+◌, ◌≤◌, ◌<◌}
use native.Mathlib.Omega.{arith}
use lib.ListN.{length, take, drop, length-take, length-drop, length-append}
use lib.Seq.{take-add}
use Rattle.std.specs.Prelude.{Option, Some, None, IfNone, IsSomeAnd, MatchOption}
use Rattle.floor.specs.declared.Floor.{Floor}
use Rattle.answering.specs.Rooms.{Rooms}
use Rattle.recordlayout.specs.Record.{record_size}
use Rattle.desk.specs.Turn.{ArrivedAnswered, IsKept}
use Rattle.desk.proofs.Pieces.{turn_made, kept_length, kept_broken, no_piece, turn_on}
use Rattle.planner.specs.declared.End.{End}
use Rattle.planner.specs.declared.Turn as declared
use Rattle.planner.specs.Gone.{greatest_count, counted, Gone}
use Rattle.planner.specs.SoFar.{TurnTaken, SomeTurn, AllSoFar}

-- nothing was to go, and nothing went
pub none_gone : {E : Type 0} (before : ℕ) → before ≤ greatest_count → (end : Option E) → Gone [] before before end
none_gone before fits None = record { gone = 0; within = omega arith; counts = omega arith; whole = refl }
none_gone before fits (Some e) = record { gone = 0; within = omega arith; counts = omega arith; whole = tt }

-- all of the first went, and then some of the second
pub gone_on : {E : Type 0} {first second : List ℕ} {before between count : ℕ} (end : Option E) → Gone {E = E} first before between None
    → Gone second between count end → Gone (first ++ second) before count end
gone_on {first = first} {second = second} None x y = record {
  gone = x.gone + y.gone;
  within = omega (arith, x.within, y.within, length-append first second);
  counts = omega (arith, x.counts, y.counts);
  whole = omega (arith, x.whole, y.whole, length-append first second);
}
gone_on {first = first} {second = second} (Some e) x y = record {
  gone = x.gone + y.gone;
  within = omega (arith, x.within, y.within, length-append first second);
  counts = omega (arith, x.counts, y.counts, x.whole);
  whole = tt;
}

-- a write took n bytes; what ends the turns is its failure, if there was one
pub some_gone : {E F : Type 0} (Q : E → F → Type 0) (answers : List ℕ) (before n : ℕ) {count : ℕ} (failure : Option E) (end : Option F)
    → n ≤ length answers → count ≡ counted before n → IfNone failure (n ≡ length answers)
    → MatchOption failure (end ≡ None) (λ f. IsSomeAnd end (Q f)) → Gone answers before count end
some_gone Q answers before n None end h e whole x = record { gone = n; within = h; counts = e; whole = rw x whole }
some_gone Q answers before n (Some f) None h e whole x = absurd x
some_gone Q answers before n (Some f) (Some y) h e whole x = record { gone = n; within = h; counts = e; whole = tt }

-- something is so unless the turns have ended, if it is so
unless_ended : {E : Type 0} {P : Type 0} (end : Option E) → P → IfNone end P
unless_ended None p = p
unless_ended (Some e) p = tt

module _ {f : Floor} {m : List ℕ} where
  pub piece_answered : {buffer : List ℕ} {end before : ℕ} {r : Rooms} {n : ℕ} {buffer' : List ℕ} {r' : Rooms} {t : declared.Turn} {buffer'' : List ℕ}
      → ArrivedAnswered f m buffer end r n buffer' r' → IsKept buffer' n end t.kept buffer'' → Gone (take n buffer') before t.gone t.end
      → TurnTaken f m [] (take end buffer) before r t buffer'' r'
  piece_answered {n = n} {buffer'} x y out =
      let turn = turn_made f m x y in
      record { written = take n buffer'; turn = turn; broken = omega (arith, kept_broken f m turn, kept_length y); out = out }

  -- the bytes kept were as they had been when the piece came after them
  pub some_piece : (buffer₀ buffer : List ℕ) (kept n : ℕ) {before : ℕ} {r : Rooms} {t : declared.Turn} {buffer' : List ℕ} {r' : Rooms}
      → take kept buffer ≡ take kept buffer₀ → 0 < n → kept + n ≤ length buffer → TurnTaken f m [] (take (kept + n) buffer) before r t buffer' r'
      → SomeTurn f m (take kept buffer₀) before r t buffer' r'
  some_piece buffer₀ buffer kept n {t = t} same some inside x =
      let piece = take n (drop kept buffer) in
      let both : take (kept + n) buffer ≡ take kept buffer₀ ++ piece = take-add kept n buffer ∙ ap (λ (b : List ℕ). b ++ piece) same in
      record {
        piece = piece;
        taken = record { written = x.written; turn = record { answered = rw both at x.turn.answered }; broken = x.broken; out = x.out };
        grows = unless_ended t.end (omega (arith, length-take n (drop kept buffer), length-drop kept buffer));
      }

  -- there was no piece, and there is no more
  pub no_bytes : (buffer₀ : List ℕ) (kept gone : ℕ) (end : End) {buffer : List ℕ} {r : Rooms} → take kept buffer ≡ take kept buffer₀ → kept < record_size
      → gone ≤ greatest_count → SomeTurn f m (take kept buffer₀) gone r (record { kept = kept; gone = gone; end = Some end }) buffer r
  no_bytes buffer₀ kept gone end {r = r} same short fits = record {
    piece = [];
    taken = record {
      written = [];
      turn = rw same (no_piece f m (take kept buffer₀) r (omega (arith, length-take kept buffer₀)));
      broken = short;
      out = none_gone gone fits (Some end);
    };
    grows = tt;
  }

  pub run_none : (buffer : List ℕ) (r : Rooms) → AllSoFar f m r (record { kept = 0; gone = 0; end = None }) buffer r
  run_none buffer r = record {
    arrived = [];
    taken = record { written = []; turn = no_piece f m [] r (omega arith); broken = omega arith; out = none_gone 0 (omega arith) None };
  }

  pub run_on : {r : Rooms} (t₀ : declared.Turn) {buffer : List ℕ} {left : Rooms} {t : declared.Turn} {buffer' : List ℕ} {r' : Rooms}
      → t₀.end ≡ None → AllSoFar f m r t₀ buffer left → SomeTurn f m (take t₀.kept buffer) t₀.gone left t buffer' r' → AllSoFar f m r t buffer' r'
  run_on t₀ {t = t} e x y = record {
    arrived = x.arrived ++ y.piece;
    taken = record {
      written = x.taken.written ++ y.taken.written;
      turn = turn_on f m x.taken.turn y.taken.turn;
      broken = y.taken.broken;
      out = gone_on t.end (rw e at x.taken.out) y.taken.out;
    };
  }
