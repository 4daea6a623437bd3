-- A text that is written one part after another.
use Rattle.std.proofs.Common.{◌≡◌, ℕ, ◌≤◌, List, [], ◌++◌, Option, Result, Ok, Err, refl, sym, ◌∙◌, ap, append_assoc, arith}
use Rattle.std.specs.Prelude.{IsErr}
use Rattle.std.proofs.lemmas.List.{append-nil}
use Rattle.outside_io.specs.Streams.{Stream, Rose, Appends, AppendsPart, Writes}
use Rattle.outside_io.proofs.Pieces.{Appends-nothing, Appends-then}

-- what was done to a sink, by its bytes and its count of faults
abbrev pub between : Option (List ℕ) → ℕ → Option (List ℕ) → ℕ → Stream
between held faults held' faults' = record { old = held; new = held'; before = faults; now = faults' }

-- a prefix of the whole was appended, and this is what is left of it
pub record WritesAllBut (sink : Stream) (whole left : List ℕ) : Type 0 where
  pub part : List ℕ
  pub split : whole ≡ part ++ left
  pub appended : Appends sink.old sink.new part
  pub count : sink.before ≤ sink.now

-- nothing yet
pub WritesAllBut-nothing : {h : Option (List ℕ)} {n : ℕ} (whole : List ℕ) → WritesAllBut (between h n h n) whole whole
WritesAllBut-nothing {h} {n} whole = record { part = []; split = refl; appended = Appends-nothing h; count = omega arith }

-- a part more, which is the front of what was left
pub WritesAllBut-more : {T E : Type 0} {h1 h2 h3 : Option (List ℕ)} {n1 n2 n3 : ℕ} {whole left piece rest : List ℕ} {x : T}
    → WritesAllBut (between h1 n1 h2 n2) whole left → left ≡ piece ++ rest → Writes {T = T} {E = E} (between h2 n2 h3 n3) piece (Ok x) → WritesAllBut (between h1 n1 h3 n3) whole rest
WritesAllBut-more {h1 = h1} {h2 = h2} {h3 = h3} {piece = piece} {rest = rest} written front next =
    record {
      part = written.part ++ piece;
      split = written.split ∙ ap (λ (l : List ℕ). written.part ++ l) front ∙ sym (append_assoc written.part piece rest);
      appended = Appends-then h1 h2 h3 written.part piece written.appended next.ok;
      count = omega (arith, written.count, next.count);
    }

-- all of it
pub Writes-all : {T E : Type 0} {h1 h2 : Option (List ℕ)} {n1 n2 : ℕ} {whole : List ℕ} (x : T) → WritesAllBut (between h1 n1 h2 n2) whole [] → Writes {T = T} {E = E} (between h1 n1 h2 n2) whole (Ok x)
Writes-all x written = record { ok = rw (written.split, append-nil written.part) written.appended; err = tt; fault = tt; count = written.count }

cut_short : {h1 h2 h3 : Option (List ℕ)} (whole piece rest part : List ℕ) → whole ≡ part ++ (piece ++ rest) → Appends h1 h2 part → AppendsPart h2 h3 piece → AppendsPart h1 h3 whole
cut_short {h1} {h2} {h3} whole piece rest part split appended cut =
    record {
      part = part ++ cut.part;
      rest = cut.rest ++ rest;
      split =
          split ∙ ap (λ (p : List ℕ). part ++ (p ++ rest)) cut.split ∙ ap (λ (p : List ℕ). part ++ p) (append_assoc cut.part cut.rest rest)
          ∙ sym (append_assoc part cut.part (cut.rest ++ rest));
      appended = Appends-then h1 h2 h3 part cut.part appended cut.appended;
    }

rose_since : (first second third : ℕ) → first ≤ second → Rose second third → Rose first third
rose_since first second third up rose = omega (arith, up, rose)

-- a part more failed, so the whole did
pub Writes-failed : {T T' E E' : Type 0} {h1 h2 h3 : Option (List ℕ)} {n1 n2 n3 : ℕ} {whole left piece : List ℕ} {e : E} (rest : List ℕ) (result : Result T' E') → IsErr result
    → WritesAllBut (between h1 n1 h2 n2) whole left → left ≡ piece ++ rest → Writes {T = T} {E = E} (between h2 n2 h3 n3) piece (Err e) → Writes (between h1 n1 h3 n3) whole result
Writes-failed rest (Ok x) failed written front next = cc
Writes-failed {n1 = n1} {n2 = n2} {n3 = n3} {whole = whole} {piece = piece} rest (Err f) failed written front next =
    record {
      ok = tt;
      err = cut_short whole piece rest written.part (written.split ∙ ap (λ (l : List ℕ). written.part ++ l) front) written.appended next.err;
      fault = rose_since n1 n2 n3 written.count next.fault;
      count = omega (arith, written.count, next.count);
    }

-- all that was left was written, or not
pub Writes-last : {T E : Type 0} {h1 h2 h3 : Option (List ℕ)} {n1 n2 n3 : ℕ} {whole left piece : List ℕ} (result : Result T E)
    → WritesAllBut (between h1 n1 h2 n2) whole left → left ≡ piece → Writes (between h2 n2 h3 n3) piece result → Writes (between h1 n1 h3 n3) whole result
Writes-last {piece = piece} (Ok x) written last next = Writes-all x (WritesAllBut-more {E = _} written (last ∙ sym (append-nil piece)) next)
Writes-last {piece = piece} (Err e) written last next = Writes-failed [] (Err e) refl written (last ∙ sym (append-nil piece)) next
