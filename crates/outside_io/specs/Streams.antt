-- What calls of a source or a sink do to its bytes and to its count of faults.
use Rattle.std.specs.Prelude.{◌≡◌, ℕ, ◌+◌, ◌-◌, ◌^◌, ◌≤◌, min, List, ◌++◌, Option, option_map, Result, OnOk, OnErr}

-- a count of faults rose: it is greater than before, or stands at the last value of a u64
abbrev pub Rose : ℕ → ℕ → Type 0
Rose before now = min (before + 1) (2 ^ 64 - 1) ≤ now

-- the bytes held are those from before with these after them, where they are told
abbrev pub Appends : Option (List ℕ) → Option (List ℕ) → List ℕ → Type 0
Appends old new bytes = new ≡ option_map (λ held. held ++ bytes) old

-- the bytes held are those from before with a prefix of these after them
pub record AppendsPart (old new : Option (List ℕ)) (bytes : List ℕ) : Type 0 where
  pub part : List ℕ
  pub rest : List ℕ
  pub split : bytes ≡ part ++ rest
  pub appended : Appends old new part

-- some bytes were taken from the front of those left
pub record TakesPrefix (old new : Option (List ℕ)) : Type 0 where
  pub taken : List ℕ
  pub front : old ≡ option_map (λ rest. taken ++ rest) new

-- what a call did to a source or a sink: its bytes before and after, where it tells them, and its count of faults
pub record Stream : Type 0 where
  pub old : Option (List ℕ)
  pub new : Option (List ℕ)
  pub before : ℕ
  pub now : ℕ

-- what was done to a source or a sink that tells these bytes and counts these faults
abbrev pub stream : {S : Type 0} → (S → Option (List ℕ)) → (S → ℕ) → S → S → Stream
stream bytes faults old new = record { old = bytes old; new = bytes new; before = faults old; now = faults new }

-- of writing a text to a sink: the whole text was appended, or at an error a prefix of it, after a call of the sink failed.
-- The count of faults does not fall
pub record Writes {T E : Type 0} (sink : Stream) (text : List ℕ) (result : Result T E) : Type 0 where
  pub ok : OnOk result (Appends sink.old sink.new text)
  pub err : OnErr result (AppendsPart sink.old sink.new text)
  pub fault : OnErr result (Rose sink.before sink.now)
  pub count : sink.before ≤ sink.now
