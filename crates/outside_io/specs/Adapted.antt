-- A reader or a writer of std after a source or a sink, as contracts see it.
use Rattle.std.specs.Prelude.{ℕ}

-- the reader or writer, and how many of its calls failed
pub record Adapted (X : Type 0) : Type 0 where
  pub inner : X
  pub faults : ℕ
