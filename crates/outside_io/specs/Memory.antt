-- A source and a sink in memory, as contracts see them.
use Rattle.std.specs.Prelude.{ℕ, ◌+◌, ◌-◌, ◌^◌, min, List}

-- the numbers of the calls that are to fail, the number of the next call, and how many calls failed
pub record CallCount : Type 0 where
  pub fails : List ℕ
  pub number : ℕ
  pub faults : ℕ

-- a count that stays at the last value of a u64
abbrev pub one_more : ℕ → ℕ
one_more n = min (n + 1) (2 ^ 64 - 1)

-- after a call that went well
abbrev pub passed : CallCount → CallCount
passed c = record c { number = one_more c.number }

-- after a call that failed
abbrev pub failed : CallCount → CallCount
failed c = record c { number = one_more c.number; faults = one_more c.faults }

-- the bytes that are left, how many a read gives at most, and the calls
pub record MemoryInput : Type 0 where
  pub left : List ℕ
  pub chunk : ℕ
  pub calls : CallCount

-- the bytes held, how many there is room for, and the calls
pub record MemoryOutput : Type 0 where
  pub held : List ℕ
  pub room : ℕ
  pub calls : CallCount
