-- The keys by which accesses are put in sequence.
use Rattle.std.specs.Prelude.{ℕ}
use Rattle.std.specs.declared.cmp.Ordering.{Ordering}
use Rattle.std.specs.Ordering.{nat_cmp, then_cmp, on}
use Rattle.report_text.specs.declared.access.Access.{Access}

-- the key of an access
abbrev pub key_of : Access → ℕ × ℕ × ℕ
key_of a = (a.time, a.tile, a.number)

-- keys in their order
abbrev pub key_cmp : ℕ × ℕ × ℕ → ℕ × ℕ × ℕ → Ordering
key_cmp = then_cmp (then_cmp (on (λ (key : ℕ × ℕ × ℕ). key.0) nat_cmp) (on (λ (key : ℕ × ℕ × ℕ). key.1) nat_cmp)) (on (λ (key : ℕ × ℕ × ℕ). key.2) nat_cmp)
