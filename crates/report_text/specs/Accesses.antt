-- Accesses of a core to a word of memory: what each kind does to the word, and what it gives the core.
-- A new kind of access has a line in each of `reads`, `writes` and `word_after`, and one in `access_kind_word`.
use Rattle.std.specs.Prelude.{ℕ, Bool, true, false, ◌&&◌, if◌then◌else◌}
use Rattle.core_isa.specs.Core.{wrapped_sum}
use Rattle.report_text.specs.declared.access.Access.{Access}
use Rattle.report_text.specs.declared.access.AccessKind.{AccessKind}
use Rattle.report_text.specs.declared.access.AccessKind.TheVariants.{Load, Store, Swap, Add}

-- the core receives the word as it was before
abbrev pub reads : AccessKind → Bool
reads Load = true
reads Store = false
reads Swap = true
reads Add = true

-- the word changes
abbrev pub writes : AccessKind → Bool
writes Load = false
writes Store = true
writes Swap = true
writes Add = true

-- it does both at one time
abbrev pub is_read_modify_write : AccessKind → Bool
is_read_modify_write kind = reads kind && writes kind

-- the word that an access leaves, by the value of its core's register and the word before
abbrev pub word_after : AccessKind → ℕ → ℕ → ℕ
word_after Load value word = word
word_after Store value word = value
word_after Swap value word = value
word_after Add value word = wrapped_sum word value

-- the word that an access which reads gave its core: the old one where it writes too, and else its value
abbrev pub read_by : Access → ℕ
read_by a = if writes a.kind then a.old else a.value
