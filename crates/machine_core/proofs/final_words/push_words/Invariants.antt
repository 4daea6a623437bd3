use Rattle.std.proofs.Common.{◌≡◌, ◌++◌}
use Rattle.std.specs.Prelude.{take, vec_capacity}
use Rattle.machine_core.proofs.final_words.push_words.Given as goal

abbrev pub invariant-loop-word : goal.invariant-loop-word
invariant-loop-word l = (l.memory.items ≡ l.fn.memory.items ++ take l.word-index l.word-items) × (vec_capacity l.memory ≡ vec_capacity l.fn.memory)
