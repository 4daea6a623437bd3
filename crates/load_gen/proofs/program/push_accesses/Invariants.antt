-- The accesses so far and those of the words that are left are all of them.
use Rattle.std.proofs.Common.{◌≡◌, ◌-◌, ◌++◌}
use Rattle.rand_pcg.specs.Lcg.{advance}
use Rattle.rand_pcg.specs.Pcg.{multiplier_64}
use Rattle.load_gen.proofs.Draws.{accesses}
use Rattle.load_gen.proofs.program.push_accesses.Given as goal

abbrev pub invariant-loop-word : goal.invariant-loop-word
invariant-loop-word l = record {
  drawn : l.instrs.items ++ accesses (8 - l._word) l.words ≡ l.initial.instrs.items ++ accesses 8 l.initial.words;
  after : advance 64 multiplier_64 (8 - l._word) l.words ≡ advance 64 multiplier_64 8 l.initial.words;
}
