-- The tiles so far have their programs, and the generator stands at the words of the next one.
use Rattle.std.specs.List.{range_with_len}
use Rattle.std.proofs.Common.{◌≡◌, ◌*◌, map}
use Rattle.rand_pcg.specs.Lcg.{advance}
use Rattle.rand_pcg.specs.Pcg.{multiplier_64}
use Rattle.load_gen.specs.Load.{generator, program_at}
use Rattle.load_gen.proofs.document.draw_programs.Given as goal

abbrev pub invariant-loop-tile : goal.invariant-loop-tile
invariant-loop-tile l = record {
  drawn : l.programs.items ≡ map (program_at l.n) (range_with_len 0 l._tile);
  words : l.words ≡ advance 64 multiplier_64 (8 * l._tile) (generator l.n);
}
