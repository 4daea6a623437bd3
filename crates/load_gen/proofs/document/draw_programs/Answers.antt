use Rattle.std.proofs.Common.{◌*◌, ◌∙◌, sym, refl, ap, arith}
use Rattle.std.proofs.lemmas.List.FromFn.{map-range_with_len_more}
use Rattle.rand_pcg.specs.Lcg.{Lcg, advance}
use Rattle.rand_pcg.specs.Pcg.{multiplier_64}
use Rattle.load_gen.specs.Load.{generator, program_at}
use Rattle.load_gen.proofs.Draws.{no_step, next_tile}
use Rattle.load_gen.proofs.document.draw_programs.Goals as goal

pub loop-tile-init : goal.loop-tile-init
loop-tile-init c = record {
  drawn = c.new-programs.ensures.items;
  words = rw (c.new-words.ensures, c.from.ensures) (sym (no_step (8 * 0) (generator c.args.n) refl));
}

pub loop-tile-preserved : goal.loop-tile-preserved
loop-tile-preserved c =
    let tile = c.loop-tile._tile in
    record {
      drawn =
          rw (map-range_with_len_more (program_at c.args.n) 0 tile tile (omega arith), c.in_ok-push.ensures.items, c.loop-tile.invariant.drawn, c.in_ok-draw_program.ensures.program, c.loop-tile.invariant.words) refl;
      words = c.in_ok-draw_program.ensures.after ∙ ap (λ (words : Lcg). advance 64 multiplier_64 8 words) c.loop-tile.invariant.words ∙ next_tile tile (generator c.args.n);
    }
