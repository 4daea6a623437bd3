use Rattle.load_gen.proofs.Limits.{drawn_program}
use Rattle.load_gen.proofs.program.draw_program.Goals as goal

pub new-requires : goal.new-requires
new-requires c =
    rw (c.in_ok-extend_from_slice.ensures.items, c.in_ok-push_accesses.ensures.drawn, c.in_ok-push.ensures.items, c.new-instrs.ensures.items) (drawn_program c.args.words.now)
