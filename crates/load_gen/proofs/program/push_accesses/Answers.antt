use Rattle.std.proofs.Common.{◌≡◌, suc, ◌+◌, ◌-◌, sym, ◌∙◌, arith}
use Rattle.load_gen.proofs.Draws.{one_more, all_drawn, one_step, no_step}
use Rattle.load_gen.proofs.program.push_accesses.Goals as goal

pub loop-word-preserved : goal.loop-word-preserved
loop-word-preserved c =
    let i = c.loop-word._word in
    let left : 8 - i ≡ suc (8 - (i + 1)) = omega arith in
    record {
      drawn = rw (c.in_ok-push.ensures.items, c.access.ensures) (one_more c.loop-word.instrs.items (8 - i) (8 - (i + 1)) c.next_word.result c.loop-word.words c.next_word.new.self left c.next_word.ensures) ∙ c.loop-word.invariant.drawn;
      after = one_step (8 - i) (8 - (i + 1)) c.next_word.result c.loop-word.words c.next_word.new.self left c.next_word.ensures ∙ c.loop-word.invariant.after;
    }

pub returns : goal.returns
returns c =
    let i = c.loop-word._word in
    let none : 8 - i ≡ 0 = omega arith in
    record {
      drawn = sym (all_drawn c.loop-word.instrs.items (8 - i) c.loop-word.words none) ∙ c.loop-word.invariant.drawn;
      after = sym (no_step (8 - i) c.loop-word.words none) ∙ c.loop-word.invariant.after;
    }
