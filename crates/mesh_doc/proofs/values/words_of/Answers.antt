use Rattle.std.proofs.Common.{◌∙◌, sym, arith}
use Rattle.mesh_doc.specs.Values.{number_in}
use Rattle.mesh_doc.proofs.Items.{each_more, each_refused, each_end}
use Rattle.mesh_doc.proofs.values.words_of.Goals as goal

pub returns-in_default : goal.returns-in_default
returns-in_default c =
    sym (c.loop-item.invariant ∙ each_refused (number_in 0 4294967295) c.args.items.now c.loop-item.item-index c.item-item.result c.loop-item.words.items (omega arith) c.item-item.is (sym c.number_in.ensures.value ∙ c.in_default.is))

pub loop-item-preserved : goal.loop-item-preserved
loop-item-preserved c =
    rw c.in_ok-push.ensures.items (c.loop-item.invariant ∙ each_more (number_in 0 4294967295) c.args.items.now c.loop-item.item-index c.item-item.result c.loop-item.words.items c.in-Some.word (omega arith) c.item-item.is (sym c.number_in.ensures.value ∙ c.in-Some.is))

pub returns : goal.returns
returns c = sym (c.loop-item.invariant ∙ each_end (number_in 0 4294967295) c.args.items.now c.loop-item.item-index c.loop-item.words.items (omega arith))
