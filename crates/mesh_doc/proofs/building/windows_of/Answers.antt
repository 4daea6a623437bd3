use Rattle.std.proofs.Common.{◌∙◌, sym, arith}
use Rattle.mesh_doc.specs.Values.{window}
use Rattle.mesh_doc.proofs.Items.{each_more, each_refused, each_end}
use Rattle.mesh_doc.proofs.building.windows_of.Goals as goal

pub returns-in_default : goal.returns-in_default
returns-in_default c =
    sym (c.loop-item.invariant ∙ each_refused (window c.args.count) c.args.items.now c.loop-item.item-index c.item-item.result c.loop-item.windows.items (omega arith) c.item-item.is (sym c.in_ok-window.ensures ∙ c.in_default.is))

pub loop-item-preserved : goal.loop-item-preserved
loop-item-preserved c =
    rw c.in_ok-push.ensures.items (c.loop-item.invariant ∙ each_more (window c.args.count) c.args.items.now c.loop-item.item-index c.item-item.result c.loop-item.windows.items c.in-Some.window (omega arith) c.item-item.is (sym c.in_ok-window.ensures ∙ c.in-Some.is))

pub returns : goal.returns
returns c = rw c.new.ensures (sym (c.loop-item.invariant ∙ each_end (window c.args.count) c.args.items.now c.loop-item.item-index c.loop-item.windows.items (omega arith)))
