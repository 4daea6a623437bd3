use Rattle.std.proofs.Common.{[], ◌∷◌, ◌++◌, List, sym, ◌∙◌, ap, arith}
use Rattle.std.proofs.lemmas.List.{append-nil}
use Rattle.mesh_gen.specs.declared.msg.Msg.{Msg}
use Rattle.chip_model.specs.declared.waiting.Waiting.{Waiting}
use Rattle.chip_model.specs.Snoop.{data_to}
use Rattle.forward_list.proofs.Lists.{data_to_all-more, data_to_all-whole, length-queued}
use Rattle.forward_list.proofs.forward_list.queue_data.Goals as goal

pub loop-place-init : goal.loop-place-init
loop-place-init c = sym (append-nil c.args.out.now)

pub push-requires : goal.push-requires
push-requires c = length-queued c.args.out.now c.loop-place.out c.args.line c.args.words c.args.places.now c.loop-place.place-index _ c.loop-place.invariant c.requires.room c.loop-place-test.true

pub loop-place-preserved : goal.loop-place-preserved
loop-place-preserved c =
    c.push.ensures
    ∙ ap (λ (queued : List Msg). queued ++ data_to c.waiting.result.tile c.args.line c.args.words ∷ []) c.loop-place.invariant
    ∙ data_to_all-more c.args.out.now c.args.line c.args.words c.args.places.now c.loop-place.place-index c.waiting.result c.loop-place-test.true
    (grind (arith, c.waiting.ensures, c.place-item.is))

pub returns : goal.returns
returns c = record {
  queued = data_to_all-whole c.args.out.now c.loop-place.out c.args.line c.args.words c.args.places.now c.loop-place.place-index c.loop-place.invariant (omega arith);
}
