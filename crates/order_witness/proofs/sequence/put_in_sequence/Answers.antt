use Rattle.std.proofs.Common.{rules}
use Rattle.std.proofs.lemmas.List.Sorted.{answers_always}
use Rattle.order_witness.specs.Keys.{key_of}
use Rattle.order_witness.proofs.Sequenced.{sorted_in_sequence}
use Rattle.order_witness.proofs.sequence.put_in_sequence.Goals as goal

pub returns : goal.returns
returns c =
    sorted_in_sequence c.args.accesses.now c.sort_unstable_by_key.new.self c.requires c.sort_unstable_by_key.ensures.permutation
    (c.sort_unstable_by_key.ensures.sorted key_of (answers_always _ _ _ (λ f a r g h. search rules)))
