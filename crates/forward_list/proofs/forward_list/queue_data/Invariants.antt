-- The words for the tiles so far are queued.
use Rattle.std.proofs.Common.{◌≡◌, ◌++◌, take}
use Rattle.chip_model.specs.Snoop.{data_to_all}
use Rattle.forward_list.proofs.forward_list.queue_data.Given as goal

abbrev pub invariant-loop-place : goal.invariant-loop-place
invariant-loop-place l = l.out ≡ l.initial.out ++ data_to_all l.line l.words (take l.place-index l.places)
