use Rattle.std.specs.Prelude.{◌*◌, length}
use Rattle.chip_model.specs.Chip.{chip_of_mesh, tile_count}
use Rattle.broadcast.specs.Delivered.{HasBroadcast}
use Rattle.broadcast.proofs.delivery.broadcast_posts.Given as goal

-- the windows so far have been broadcast
abbrev pub invariant-loop-window : goal.invariant-loop-window
invariant-loop-window l =
    HasBroadcast (chip_of_mesh l.document.mesh) l.document.posts (length l.document.posts * tile_count (chip_of_mesh l.document.mesh)) l.window-index l.net
