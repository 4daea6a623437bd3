use Rattle.std.proofs.Common.{◌≡◌, take}
use Rattle.mesh_gen.specs.TileSet.{set_of}
use Rattle.mesh_gen.proofs.tile_set.set_of.Given as goal

-- the set of the tiles so far
abbrev pub invariant-loop-tile : goal.invariant-loop-tile
invariant-loop-tile l = l.set ≡ set_of (take l.tile-index l.tiles)
