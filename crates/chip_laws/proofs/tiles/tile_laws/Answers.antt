use Rattle.chip_laws.proofs.NodeMessages.{home_inside}
use Rattle.chip_laws.proofs.OrderedTiles.{source_inside}
use Rattle.chip_laws.proofs.RequestsInside.{tile_of, tile_of_unit}
use Rattle.chip_laws.proofs.tiles.tile_laws.Goals as goal

pub returns : goal.returns
returns c = record {
  has = tile_of;
  units = tile_of_unit;
  sources = source_inside;
  homes = λ chip line fits. home_inside chip line fits.controllers;
}
