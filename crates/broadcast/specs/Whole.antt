-- What a broadcast leaves: all that a document posts, in its order, and delivered by every tile.
use Rattle.std.specs.Prelude.{◌≡◌, ℕ, ◌<◌, List, length, map, Some, slice_get}
use Rattle.std.specs.List.{AllByRecursion}
use Rattle.mesh_gen.specs.Limits.{AreTiles}
use Rattle.mesh_gen.specs.Routes.{HasTiles}
use Rattle.mesh_gen.specs.TileSet.{set_of}
use Rattle.order_tracker.specs.Order.{order}
use Rattle.doc_text.specs.Doc.{Doc}
use Rattle.chip_model.specs.Chip.{chip_of, tile_count}
use Rattle.chip_model.specs.OrderedNetwork.{OrderedNetwork, Interface, sources}
use Rattle.chip_model.specs.Delivery.{delivered_lists}

-- a router has a channel, a window a tick, and in each window of the posts some tiles post, each once
pub record CanBroadcast (d : Doc) : Type 0 where
  pub tiles : HasTiles (chip_of d).grid
  pub channels : 0 < d.vcs
  pub ticks : 0 < d.window
  pub posts : AllByRecursion (AreTiles (tile_count (chip_of d))) d.posts

-- the sources of all that a document posts, in the order of its windows by the rotating priority
abbrev pub order_of_posts : Doc → List ℕ
order_of_posts d = order (tile_count (chip_of d)) (map set_of d.posts)

-- every post is ordered, every tile has delivered the whole order, and so the list of each tile is the order
pub record IsWhole (d : Doc) (net : OrderedNetwork) : Type 0 where
  pub ordered : sources net.ordered ≡ order_of_posts d
  pub delivered : (t : ℕ) (interface : Interface) → slice_get net.interfaces t ≡ Some interface → interface.delivered ≡ length net.ordered
  pub lists : AllByRecursion (λ list. list ≡ order_of_posts d) (delivered_lists net)
