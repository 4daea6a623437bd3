-- The text of `deliver`: of each tile, in rising order, a line of the sources that it has delivered.
use Rattle.std.specs.Prelude.{ℕ, ◌≡◌, ◌+◌, true, List, [], ◌∷◌, ◌++◌, codes, decimal}
use Rattle.doc_text.specs.Doc.{Doc}
use Rattle.chip_model.specs.Chip.{chip_of}
use Rattle.chip_model.specs.Delivery.{DeliversPosts, delivered_lists}
use Rattle.net_iface.specs.OneOrder.{IsOneOrder}
use Rattle.broadcast.specs.Settled.{broadcast_network}
use Rattle.broadcast.specs.Whole.{IsWhole}
use Rattle.commands.specs.Entries.{rest_text}

-- what stands before a tile's list
abbrev pub label_text : ℕ → List ℕ
label_text tile = codes "tile " ++ decimal tile ++ codes ":"

-- a tile's line: each source after a space
abbrev pub tile_line : ℕ → List ℕ → List ℕ
tile_line tile list = label_text tile ++ rest_text true list

-- the lines of the tiles from one on
abbrev pub lines_from : ℕ → List (List ℕ) → List ℕ
lines_from tile [] = []
lines_from tile (list ∷ lists) = tile_line tile list ++ lines_from (tile + 1) lists

-- the lines of all tiles
abbrev pub deliveries_text : List (List ℕ) → List ℕ
deliveries_text lists = lines_from 0 lists

-- the text of `deliver`: the lines of the network in which all that a document posts has been broadcast
abbrev pub deliver_text : Doc → List ℕ
deliver_text doc = deliveries_text (delivered_lists (broadcast_network doc))

-- it is the text of `deliver`; that network is one of the definition, its tiles deliver prefixes of one order, and each of
-- them all of it: the list of each tile is that of `order`
pub record IsDelivered (doc : Doc) (text : List ℕ) : Type 0 where
  pub text_is : text ≡ deliver_text doc
  pub delivers : DeliversPosts doc (broadcast_network doc)
  pub one_order : IsOneOrder (chip_of doc) (broadcast_network doc)
  pub whole : IsWhole doc (broadcast_network doc)
