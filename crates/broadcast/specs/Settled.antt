-- The network in which everything that a document posts has been broadcast, as a function of the document.
use Rattle.std.specs.Prelude.{List, ℕ, map}
use Rattle.std.specs.List.{fold}
use Rattle.doc_text.specs.Doc.{Doc}
use Rattle.chip_model.specs.Chip.{Chip, chip_of}
use Rattle.chip_model.specs.OrderedNetwork.{OrderedNetwork, opening_network}
use Rattle.chip_model.specs.Delivery.{network_swept, passes, window_events, rising}
use Rattle.net_iface.specs.Moves.{most_moves}

-- as many passes as there can be moves, after which nothing moves
unfoldable pub settled : Chip → OrderedNetwork → OrderedNetwork
settled chip net = passes chip (most_moves chip net) net

-- after a window in which these tiles make a request each and post it, once nothing moves
abbrev pub window_settled : Chip → OrderedNetwork → List ℕ → OrderedNetwork
window_settled chip net tiles = settled chip (network_swept chip net (window_events chip tiles))

-- window after window
abbrev pub windows_settled : Chip → List (List ℕ) → OrderedNetwork
windows_settled chip windows = fold (window_settled chip) (opening_network chip) windows

-- the network of a document's posts
abbrev pub broadcast_network : Doc → OrderedNetwork
broadcast_network d = windows_settled (chip_of d) (map (rising (chip_of d)) d.posts)
