-- Broadcasts over small meshes, and a message's way: theorems that compute.
use Rattle.std.specs.Prelude.{◌≡◌, ℕ, ◌+◌, Bool, true, List, [], ◌∷◌, replicate, Option, Some, None, option_map, option_and_then, refl}
use Rattle.std.specs.List.{fold}
use Rattle.mesh_gen.specs.Grid.{Grid, x_of, y_of}
use Rattle.mesh_gen.specs.Ports.{has, without_port, mask}
use Rattle.mesh_gen.specs.TileSet.{has_tile}
use Rattle.mesh_gen.specs.Tree.{tree_outs, tree_parent}
use Rattle.mesh_gen.specs.Routes.{rank}
use Rattle.mesh_gen.specs.declared.port.Port.TheVariants.{L, E, W, N, S}
use Rattle.mesh_gen.specs.declared.msg.Msg.{Msg}
use Rattle.mesh_gen.specs.declared.msg_kind.MsgKind.TheVariants.{Data}
use Rattle.vc_bank.specs.Places.{Network, slots, at, put}
use Rattle.chip_model.specs.Chip.{Chip}
use Rattle.chip_model.specs.Windows.{after_post, after_tick, after_take}
use Rattle.chip_model.specs.Copies.{after_entry, after_hop, local_place, after_serve}
use Rattle.chip_model.specs.Replies.{no_replies, after_send, after_data_hop, after_data_eject, next_channel, is_empty}
use Rattle.chip_model.specs.OrderedNetwork.{OrderedNetwork, opening_network, sources, after_inject, after_request_post, after_network_tick, after_vector_take, expected_at, after_copy_hop, after_delivery}
use Rattle.chip_model.specs.Schedules.{slots as chip_slots}
use Rattle.chip_model.specs.Delivery.{network_step, network_swept, window_events, passes, delivered_lists}

-- a chip of this size with one normal virtual channel at each port
abbrev pub small_chip : ℕ → ℕ → ℕ → Chip
small_chip cols rows window = record {
  grid = record { cols = cols; rows = rows };
  window = window;
  vcs = 1;
  data_vcs = 1;
  lines = 16;
  sets = 4;
  ways = 1;
  controllers = 0 ∷ [];
}

-- the network after these windows, with so many passes after each
abbrev pub after_windows : Chip → ℕ → List (List ℕ) → OrderedNetwork
after_windows chip count windows =
    fold (λ net tiles. passes chip count (network_swept chip net (window_events chip tiles))) (opening_network chip) windows

-- what every tile delivers of some windows is their order, by the rotating priority
pub every_tile_delivers_the_order :
    (delivered_lists (after_windows (small_chip 2 2 2) 8 ((0 ∷ 3 ∷ []) ∷ (1 ∷ 3 ∷ []) ∷ (2 ∷ []) ∷ [])) ≡ replicate 4 (0 ∷ 3 ∷ 1 ∷ 3 ∷ 2 ∷ []))
    × (sources (after_windows (small_chip 2 2 2) 8 ((3 ∷ []) ∷ (0 ∷ 1 ∷ 3 ∷ []) ∷ [])).ordered ≡ 3 ∷ 1 ∷ 3 ∷ 0 ∷ [])
    × (delivered_lists (after_windows (small_chip 3 1 2) 8 ((2 ∷ []) ∷ (0 ∷ 1 ∷ []) ∷ [])) ≡ replicate 3 (2 ∷ 1 ∷ 0 ∷ []))
unfolding x_of y_of has without_port has_tile tree_outs slots at put after_post after_tick after_take after_entry after_hop local_place after_serve after_inject after_request_post after_network_tick after_vector_take expected_at after_copy_hop after_delivery chip_slots network_step passes
every_tile_delivers_the_order = (refl, refl, refl)

-- a middle tile has neighbours by all four ports
abbrev pub three_by_three : Grid
three_by_three = record { cols = 3; rows = 3 }

-- a request of it leaves along its row, and from there up and down the columns
pub the_tree_of_the_middle_tile :
    (tree_outs three_by_three 4 4 ≡ mask L + mask E + mask W + mask N + mask S)
    × (tree_outs three_by_three 4 3 ≡ mask L + mask N + mask S)
    × (tree_outs three_by_three 4 1 ≡ mask L)
    × (tree_parent three_by_three 4 0 ≡ Some 3)
    × (tree_parent three_by_three 4 4 ≡ None)
unfolding x_of y_of tree_outs
the_tree_of_the_middle_tile = (refl, refl, refl, refl, refl)

-- the smallest grid in which a route turns
abbrev pub two_by_two : Grid
two_by_two = record { cols = 2; rows = 2 }

-- a message with a line's words, to the tile in the other corner
abbrev pub data_message : Msg
data_message = record { to = 3; kind = Data; line = 0; words = replicate 4 0 }

-- the reply network after it was sent
abbrev pub on_its_way : Option (Network Msg)
on_its_way = after_send (no_replies two_by_two 1) 0 data_message

-- after its hop along the row
abbrev pub one_hop_on : Option (Network Msg)
one_hop_on = option_and_then (λ net. after_data_hop two_by_two net 0 L 0) on_its_way

-- after its hop along the column
abbrev pub two_hops_on : Option (Network Msg)
two_hops_on = option_and_then (λ net. after_data_hop two_by_two net 1 W 0) one_hop_on

-- it moves, and is delivered, only where it has come to; each hop lowers its rank
pub a_message_goes_by_its_row_and_then_by_its_column :
    (option_and_then (λ net. after_send net 0 data_message) on_its_way ≡ None)
    × (option_and_then (λ net. after_data_eject net 0 L 0) on_its_way ≡ None)
    × (option_map (λ net. at net 1 2 0) one_hop_on ≡ Some (Some data_message))
    × (option_map (λ net. at net 3 3 0) two_hops_on ≡ Some (Some data_message))
    × (option_and_then (λ net. after_data_hop two_by_two net 3 N 0) two_hops_on ≡ None)
    × (option_map (λ net. option_map {U = Msg × Bool} (λ out. (out.0, is_empty out.1)) (after_data_eject net 3 N 0)) two_hops_on ≡ Some (Some (data_message, true)))
    × (rank two_by_two 0 L ≡ 4) × (rank two_by_two 1 W ≡ 2) × (rank two_by_two 3 N ≡ 0)
unfolding x_of y_of slots at put after_send next_channel after_data_hop after_data_eject
a_message_goes_by_its_row_and_then_by_its_column = (refl, refl, refl, refl, refl, refl, refl, refl, refl)
