-- The parts of a fabric, what they stand for, and what is kept of them.
use Rattle.std.specs.Prelude.{◌≡◌, ℕ, ◌+◌, ◌^◌, ◌<◌, ◌≤◌, false, List, length}
use Rattle.std.specs.List.{sum_by}
use Rattle.mesh_gen.specs.Limits.{most_tiles}
use Rattle.report_text.specs.declared.access.Access.{Access}
use Rattle.report_text.specs.Journals.{AreEntryWords, events_of}
use Rattle.chip_model.specs.Chip.{tile_count}
use Rattle.chip_model.specs.OrderedNetwork.{OrderedNetwork, Interface}
use Rattle.chip_model.specs.NetworkShape.{HasChannels}
use Rattle.chip_model.specs.NetworkFits.{NetworkFits}
use Rattle.net_iface.specs.OrderedNet.{NetworkState}
use Rattle.reply_net.specs.ReplyNetwork.{ReplyNetwork}
use Rattle.fabric_core.specs.Fabric.{FabricState}

-- a journal that is written: its words, and how many events it has room for
pub record LogState : Type 0 where
  pub words : List ℕ
  pub room : ℕ

-- the words are those of entries, so many events are recorded, and there is room for them
pub record LogFits (log : LogState) (count : ℕ) : Type 0 where
  pub words : AreEntryWords log.words
  pub events : count ≡ length (events_of log.words)
  pub within : count ≤ log.room
  pub few : log.room < 2 ^ 30

-- both networks, the journal, the accesses and the hops
pub record FabricParts : Type 0 where
  pub network : NetworkState
  pub replies : ReplyNetwork
  pub log : LogState
  pub accesses : List Access
  pub hops : ℕ

-- the fabric that they are
abbrev pub fabric_of_parts : FabricParts → FabricState
fabric_of_parts p = record {
  chip = p.network.chip;
  network = p.network.network;
  replies = p.replies.messages;
  entries = p.log.words;
  accesses = p.accesses;
  hops = p.hops;
  room = p.log.room;
}

-- how many requests the tiles made
abbrev pub made_count : OrderedNetwork → ℕ
made_count net = sum_by (λ (interface : Interface). length interface.made) net.interfaces

-- The networks are of one chip. Each request was made by an event, and each hop is one, so the order has room for all that
-- may be made, and a window more.
pub record FabricKept (p : FabricParts) : Type 0 where
  pub grid : p.replies.grid ≡ p.network.chip.grid
  pub channels : HasChannels p.network.chip.grid p.network.chip.data_vcs false p.replies.messages
  pub data_vcs : p.network.chip.data_vcs ≤ 4
  pub network_room : p.network.room ≡ p.log.room + tile_count p.network.chip
  pub made : made_count p.network.network ≤ length (events_of p.log.words)
  pub hops : p.hops ≤ length (events_of p.log.words)
  pub accesses : length p.accesses ≤ p.log.room

-- what is true of a fabric's networks at any moment
pub record NetworksFit (f : FabricState) : Type 0 where
  pub some : 0 < tile_count f.chip
  pub few : tile_count f.chip ≤ most_tiles
  pub vcs : f.chip.vcs ≤ 8
  pub data_vcs : f.chip.data_vcs ≤ 4
  pub network : NetworkFits f.chip f.network
  pub replies : HasChannels f.chip.grid f.chip.data_vcs false f.replies
