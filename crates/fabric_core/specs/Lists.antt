-- What a fabric hands out at the end of a run.
use Rattle.std.specs.Prelude.{length}
use Rattle.report_text.specs.Journals.{events_of}
use Rattle.net_iface.specs.OrderedNet.{delivered_counts}
use Rattle.fabric_core.specs.declared.lists.FabricLists.{FabricLists}
use Rattle.fabric_core.specs.Fabric.{FabricState}

-- the order with the delivered counts, the accesses, the journal, and how many windows closed and requests hopped
abbrev pub lists_of : FabricState → FabricLists
lists_of f = record {
  requests = f.network.ordered;
  seen = delivered_counts f.network;
  accesses = f.accesses;
  journal = events_of f.entries;
  windows = length f.network.windows.closed;
  hops = f.hops;
}
