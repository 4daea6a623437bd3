-- What the steps of a fabric's networks keep.
use Rattle.std.proofs.Common.{◌≡◌, ℕ, zero, suc, replicate, ◌+◌, ◌≤◌, false, [], ◌∷◌, ◌++◌, length, refl, sym, ◌∙◌, ap, subst, arith, Some, length-append}
use Rattle.std.specs.List.{sum_by}
use Rattle.std.proofs.lemmas.List.Sums.{sum_by-cons}
use Rattle.mesh_gen.specs.declared.kind.Kind.{Kind}
use Rattle.mesh_gen.specs.declared.port.Port.{Port}
use Rattle.mesh_gen.specs.declared.request.Request.{Request}
use Rattle.report_text.specs.Journals.{events_of}
use Rattle.chip_model.specs.Chip.{Chip, tile_count}
use Rattle.chip_model.specs.OrderedNetwork.{OrderedNetwork, Interface, next_request, after_inject, after_request_post, after_network_tick, after_vector_take, after_copy_hop, after_delivery}
use Rattle.chip_model.specs.Replies.{no_replies}
use Rattle.chip_model.specs.NetworkShape.{HasChannels}
use Rattle.chip_model.proofs.ChannelPuts.{HasChannels-empty}
use Rattle.net_iface.specs.OrderedNet.{NetworkState, SameSizes, opening_state}
use Rattle.net_iface.proofs.StepParts.{request_made, request_posted, network_ticked, vector_taken, copy_moved, request_delivered}
use Rattle.reply_net.specs.ReplyNetwork.{ReplyNetwork}
use Rattle.fabric_core.specs.Parts.{FabricParts, LogState, FabricKept, made_count}
use Rattle.fabric_core.proofs.Orders.{made_by, made_count-set}

-- ---- how many requests the tiles made

pub made_count-inject : (chip : Chip) (old new : OrderedNetwork) (t : ℕ) (kind : Kind) (line : ℕ) → after_inject chip old t kind line ≡ Some new → made_count new ≡ made_count old + 1
made_count-inject chip old new t kind line is =
    let made = request_made chip old new t kind line is in
    let now : Interface = record made.was { made = made.was.made ++ next_request t made.was kind line ∷ [] } in
    omega (arith, ap (sum_by made_by) made.sets.interfaces, made_count-set old.interfaces t made.was now made.sets.there, length-append made.was.made (next_request t made.was kind line ∷ []))

pub made_count-post : (old new : OrderedNetwork) (t : ℕ) → after_request_post old t ≡ Some new → made_count new ≡ made_count old
made_count-post old new t is =
    let posted = request_posted old new t is in
    omega (arith, ap (sum_by made_by) posted.sets.interfaces, made_count-set old.interfaces t posted.was (record posted.was { posted = posted.was.posted + 1 }) posted.sets.there)

pub made_count-delivery : (chip : Chip) (old new : OrderedNetwork) (t : ℕ) (q : Request) → after_delivery chip old t ≡ Some (q, new) → made_count new ≡ made_count old
made_count-delivery chip old new t q is =
    let out = request_delivered chip old new t q is in
    omega (arith, ap (sum_by made_by) out.sets.interfaces, made_count-set old.interfaces t out.was (record out.was { delivered = out.was.delivered + 1 }) out.sets.there)

pub made_count-tick : (chip : Chip) (old new : OrderedNetwork) → after_network_tick chip old ≡ Some new → made_count new ≡ made_count old
made_count-tick chip old new is = ap (sum_by made_by) (network_ticked chip old new is).interfaces

pub made_count-take : (old new : OrderedNetwork) (t : ℕ) → after_vector_take old t ≡ Some new → made_count new ≡ made_count old
made_count-take old new t is = ap (sum_by made_by) (vector_taken old new t is).same.interfaces

pub made_count-hop : (chip : Chip) (old new : OrderedNetwork) (r : ℕ) (port : Port) (slot : ℕ) (out : Port) → after_copy_hop chip old r port slot out ≡ Some new → made_count new ≡ made_count old
made_count-hop chip old new r port slot out is = ap (sum_by made_by) (copy_moved chip old new r port slot out is).same.interfaces

-- ---- the parts

-- the ordered network takes a step that makes a request at most, or moves one, and an event more is noted
pub kept-network : (p : FabricParts) (net : NetworkState) (log : LogState) (hops : ℕ) → FabricKept p → SameSizes p.network net → log.room ≡ p.log.room → length (events_of p.log.words) + 1 ≤ length (events_of log.words)
    → made_count net.network ≤ made_count p.network.network + 1 → hops ≤ p.hops + 1 → FabricKept (record p { network = net; log = log; hops = hops })
kept-network p net log hops kept sizes room more made hopped = record {
  grid = kept.grid ∙ ap (λ (chip : Chip). chip.grid) (sym sizes.chip_is);
  channels = subst (λ (chip : Chip). HasChannels chip.grid chip.data_vcs false p.replies.messages) (sym sizes.chip_is) kept.channels;
  data_vcs = subst (λ (chip : Chip). chip.data_vcs ≤ 4) (sym sizes.chip_is) kept.data_vcs;
  network_room = rw (sizes.room_is, sizes.chip_is, room) kept.network_room;
  made = omega (arith, made, kept.made, more);
  hops = omega (arith, hopped, kept.hops, more);
  accesses = omega (arith, kept.accesses, room);
}

-- the replies take a step, and an event more is noted
pub kept-replies : (p : FabricParts) (replies : ReplyNetwork) (log : LogState) → FabricKept p → replies.grid ≡ p.replies.grid → log.room ≡ p.log.room → length (events_of p.log.words) ≤ length (events_of log.words)
    → HasChannels p.network.chip.grid p.network.chip.data_vcs false replies.messages → FabricKept (record p { replies = replies; log = log })
kept-replies p replies log kept grid room more channels = record {
  grid = grid ∙ kept.grid;
  channels = channels;
  data_vcs = kept.data_vcs;
  network_room = rw room kept.network_room;
  made = omega (arith, kept.made, more);
  hops = omega (arith, kept.hops, more);
  accesses = omega (arith, kept.accesses, room);
}

-- ---- before any event

pub kept-opening : (chip : Chip) (room : ℕ) → chip.data_vcs ≤ 4 → FabricKept (record {
  network = opening_state chip (room + tile_count chip);
  replies = record { grid = chip.grid; messages = no_replies chip.grid chip.data_vcs };
  log = record { words = []; room = room };
  accesses = [];
  hops = 0;
})
kept-opening chip room few = record {
  grid = refl;
  channels = HasChannels-empty chip.grid chip.data_vcs false;
  data_vcs = few;
  network_room = refl;
  made = none (tile_count chip);
  hops = omega arith;
  accesses = omega arith;
}
  where
    none : (n : ℕ) → sum_by made_by (replicate n (record { made = []; posted = 0; delivered = 0 })) ≤ 0
    none zero = omega arith
    none (suc n) = omega (arith, sum_by-cons made_by (record { made = []; posted = 0; delivered = 0 }) (replicate n (record { made = []; posted = 0; delivered = 0 })), none n)
