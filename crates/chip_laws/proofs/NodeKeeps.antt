-- What holds of a node by itself and with its interface, through each step of the node.
use Rattle.std.proofs.Common.{◌≡◌, ℕ, ◌+◌, ◌*◌, ◌<◌, ◌≤◌, refl, sym, ◌∙◌, ap, subst, arith, Some, None, List, [], ◌∷◌, ◌++◌, take, drop, length, slice_get}
use Rattle.std.specs.Prelude.{slice_index_or}
use Rattle.std.proofs.lemmas.List.{length-take}
use Rattle.mesh_gen.specs.declared.kind.Kind.{Kind}
use Rattle.mesh_gen.specs.declared.request.Request.{Request}
use Rattle.mesh_gen.specs.declared.msg.Msg.{Msg}
use Rattle.mesh_gen.specs.declared.msg_kind.MsgKind.{MsgKind}
use Rattle.mesh_gen.specs.declared.msg_kind.MsgKind.TheVariants.{Data, Back}
use Rattle.doc_text.specs.Doc.{Doc}
use Rattle.chip_model.specs.declared.pending.Pending.{Pending}
use Rattle.chip_model.specs.Chip.{Chip, chip_of}
use Rattle.chip_model.specs.Misses.{wanted}
use Rattle.chip_model.specs.Records.{LineRecord}
use Rattle.chip_model.specs.OrderedNetwork.{OrderedNetwork, Interface, next_request}
use Rattle.chip_model.specs.Node.{Node, Performed, node_after_access, node_after_request, arrived_as, node_after_message, after_request_sent, after_message_sent}
use Rattle.chip_model.specs.ChipState.{ChipState}
use Rattle.chip_model.specs.NetworkShape.{MessageFits}
use Rattle.chip_model.specs.NodeShape.{NodeFits}
use Rattle.chip_model.specs.Ownership.{delivered_to, OwnsByOrder}
use Rattle.chip_model.specs.Bookkeeping.{count_by_tile}
use Rattle.chip_model.specs.NetworkFits.{InterfaceAgrees}
use Rattle.chip_model.specs.ChipInvariant.{NodeHolds}
use Rattle.snoop_core.specs.Requests.{DataFits}
use Rattle.snoop_core.proofs.ShapeSteps.{NodeFits-node_after_request, NodeFits-node_after_message, NodeFits-node_after_access, NodeFits-after_request_sent, NodeFits-after_message_sent}
use Rattle.snoop_core.proofs.Accesses.{accessed_frame}
use Rattle.chip_laws.proofs.OrderLists.{count_take_le, length-requests_of}
use Rattle.chip_laws.proofs.Each.{each_at, each_from}
use Rattle.chip_laws.proofs.NodeMessages.{AllFit, AreInside, RequestInside, SendsFit, delivered_messages, arrived_messages, sent_messages}
use Rattle.chip_laws.proofs.SameAsked.{SameAsked, arrived_asked, accessed_asked}
use Rattle.chip_laws.proofs.UnderWay.{request_made}
use Rattle.chip_laws.proofs.OrderedDemands.{stays_same, request_sent_stays, arrived_stays, accessed_stays}
use Rattle.chip_laws.proofs.TileAgreements.{TileKeeps, SameCounts, Delivery, keeps_of, agrees_by, followed_by, keeps_grown, keeps_quiet, keeps_made, keeps_delivered, own_request_fits}

pub record NodeKeeps (chip : Chip) (ordered : List Request) (t : ℕ) (interface : Interface) (node : Node) : Type 0 where
  pub of_chip : node.chip ≡ chip
  pub fits : NodeFits node
  pub keeps : TileKeeps ordered t interface node
  pub messages : AllFit chip node.out

pub node_keeps : (d : Doc) (s : ChipState) (t : ℕ) (interface : Interface) (node : Node) → NodeHolds d s t interface node → NodeKeeps (chip_of d) s.network.ordered t interface node
node_keeps d s t interface node holds = record {
  of_chip = holds.chip;
  fits = holds.fits;
  keeps = keeps_of s.network t interface node holds.agrees holds.followed;
  messages = each_from (MessageFits (chip_of d)) node.out holds.messages;
}

pub node_holds : (d : Doc) (s : ChipState) (ordered : List Request) (t : ℕ) (interface : Interface) (node : Node) → s.network.ordered ≡ ordered → NodeKeeps (chip_of d) ordered t interface node → NodeHolds d s t interface node
node_holds d s ordered t interface node same is = record {
  chip = is.of_chip;
  fits = is.fits;
  agrees = agrees_by s.network ordered t interface node same is.keeps;
  followed = followed_by s.network ordered t interface node same is.keeps;
  messages = λ place msg at. each_at (MessageFits (chip_of d)) node.out place msg is.messages at;
}

-- the node stays, and the order may grow
pub node_stays_keeps : (chip : Chip) (ordered more : List Request) (t : ℕ) (old new : Interface) (node : Node) → new.made ≡ old.made → new.delivered ≡ old.delivered → old.delivered ≤ length ordered
    → NodeKeeps chip ordered t old node → NodeKeeps chip (ordered ++ more) t new node
node_stays_keeps chip ordered more t old new node made delivered within is = record {
  of_chip = is.of_chip;
  fits = is.fits;
  keeps = keeps_grown ordered more t old new node made delivered within is.keeps;
  messages = is.messages;
}

-- ---- a message of its queue is sent
same_asked : (node : Node) → SameAsked node.side.misses node.side.misses
same_asked node = record { gets = refl; puts = refl }

pub message_sent_keeps : (chip : Chip) (ordered : List Request) (t : ℕ) (interface : Interface) (node : Node) → NodeKeeps chip ordered t interface node → NodeKeeps chip ordered t interface (after_message_sent node)
unfolding after_message_sent
message_sent_keeps chip ordered t interface node is = record {
  of_chip = is.of_chip;
  fits = NodeFits-after_message_sent node is.fits;
  keeps = keeps_quiet ordered t interface node (record node { out = drop 1 node.out }) (record { chip = refl; tile = refl; delivered = refl }) (same_asked node) (stays_same node.side.misses.demand) is.keeps;
  messages = subst (λ (c : Chip). AllFit c (drop 1 node.out)) is.of_chip (sent_messages node (subst (λ (c : Chip). AllFit c node.out) (sym is.of_chip) is.messages));
}

-- ---- an access
-- an access changes the cache side alone
pub record SideAlone (old new : Node) : Type 0 where
  pub counts : SameCounts old new
  pub out : new.out ≡ old.out

access_alone : (access : Pending) (node : Node) (step : Performed) → node_after_access access node ≡ Some step → NodeFits node → SideAlone node step.0
access_alone access node step done fits =
    let frame = accessed_frame access node step done fits.side.cache in
    record {
      counts = record { chip = ap (λ (n : Node). n.chip) frame; tile = ap (λ (n : Node). n.tile) frame; delivered = ap (λ (n : Node). n.delivered) frame };
      out = ap (λ (n : Node). n.out) frame;
    }

pub accessed_keeps : (chip : Chip) (ordered : List Request) (t : ℕ) (interface : Interface) (access : Pending) (node : Node) (step : Performed) → node_after_access access node ≡ Some step
    → access.address < 4 * node.chip.lines → NodeKeeps chip ordered t interface node → NodeKeeps chip ordered t interface step.0
accessed_keeps chip ordered t interface access node step done below is =
    let alone = access_alone access node step done is.fits in
    record {
      of_chip = alone.counts.chip ∙ is.of_chip;
      fits = NodeFits-node_after_access access node step done below is.fits;
      keeps = keeps_quiet ordered t interface node step.0 alone.counts (accessed_asked access node step done is.fits.side.cache) (accessed_stays access node step done is.fits.side.cache) is.keeps;
      messages = subst (AllFit chip) (sym alone.out) is.messages;
    }

-- ---- a message comes
kind_counts : (msg : Msg) (node : Node) (kind : MsgKind) → SameCounts node (arrived_as msg node kind).0
kind_counts msg node Data = record { chip = refl; tile = refl; delivered = refl }
kind_counts msg node Back = record { chip = refl; tile = refl; delivered = refl }

arrived_counts : (msg : Msg) (node : Node) → SameCounts node (node_after_message msg node).0
unfolding node_after_message
arrived_counts msg node = kind_counts msg node msg.kind

pub arrived_keeps : (chip : Chip) (ordered : List Request) (t : ℕ) (interface : Interface) (msg : Msg) (node : Node) → DataFits node.side msg → msg.line < chip.lines → SendsFit chip node.side
    → ((r : LineRecord) → slice_index_or node.records msg.line None ≡ Some r → AreInside chip r.waiters) → NodeKeeps chip ordered t interface node → NodeKeeps chip ordered t interface (node_after_message msg node).0
arrived_keeps chip ordered t interface msg node answers below sends waiters is =
    let counts = arrived_counts msg node in
    record {
      of_chip = counts.chip ∙ is.of_chip;
      fits = NodeFits-node_after_message msg node answers is.fits;
      keeps = keeps_quiet ordered t interface node (node_after_message msg node).0 counts (arrived_asked msg node) (arrived_stays msg node) is.keeps;
      messages = messages is.of_chip below sends waiters is.messages;
    }
  where
    messages : node.chip ≡ chip → msg.line < chip.lines → SendsFit chip node.side → ((r : LineRecord) → slice_index_or node.records msg.line None ≡ Some r → AreInside chip r.waiters) → AllFit chip node.out
        → AllFit chip (node_after_message msg node).0.out
    messages same = subst (λ (c : Chip). msg.line < c.lines → SendsFit c node.side → ((r : LineRecord) → slice_index_or node.records msg.line None ≡ Some r → AreInside c r.waiters) → AllFit c node.out
        → AllFit c (node_after_message msg node).0.out) same (arrived_messages msg node)

-- ---- its request enters the network
sent_counts : (node : Node) → SameCounts node (after_request_sent node)
unfolding after_request_sent
sent_counts node = record { chip = refl; tile = refl; delivered = refl }

sent_out : (node : Node) → (after_request_sent node).out ≡ node.out
unfolding after_request_sent
sent_out node = refl

-- a tile has delivered no more of its own requests than it made
made_within : (net : OrderedNetwork) (t n : ℕ) (interface : Interface) → InterfaceAgrees net t interface → count_by_tile t (take n net.ordered) ≤ length interface.made
made_within net t n interface agrees =
    omega (arith, count_take_le t net.ordered n, length-requests_of t net.ordered, ap length agrees.ordered, length-take (count_by_tile t net.ordered) interface.made)

pub request_sent_keeps : (chip : Chip) (net : OrderedNetwork) (t : ℕ) (interface new : Interface) (node : Node) (kind : Kind) (line : ℕ) → InterfaceAgrees net t interface
    → wanted node.side.misses ≡ Some (kind, line) → line < chip.lines → new.made ≡ interface.made ++ next_request t interface kind line ∷ [] → new.delivered ≡ interface.delivered
    → NodeKeeps chip net.ordered t interface node → NodeKeeps chip net.ordered t new (after_request_sent node)
unfolding after_request_sent
request_sent_keeps chip net t interface new node kind line agrees wants below made delivered is =
    record {
      of_chip = is.of_chip;
      fits = NodeFits-after_request_sent node is.fits;
      keeps = keeps_made net.ordered t interface new node (after_request_sent node) (next_request t interface kind line) made delivered within
          (subst (λ (c : Chip). line < c.lines) (sym is.of_chip) below) (sent_counts node)
          (λ rest under. request_made node.chip node.side rest (next_request t interface kind line) (kind, line) is.fits.side wants (refl, refl) under) (request_sent_stays node) is.keeps;
      messages = is.messages;
    }
  where
    within : count_by_tile t (delivered_to net.ordered node) ≤ length interface.made
    within = made_within net t node.delivered interface agrees

-- ---- a request is delivered
chip_delivered : (q : Request) (node : Node) → (node_after_request q node).0.chip ≡ node.chip
unfolding node_after_request
chip_delivered q node = refl

pub delivered_keeps : (chip : Chip) (net : OrderedNetwork) (t : ℕ) (interface new : Interface) (node : Node) (q : Request) → InterfaceAgrees net t interface → slice_get net.ordered node.delivered ≡ Some q
    → RequestInside chip q → SendsFit chip node.side → OwnsByOrder net.ordered node → new.made ≡ interface.made → new.delivered ≡ interface.delivered + 1
    → NodeKeeps chip net.ordered t interface node → NodeKeeps chip net.ordered t new (node_after_request q node).0
delivered_keeps chip net t interface new node q agrees at inside sends owns_is made delivered is =
    let delivery : Delivery net t interface node q = record { agrees = agrees; at = at; keeps = is.keeps } in
    record {
      of_chip = delivered_chip ∙ is.of_chip;
      fits = NodeFits-node_after_request q node (own_request_fits net t interface node q delivery) is.fits;
      keeps = keeps_delivered net t interface new node q delivery made delivered is.fits.side owns_is;
      messages = messages is.of_chip inside sends is.messages;
    }
  where
    delivered_chip : (node_after_request q node).0.chip ≡ node.chip
    delivered_chip = chip_delivered q node

    messages : node.chip ≡ chip → RequestInside chip q → SendsFit chip node.side → AllFit chip node.out → AllFit chip (node_after_request q node).0.out
    messages same = subst (λ (c : Chip). RequestInside c q → SendsFit c node.side → AllFit c node.out → AllFit c (node_after_request q node).0.out) same (delivered_messages q node)
