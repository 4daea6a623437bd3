-- The access that waits at a node is the one that is performed.
use Rattle.std.proofs.Common.{◌≡◌, refl, sym, subst, Some}
use Rattle.mesh_gen.specs.declared.request.Request.{Request}
use Rattle.mesh_gen.specs.declared.msg.Msg.{Msg}
use Rattle.report_text.specs.declared.access.AccessKind.{AccessKind}
use Rattle.chip_model.specs.declared.pending.Pending.{Pending}
use Rattle.chip_model.specs.Misses.{Demand}
use Rattle.chip_model.specs.Node.{Node, Performed, node_after_request, node_after_message, node_after_access, after_request_sent}
use Rattle.chip_laws.specs.WaitingAccesses.{Awaits, KeepsAccess}
use Rattle.chip_laws.proofs.StepAccesses.{Waits, StepGoesOn, delivered_goes, arrived_goes, access_goes, request_waits}

keeps : (Is : AccessKind → Type 0) (node : Node) (step : Performed) → StepGoesOn (λ (access : Pending). Is access.kind) node step → KeepsAccess Is node step
keeps Is node step goes = record {
  chip = goes.chip;
  tile = goes.tile;
  waits = goes.goes.waits;
  performs = λ done is. let one = goes.goes.was done is in subst Is (sym one.kind) one.is;
  ends = goes.goes.alone;
}

awaits : (node : Node) → Waits (λ (access : Pending). Awaits node access.kind) node.side.misses.demand
awaits node demand stands = (demand, stands, refl)

pub request_keeps : (q : Request) (node : Node) → KeepsAccess (Awaits node) node (node_after_request q node)
request_keeps q node = keeps (Awaits node) node (node_after_request q node) (delivered_goes (λ (access : Pending). Awaits node access.kind) q node (awaits node))

pub message_keeps : (msg : Msg) (node : Node) → KeepsAccess (Awaits node) node (node_after_message msg node)
message_keeps msg node = keeps (Awaits node) node (node_after_message msg node) (arrived_goes (λ (access : Pending). Awaits node access.kind) msg node (awaits node))

pub access_keeps : (access : Pending) (node : Node) (step : Performed) → node_after_access access node ≡ Some step
    → KeepsAccess (λ kind. kind ≡ access.kind) node step
access_keeps access node step is =
    keeps (λ (kind : AccessKind). kind ≡ access.kind) node step (access_goes (λ (one : Pending). one.kind ≡ access.kind) access node step refl is)

pub asked_keeps : (node : Node) (demand : Demand) → (after_request_sent node).side.misses.demand ≡ Some demand → Awaits node demand.pending.kind
asked_keeps node = request_waits (λ (access : Pending). Awaits node access.kind) node (awaits node)
