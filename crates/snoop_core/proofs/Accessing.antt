-- What the calls do for an access is what its plan says.
use Rattle.std.proofs.Common.{◌≡◌, ℕ, sym, ◌∙◌, ap, Option, Some, None, List}
use Rattle.mesh_gen.specs.declared.msg.Msg.{Msg}
use Rattle.chip_model.specs.declared.pending.Pending.{Pending}
use Rattle.chip_model.specs.declared.done.Done.{Done}
use Rattle.chip_model.specs.declared.line_state.State.TheVariants.{M}
use Rattle.chip_model.specs.Chip.{line_of}
use Rattle.chip_model.specs.Cache.{installed}
use Rattle.chip_model.specs.Misses.{new_demand, new_back, request_for}
use Rattle.chip_model.specs.Snoop.{written_by, done_by, with_cache, with_demand, with_back, line_gone}
use Rattle.chip_model.specs.Records.{Records}
use Rattle.chip_model.specs.Node.{Node, Performed, node_after_access}
use Rattle.line_cache.specs.Sets.{copy_of}
use Rattle.snoop_core.specs.declared.access.Plan.{Plan}
use Rattle.snoop_core.specs.declared.access.Plan.TheVariants.{HitLoad, HitStore, Miss, MissWithout, PutBack}
use Rattle.snoop_core.specs.declared.outcome.Outcome.{Outcome}
use Rattle.snoop_core.specs.declared.outcome.Outcome.TheVariants.{Hit}
use Rattle.snoop_core.specs.Outcomes.{access_performed}
use Rattle.snoop_core.specs.Plans.{planned}
use Rattle.snoop_core.specs.ChipSides.{ChipSide}
use Rattle.snoop_core.proofs.NodeSteps.{node_of}

pub writes : (access : Pending) (line : ℕ) (site new : ChipSide) (tile : ℕ) (records : Records) (out : List Msg) (delivered : ℕ) (plan : Plan) (words after : List ℕ)
    → node_after_access access (node_of site tile records out delivered) ≡ planned plan access (node_of site tile records out delivered) → plan ≡ HitStore words → line ≡ line_of access.address
    → after ≡ written_by access words → new ≡ record site { side = with_cache (installed site.chip (copy_of line (M, after)) site.side.cache) site.side }
    → node_after_access access (node_of site tile records out delivered)
    ≡ Some (node_of new tile records out delivered, Some (done_by access delivered words))
writes access line site new tile records out delivered plan words after is comes at stored changed =
    let done : Option Done = Some (done_by access delivered words) in
    let after_of : ℕ → List ℕ → Option Performed = λ l ws.
    Some (node_of (record site { side = with_cache (installed site.chip (copy_of l (M, ws)) site.side.cache) site.side }) tile records out delivered, done)
    in
    is
    ∙ ap (λ (p : Plan). planned p access (node_of site tile records out delivered)) comes
    ∙ ap (λ (ws : List ℕ). after_of (line_of access.address) ws) (sym stored)
    ∙ ap (λ (l : ℕ). after_of l after) (sym at)
    ∙ ap (λ (s : ChipSide). Some (node_of s tile records out delivered, done)) (sym changed)

pub starts : (access : Pending) (line : ℕ) (site new : ChipSide) (tile : ℕ) (records : Records) (out : List Msg) (delivered : ℕ) (plan : Plan)
    → node_after_access access (node_of site tile records out delivered) ≡ planned plan access (node_of site tile records out delivered) → plan ≡ Miss → line ≡ line_of access.address
    → new ≡ record site { side = with_demand (Some (new_demand (request_for access.kind) line access)) site.side }
    → node_after_access access (node_of site tile records out delivered) ≡ Some (node_of new tile records out delivered, None)
starts access line site new tile records out delivered plan is comes at changed =
    is
    ∙ ap (λ (p : Plan). planned p access (node_of site tile records out delivered)) comes
    ∙ ap (λ (l : ℕ). Some (node_of (record site { side = with_demand (Some (new_demand (request_for access.kind) l access)) site.side }) tile records out delivered, None)) (sym at)
    ∙ ap (λ (s : ChipSide). Some (node_of s tile records out delivered, None)) (sym changed)

pub starts_without : (access : Pending) (line leaving : ℕ) (site between new : ChipSide) (tile : ℕ) (records : Records) (out : List Msg) (delivered : ℕ) (plan : Plan)
    → node_after_access access (node_of site tile records out delivered) ≡ planned plan access (node_of site tile records out delivered) → plan ≡ MissWithout leaving → line ≡ line_of access.address
    → between ≡ record site { side = line_gone site.chip leaving site.side }
    → new ≡ record between { side = with_demand (Some (new_demand (request_for access.kind) line access)) between.side }
    → node_after_access access (node_of site tile records out delivered) ≡ Some (node_of new tile records out delivered, None)
starts_without access line leaving site between new tile records out delivered plan is comes at dropped changed =
    let after_of : ℕ → ChipSide → Option Performed = λ l s.
    Some (node_of (record s { side = with_demand (Some (new_demand (request_for access.kind) l access)) s.side }) tile records out delivered, None)
    in
    is
    ∙ ap (λ (p : Plan). planned p access (node_of site tile records out delivered)) comes
    ∙ ap (λ (s : ChipSide). after_of (line_of access.address) s) (sym dropped)
    ∙ ap (λ (l : ℕ). after_of l between) (sym at)
    ∙ ap (λ (s : ChipSide). Some (node_of s tile records out delivered, None)) (sym changed)

pub puts_back : (access : Pending) (line : ℕ) (site new : ChipSide) (tile : ℕ) (records : Records) (out : List Msg) (delivered : ℕ) (plan : Plan) (words : List ℕ)
    → node_after_access access (node_of site tile records out delivered) ≡ planned plan access (node_of site tile records out delivered) → plan ≡ PutBack line words
    → new ≡ record site { side = with_back (Some (new_back line words)) (line_gone site.chip line site.side) }
    → node_after_access access (node_of site tile records out delivered) ≡ Some (node_of new tile records out delivered, None)
puts_back access line site new tile records out delivered plan words is comes changed =
    is
    ∙ ap (λ (p : Plan). planned p access (node_of site tile records out delivered)) comes
    ∙ ap (λ (s : ChipSide). Some (node_of s tile records out delivered, None)) (sym changed)

pub loads_done : (access : Pending) (node : Node) (plan : Plan) (words : List ℕ) (outcome : Outcome)
    → node_after_access access node ≡ planned plan access node → plan ≡ HitLoad words
    → outcome ≡ Hit (done_by access node.delivered words)
    → node_after_access access node ≡ Some (node, access_performed outcome)
loads_done access node plan words outcome is comes hit =
    is
    ∙ ap (λ (p : Plan). planned p access node) comes
    ∙ ap (λ (o : Outcome). Some (node, access_performed o)) (sym hit)
