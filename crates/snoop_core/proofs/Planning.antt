-- What an access comes to, by what the node has.
use Rattle.std.proofs.Common.{◌≡◌, ℕ, Bool, true, false, ◌∙◌, ap, Option, Some, None, List}
use Rattle.std.specs.Prelude.{not, if◌then◌else◌}
use Rattle.report_text.specs.Accesses.{writes}
use Rattle.chip_model.specs.declared.pending.Pending.{Pending}
use Rattle.chip_model.specs.declared.line_state.State.{State}
use Rattle.chip_model.specs.declared.line_state.State.TheVariants.{S}
use Rattle.chip_model.specs.Chip.{line_of}
use Rattle.chip_model.specs.Cache.{Held, lookup}
use Rattle.chip_model.specs.Node.{Node, Performed, has_entry, node_after_access, accessed_with, missed, unless_written_back, load_hit, store_to}
use Rattle.chip_model.specs.Partial.{when}
use Rattle.line_cache.specs.Sets.{copy_of}
use Rattle.snoop_core.specs.declared.access.Plan.{Plan}
use Rattle.snoop_core.specs.Plans.{planned}

pub refused : (access : Pending) (node : Node) → has_entry node ≡ true → node_after_access access node ≡ None
unfolding node_after_access
refused access node waits =
    ap (λ (b : Bool). when (not b) (accessed_with access node (lookup node.chip node.side.cache (line_of access.address)))) waits

free : (access : Pending) (line : ℕ) (node : Node) (copy : Option Held) → has_entry node ≡ false → line_of access.address ≡ line → lookup node.chip node.side.cache line ≡ copy
    → node_after_access access node ≡ accessed_with access node copy
unfolding node_after_access
free access line node copy waits at there =
    ap (λ (b : Bool). when (not b) (accessed_with access node (lookup node.chip node.side.cache (line_of access.address)))) waits
    ∙ ap (λ (l : ℕ). accessed_with access node (lookup node.chip node.side.cache l)) at
    ∙ ap (accessed_with access node) there

by_kind : (access : Pending) (node : Node) (held : Held) → Bool → Option Performed
by_kind access node held b = if b then store_to access held node held.state else Some (load_hit access held node)

pub loads : (access : Pending) (line : ℕ) (node : Node) (copy : State × List ℕ) → has_entry node ≡ false → line_of access.address ≡ line → lookup node.chip node.side.cache line ≡ Some (copy_of line copy)
    → writes access.kind ≡ false → node_after_access access node ≡ Some (load_hit access (record { line = line_of access.address; state = S; words = copy.1 }) node)
unfolding by_kind
loads access line node copy waits at there reads =
    free access line node (Some (copy_of line copy)) waits at there
    ∙ ap (by_kind access node (copy_of line copy)) reads

pub stores : (access : Pending) (line : ℕ) (node : Node) (copy : State × List ℕ) (plan : Plan) → has_entry node ≡ false → line_of access.address ≡ line
    → lookup node.chip node.side.cache line ≡ Some (copy_of line copy) → writes access.kind ≡ true
    → store_to access (copy_of line (copy.0, copy.1)) node copy.0 ≡ planned plan access node
    → node_after_access access node ≡ planned plan access node
unfolding by_kind
stores access line node copy plan waits at there changes is =
    free access line node (Some (copy_of line copy)) waits at there
    ∙ ap (by_kind access node (copy_of line copy)) changes
    ∙ is

pub misses : (access : Pending) (line : ℕ) (node : Node) → has_entry node ≡ false → line_of access.address ≡ line → lookup node.chip node.side.cache line ≡ None
    → node_after_access access node ≡ unless_written_back access node (missed access node)
misses access line node waits at absent = free access line node None waits at absent
