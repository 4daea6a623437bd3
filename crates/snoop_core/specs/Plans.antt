-- What an access of the core comes to.
use Rattle.std.specs.Prelude.{Option, Some, None}
use Rattle.chip_model.specs.declared.pending.Pending.{Pending}
use Rattle.chip_model.specs.declared.line_state.State.TheVariants.{M, S}
use Rattle.chip_model.specs.Chip.{line_of}
use Rattle.chip_model.specs.Misses.{new_back}
use Rattle.chip_model.specs.Snoop.{with_back, line_gone}
use Rattle.chip_model.specs.Node.{Node, Performed, with_side, load_hit, store_hit, demand_started}
use Rattle.snoop_core.specs.declared.access.Plan.{Plan}
use Rattle.snoop_core.specs.declared.access.Plan.TheVariants.{Refuse, HitLoad, HitStore, Miss, MissWithout, PutBack}

-- the node after an access by its plan, and the access that is performed
abbrev pub planned : Plan → Pending → Node → Option Performed
planned Refuse access node = None
planned (HitLoad words) access node = Some (load_hit access (record { line = line_of access.address; state = S; words = words }) node)
planned (HitStore words) access node = Some (store_hit access (record { line = line_of access.address; state = M; words = words }) node)
planned Miss access node = Some (demand_started access node.side node)
planned (MissWithout leaving) access node = Some (demand_started access (line_gone node.chip leaving node.side) node)
planned (PutBack line words) access node =
    Some (with_side (with_back (Some (new_back line words)) (line_gone node.chip line node.side)) node, None)

-- a demand begins; a write-back does
abbrev pub StartsMiss : Plan → Type 0
StartsMiss Miss = Unit {0}
StartsMiss (MissWithout leaving) = Unit {0}
StartsMiss Refuse = ⊥
StartsMiss (HitLoad words) = ⊥
StartsMiss (HitStore words) = ⊥
StartsMiss (PutBack line words) = ⊥

-- by a plan a write-back begins
abbrev pub StartsBack : Plan → Type 0
StartsBack (PutBack line words) = Unit {0}
StartsBack Miss = ⊥
StartsBack (MissWithout leaving) = ⊥
StartsBack Refuse = ⊥
StartsBack (HitLoad words) = ⊥
StartsBack (HitStore words) = ⊥
