-- The miss table of a node: what it waits for. A demand waits for a line's words, for one access of the core; a
-- write-back returns a line to memory. Both may stand at once, of different lines.
use Rattle.std.specs.Prelude.{ℕ, ◌==◌, Bool, true, false, not, List, [], ◌∷◌, Option, Some, None, if◌then◌else◌}
use Rattle.mesh_gen.specs.declared.kind.Kind.{Kind}
use Rattle.mesh_gen.specs.declared.kind.Kind.TheVariants.{GetS, GetM, PutM}
use Rattle.mesh_gen.specs.Partial.{when}
use Rattle.report_text.specs.declared.access.AccessKind.{AccessKind}
use Rattle.report_text.specs.declared.access.AccessKind.TheVariants.{Load, Store, Swap, Add}
use Rattle.chip_model.specs.declared.pending.Pending.{Pending}
use Rattle.chip_model.specs.declared.waiting.Waiting.{Waiting}

-- the request's kind and line; the access that waits; whether the request was sent; the place at which it was ordered;
-- the words that came before it was; whether another tile's GetM was ordered after a load, so that its words serve
-- once and are not kept; and the tiles that wait for the words after a store
pub record Demand : Type 0 where
  pub kind : Kind
  pub line : ℕ
  pub pending : Pending
  pub sent : Bool
  pub ordered : Option ℕ
  pub early : Option (List ℕ)
  pub once : Bool
  pub list : List Waiting

-- the line and its words; whether this node still owns the line; and whether the request was sent
pub record WriteBack : Type 0 where
  pub line : ℕ
  pub words : List ℕ
  pub live : Bool
  pub sent : Bool

-- what a node waits for: at most one demand and at most one write-back
pub record Misses : Type 0 where
  pub demand : Option Demand
  pub back : Option WriteBack

-- nothing is waited for
abbrev pub no_misses : Misses
no_misses = record { demand = None; back = None }

-- a line is the one that the demand waits for; the one that is written back
abbrev pub is_demanded : ℕ → Option Demand → Bool
is_demanded line None = false
is_demanded line (Some demand) = demand.line == line

-- a line is the one that is written back
abbrev pub is_written_back : ℕ → Option WriteBack → Bool
is_written_back line None = false
is_written_back line (Some back) = line == back.line

-- a request that asks for a copy to write
abbrev pub is_getm : Kind → Bool
is_getm GetM = true
is_getm GetS = false
is_getm PutM = false

-- whether the last that waits asked for a copy to write: then the words go on to it, and nobody after waits here
abbrev pub ends_in_getm : List Waiting → Bool
ends_in_getm [] = false
ends_in_getm (last ∷ []) = is_getm last.kind
ends_in_getm (first ∷ next ∷ rest) = ends_in_getm (next ∷ rest)

-- what an access that misses asks for
abbrev pub request_for : AccessKind → Kind
request_for Load = GetS
request_for Store = GetM
request_for Swap = GetM
request_for Add = GetM

-- a demand that was not sent
abbrev pub new_demand : Kind → ℕ → Pending → Demand
new_demand kind line pending = record {
  kind = kind;
  line = line;
  pending = pending;
  sent = false;
  ordered = None;
  early = None;
  once = false;
  list = [];
}

-- a write-back that was not sent, of a line that its node still owns
abbrev pub new_back : ℕ → List ℕ → WriteBack
new_back line words = record { line = line; words = words; live = true; sent = false }

-- the request of a demand that was not sent
abbrev pub wanted_by_demand : Option Demand → Option (Kind × ℕ)
wanted_by_demand None = None
wanted_by_demand (Some demand) = when (not demand.sent) (Some (demand.kind, demand.line))

-- the request that is sent next: the write-back's before the demand's
abbrev pub wanted_by : Option Demand → Option WriteBack → Option (Kind × ℕ)
wanted_by demand None = wanted_by_demand demand
wanted_by demand (Some back) = if back.sent then wanted_by_demand demand else Some (PutM, back.line)

-- the request of a table that is sent next
unfoldable pub wanted : Misses → Option (Kind × ℕ)
wanted misses = wanted_by misses.demand misses.back

-- the demand, sent
abbrev pub sent_demand : Option Demand → Option Demand
sent_demand None = None
sent_demand (Some demand) = Some (record demand { sent = true })

-- the same table, with the request sent that was next
abbrev pub sent_by : Option Demand → Option WriteBack → Misses
sent_by demand None = record { demand = sent_demand demand; back = None }
sent_by demand (Some back) =
    if back.sent then record { demand = sent_demand demand; back = Some back }
    else record { demand = demand; back = Some (record back { sent = true }) }

-- a table after that request was sent
unfoldable pub marked_sent : Misses → Misses
marked_sent misses = sent_by misses.demand misses.back
