-- What the calls of the table need, and what they change.
use Rattle.std.specs.Prelude.{◌≡◌, ◌<◌, ℕ, true, false, IsTrue, IsSome, IsNone, List, [], ◌∷◌, ◌++◌, length, Option, Some, None}
use Rattle.mesh_gen.specs.declared.kind.Kind.TheVariants.{GetS, GetM}
use Rattle.chip_model.specs.declared.waiting.Waiting.{Waiting}
use Rattle.chip_model.specs.Misses.{Demand, WriteBack, is_written_back, ends_in_getm}

-- the demand waits for another line than the one that is written back
abbrev pub AreApart : Option Demand → Option WriteBack → Type 0
AreApart None back = Unit {0}
AreApart (Some demand) back = is_written_back demand.line back ≡ false

-- there is a value, and it is such a one
abbrev pub Holds : {X : Type 0} → (X → Type 0) → Option X → Type 0
Holds P None = ⊥
Holds P (Some x) = P x

-- a demand that was sent and is not ordered
pub record IsInFlight (demand : Demand) : Type 0 where
  pub sent : IsTrue demand.sent
  pub unordered : IsNone demand.ordered

-- such a demand, whose words have not come
pub record LacksWords (demand : Demand) : Type 0 where
  pub sent : IsTrue demand.sent
  pub unordered : IsNone demand.ordered
  pub wordless : IsNone demand.early

-- an ordered demand of a load
pub record IsOrderedRead (demand : Demand) : Type 0 where
  pub ordered : IsSome demand.ordered
  pub read : demand.kind ≡ GetS

-- an ordered demand of a write, for which one more tile may wait
pub record TakesOneMore (demand : Demand) (room : ℕ) : Type 0 where
  pub ordered : IsSome demand.ordered
  pub write : demand.kind ≡ GetM
  pub space : length demand.list < room
  pub open_end : ¬ IsTrue (ends_in_getm demand.list)

-- a write-back under which the node still owns the line
abbrev pub IsLive : WriteBack → Type 0
IsLive back = IsTrue back.live

-- a demand, and a write-back, whose request was sent
abbrev pub IsSentDemand : Demand → Type 0
IsSentDemand demand = IsTrue demand.sent

-- a write-back whose request was sent
abbrev pub IsSentBack : WriteBack → Type 0
IsSentBack back = IsTrue back.sent

-- a demand that is ordered at a place; with early words; whose words serve once; and with one more tile after it
abbrev pub ordered_at : ℕ → Demand → Demand
ordered_at place demand = record demand { ordered = Some place }

-- a demand with early data
abbrev pub with_early : List ℕ → Demand → Demand
with_early words demand = record demand { early = Some words }

-- a demand whose words serve once
abbrev pub for_once : Demand → Demand
for_once demand = record demand { once = true }

-- a demand with one more tile in its list
abbrev pub followed_by : Waiting → Demand → Demand
followed_by waiting demand = record demand { list = demand.list ++ waiting ∷ [] }

-- the tiles that wait for a demand
abbrev pub list_of : Option Demand → List Waiting
list_of None = []
list_of (Some demand) = demand.list
