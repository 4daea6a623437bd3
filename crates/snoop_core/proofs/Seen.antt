-- What a look at the misses tells of the demand and the write-back that stand.
use Rattle.std.proofs.Common.{◌≡◌, ◌⊎◌, ℕ, true, false, refl, sym, ap, subst, inl, inr, Option, Some, None}
use Rattle.std.specs.Prelude.{IsTrue, option_map}
use Rattle.std.proofs.lemmas.Option.{same_Some}
use Rattle.mesh_gen.specs.declared.kind.Kind.{Kind}
use Rattle.mesh_gen.specs.declared.kind.Kind.TheVariants.{GetS, PutM}
use Rattle.chip_model.specs.Misses.{Demand, WriteBack, is_getm}
use Rattle.chip_model.specs.Chip.{Chip}
use Rattle.chip_model.specs.Cache.{fits}
use Rattle.chip_model.specs.Snoop.{CacheSide}
use Rattle.chip_model.specs.NodeShape.{SideFits}
use Rattle.line_cache.specs.Sets.{Fits}
use Rattle.miss_table.specs.declared.look.DemandLook.{DemandLook}
use Rattle.miss_table.specs.declared.look.BackLook.{BackLook}
use Rattle.miss_table.specs.Table.{Holds, IsSentDemand, IsSentBack}
use Rattle.miss_table.specs.Looks.{demand_look, back_look}

-- the demand, and the write-back, that stands and looks so
pub record SeesDemand (entry : Option Demand) (look : DemandLook) : Type 0 where
  pub demand : Demand
  pub stands : entry ≡ Some demand
  pub looks : demand_look demand ≡ look

pub record SeesBack (entry : Option WriteBack) (look : BackLook) : Type 0 where
  pub back : WriteBack
  pub stands : entry ≡ Some back
  pub looks : back_look back ≡ look

pub sees_demand : (entry : Option Demand) (look : DemandLook) → option_map demand_look entry ≡ Some look → SeesDemand entry look
sees_demand None look is = cc
sees_demand (Some demand) look is = record { demand = demand; stands = refl; looks = same_Some (demand_look demand) look is }

pub sees_back : (entry : Option WriteBack) (look : BackLook) → option_map back_look entry ≡ Some look → SeesBack entry look
sees_back None look is = cc
sees_back (Some back) look is = record { back = back; stands = refl; looks = same_Some (back_look back) look is }

-- nothing stands where nothing is seen
pub no_demand_seen : (entry : Option Demand) → option_map demand_look entry ≡ None → entry ≡ None
no_demand_seen None is = refl
no_demand_seen (Some demand) is = cc

pub no_back_seen : (entry : Option WriteBack) → option_map back_look entry ≡ None → entry ≡ None
no_back_seen None is = refl
no_back_seen (Some back) is = cc

-- the line of a demand may come into the cache
pub demand_room : (chip : Chip) (side : CacheSide) (look : DemandLook) → SideFits chip side → SeesDemand side.misses.demand look → Fits side.cache look.line
demand_room chip side look is seen =
    (chip, is.cache.sets, subst (λ (l : ℕ). IsTrue (fits chip side.cache l)) (ap (λ (l : DemandLook). l.line) seen.looks) ((is.demand seen.demand seen.stands).room))

-- a kind that asks for no copy to write
pub reads_by : (kind : Kind) → (kind ≡ GetS) ⊎ (kind ≡ PutM) → is_getm kind ≡ false
reads_by kind (inl reads) = ap is_getm reads
reads_by kind (inr puts) = ap is_getm puts

-- what stands was sent
pub demand_was_sent : (entry : Option Demand) (demand : Demand) → entry ≡ Some demand → demand.sent ≡ true → Holds IsSentDemand entry
demand_was_sent entry demand stands sent = subst (λ (e : Option Demand). Holds IsSentDemand e) (sym stands) sent

pub back_was_sent : (entry : Option WriteBack) (back : WriteBack) → entry ≡ Some back → back.sent ≡ true → Holds IsSentBack entry
back_was_sent entry back stands sent = subst (λ (e : Option WriteBack). Holds IsSentBack e) (sym stands) sent
