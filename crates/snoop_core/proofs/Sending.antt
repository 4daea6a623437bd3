-- The request that is next is sent: the write-back's, and else the demand's.
use Rattle.std.proofs.Common.{◌≡◌, true, refl, Option, Some, None}
use Rattle.std.proofs.lemmas.Bool.{cond_both}
use Rattle.chip_model.specs.Misses.{Demand, WriteBack, Misses, sent_demand, sent_by}

pub record SentForms (demand : Option Demand) (back : Option WriteBack) (P : Misses → Type 0) : Type 0 where
  pub get : P (record { demand = sent_demand demand; back = back })
  pub put : (b : WriteBack) → back ≡ Some b → P (record { demand = demand; back = Some (record b { sent = true }) })

pub sent_forms : (demand : Option Demand) (back : Option WriteBack) (P : Misses → Type 0) → SentForms demand back P → P (sent_by demand back)
sent_forms demand None P forms = forms.get
sent_forms demand (Some back) P forms =
    cond_both back.sent (record { demand = sent_demand demand; back = Some back }) (record { demand = demand; back = Some (record back { sent = true }) })
    P (λ sent. forms.get) (λ unsent. forms.put back refl)
