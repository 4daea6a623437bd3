-- What a node's own request, and words for it, do.
use Rattle.std.proofs.Common.{◌≡◌, ◌⊎◌, ℕ, Bool, true, false, refl, sym, ◌∙◌, ap, subst, inl, inr, Option, Some, None, List, [], ◌∷◌}
use Rattle.std.specs.Prelude.{IsNone, is_some, option_map, if◌then◌else◌}
use Rattle.std.proofs.lemmas.Bool.{eq-eqb, ne_eqb}
use Rattle.mesh_gen.specs.declared.kind.Kind.{Kind}
use Rattle.mesh_gen.specs.declared.kind.Kind.TheVariants.{GetS, GetM, PutM}
use Rattle.mesh_gen.specs.declared.request.Request.{Request}
use Rattle.mesh_gen.specs.declared.msg.Msg.{Msg}
use Rattle.mesh_gen.specs.declared.msg_kind.MsgKind.TheVariants.{Back}
use Rattle.chip_model.specs.Chip.{Chip, home}
use Rattle.chip_model.specs.Cache.{Cache, lookup}
use Rattle.chip_model.specs.Misses.{Demand, WriteBack, Misses, is_getm}
use Rattle.chip_model.specs.Snoop.{CacheSide, Outcome, quiet, with_demand, with_back, Holding, OwnedCopy, LiveBack, OpenWrite, OpenRead, SharedCopy, Nothing, holding, owned_words, after_data, snooped_with, own_put, own_request, after_snoop}
use Rattle.miss_table.specs.Table.{Holds, IsInFlight, LacksWords, ordered_at, with_early}
use Rattle.snoop_core.specs.ChipSides.{ChipSide, after_outcome, completion, words_for, own_get_at, own_put_of, met_by}
use Rattle.snoop_core.proofs.Completing.{left}

-- ---- the words that are here
pub words_early : (site : ChipSide) (demand : Demand) (words : List ℕ) → site.side.misses.demand ≡ Some demand → demand.early ≡ Some words → Some words ≡ words_for site.side.misses.demand site
words_early site demand words stands early = rw (stands, early) refl

pub words_owned : (site : ChipSide) (demand : Demand) (line : ℕ) (words : Option (List ℕ)) → site.side.misses.demand ≡ Some demand → demand.early ≡ None → is_getm demand.kind ≡ true → demand.line ≡ line
    → words ≡ owned_words (lookup site.chip site.side.cache line) → words ≡ words_for site.side.misses.demand site
words_owned site demand line words stands wordless writes line_is is = rw (stands, wordless, writes, line_is) is

pub words_none : (site : ChipSide) (demand : Demand) → site.side.misses.demand ≡ Some demand → demand.early ≡ None → is_getm demand.kind ≡ false → None ≡ words_for site.side.misses.demand site
words_none site demand stands wordless reads = rw (stands, wordless, reads) refl

pub words_nowhere : (site : ChipSide) → site.side.misses.demand ≡ None → None ≡ words_for site.side.misses.demand site
words_nowhere site none = rw none refl

-- ---- its own get
pub own_completes : (place : ℕ) (site : ChipSide) (demand : Demand) (words : List ℕ) → site.side.misses.demand ≡ Some demand → words_for site.side.misses.demand site ≡ Some words
    → own_get_at place site ≡ completion place words site
own_completes place site demand words stands here =
    let now : words_for (Some demand) site ≡ Some words = ap (λ (d : Option Demand). words_for d site) (sym stands) ∙ here in
    rw (stands, now) refl

pub own_waits : (place : ℕ) (site : ChipSide) (demand : Demand) → site.side.misses.demand ≡ Some demand → words_for site.side.misses.demand site ≡ None
    → own_get_at place site ≡ quiet (with_demand (Some (ordered_at place demand)) site.side)
own_waits place site demand stands none =
    let now : words_for (Some demand) site ≡ None = ap (λ (d : Option Demand). words_for d site) (sym stands) ∙ none in
    rw (stands, now) refl

none_is : (o : Option ℕ) → o ≡ None → IsNone o
none_is o is = ap is_some is

-- it may be ordered
pub on_its_way : (entry : Option Demand) (demand : Demand) → entry ≡ Some demand → demand.sent ≡ true → demand.ordered ≡ None → Holds IsInFlight entry
on_its_way entry demand stands sent unordered =
    subst (λ (e : Option Demand). Holds IsInFlight e) (sym stands) (record { sent = sent; unordered = none_is demand.ordered unordered })

pub ordered_left : (old : ChipSide) (chip : Chip) (cache : Cache) (misses new : Misses) (demand : Demand) (place : ℕ) → record { chip = chip; side = record { cache = cache; misses = misses } } ≡ old
    → old.side.misses.demand ≡ Some demand → words_for old.side.misses.demand old ≡ None → new ≡ record misses { demand = option_map (ordered_at place) misses.demand }
    → record { chip = chip; side = record { cache = cache; misses = new } } ≡ after_outcome (own_get_at place old) old
ordered_left old chip cache misses new demand place is stands none changed =
    let here : misses.demand ≡ Some demand = ap (λ (site : ChipSide). site.side.misses.demand) is ∙ stands in
    left old chip (record { cache = cache; misses = misses }) (record { cache = cache; misses = new }) (own_get_at place old) is
    (ap (λ (m : Misses). record { cache = cache; misses = m }) (changed ∙ ap (λ (d : Option Demand). record misses { demand = option_map (ordered_at place) d }) here)
    ∙ ap (λ (site : ChipSide). with_demand (Some (ordered_at place demand)) site.side) is
    ∙ ap (λ (o : Outcome). o.side) (sym (own_waits place old demand stands none)))

-- ---- words for the demand
pub data_completes : (site : ChipSide) (demand : Demand) (place : ℕ) (words : List ℕ) → site.side.misses.demand ≡ Some demand → demand.ordered ≡ Some place
    → after_data site.chip site.side words ≡ completion place words site
unfolding after_data
data_completes site demand place words stands ordered = rw (stands, ordered) refl

pub data_waits : (site : ChipSide) (demand : Demand) (words : List ℕ) → site.side.misses.demand ≡ Some demand → demand.ordered ≡ None
    → after_data site.chip site.side words ≡ quiet (with_demand (Some (with_early words demand)) site.side)
unfolding after_data
data_waits site demand words stands unordered = rw (stands, unordered) refl

pub data_nowhere : (site : ChipSide) (words : List ℕ) → site.side.misses.demand ≡ None → after_data site.chip site.side words ≡ quiet site.side
unfolding after_data
data_nowhere site words none = rw none refl

wordless_is : (o : Option (List ℕ)) → o ≡ None → IsNone o
wordless_is o is = ap is_some is

pub lacks_words_still : (entry : Option Demand) (demand : Demand) → entry ≡ Some demand → demand.sent ≡ true → demand.ordered ≡ None → demand.early ≡ None → Holds LacksWords entry
lacks_words_still entry demand stands sent unordered wordless =
    subst (λ (e : Option Demand). Holds LacksWords e) (sym stands)
    (record { sent = sent; unordered = none_is demand.ordered unordered; wordless = wordless_is demand.early wordless })

pub early_left : (old : ChipSide) (chip : Chip) (cache : Cache) (misses new : Misses) (demand : Demand) (words : List ℕ) → record { chip = chip; side = record { cache = cache; misses = misses } } ≡ old
    → old.side.misses.demand ≡ Some demand → demand.ordered ≡ None → new ≡ record misses { demand = option_map (with_early words) misses.demand }
    → record { chip = chip; side = record { cache = cache; misses = new } } ≡ after_outcome (after_data old.chip old.side words) old
early_left old chip cache misses new demand words is stands unordered changed =
    let here : misses.demand ≡ Some demand = ap (λ (site : ChipSide). site.side.misses.demand) is ∙ stands in
    left old chip (record { cache = cache; misses = misses }) (record { cache = cache; misses = new }) (after_data old.chip old.side words) is
    (ap (λ (m : Misses). record { cache = cache; misses = m }) (changed ∙ ap (λ (d : Option Demand). record misses { demand = option_map (with_early words) d }) here)
    ∙ ap (λ (site : ChipSide). with_demand (Some (with_early words demand)) site.side) is
    ∙ ap (λ (o : Outcome). o.side) (sym (data_waits old demand words stands unordered)))

-- ---- its own put
pub put_is : (site : ChipSide) (back : WriteBack) (live : Bool) → site.side.misses.back ≡ Some back → back.live ≡ live
    → own_put_of site ≡ record {
      side = with_back None site.side;
      sends = if live then record { to = home site.chip back.line; kind = Back; line = back.line; words = back.words } ∷ [] else [];
      done = None;
    }
put_is site back live stands alive = rw (stands, alive) refl

pub same_back : (entry : Option WriteBack) (back other : WriteBack) → entry ≡ Some back → entry ≡ Some other → back ≡ other
same_back entry back other is also = let both : Some back ≡ Some other = sym is ∙ also in cc

pub put_message : (chip : Chip) (back : WriteBack) (line to : ℕ) (words : List ℕ) → back.line ≡ line → back.words ≡ words → to ≡ home chip line
    → ◌≡◌ {A = Msg} (record { to = to; kind = Back; line = line; words = words }) (record { to = home chip back.line; kind = Back; line = back.line; words = back.words })
put_message chip back line to words line_is words_is homes = rw (line_is, words_is, homes) refl

-- ---- whose request it is
pub snooped_other : (site : ChipSide) (tile place : ℕ) (q : Request) → (q.source ≡ tile → ⊥) → after_snoop site.chip tile site.side place q ≡ met_by q site
unfolding after_snoop
snooped_other site tile place q apart =
    ap (λ (b : Bool). if b then own_request site.chip site.side place q.kind else met_by q site) (ne_eqb q.source tile apart)

snooped_own : (site : ChipSide) (tile place : ℕ) (q : Request) → q.source ≡ tile → after_snoop site.chip tile site.side place q ≡ own_request site.chip site.side place q.kind
unfolding after_snoop
snooped_own site tile place q same =
    ap (λ (b : Bool). if b then own_request site.chip site.side place q.kind else met_by q site) (eq-eqb q.source tile same)

pub snooped_get : (site : ChipSide) (tile place : ℕ) (q : Request) → q.source ≡ tile → (q.kind ≡ GetS) ⊎ (q.kind ≡ GetM) → after_snoop site.chip tile site.side place q ≡ own_get_at place site
snooped_get site tile place q same (inl reads) = snooped_own site tile place q same ∙ ap (λ (k : Kind). own_request site.chip site.side place k) reads
snooped_get site tile place q same (inr writes) = snooped_own site tile place q same ∙ ap (λ (k : Kind). own_request site.chip site.side place k) writes

pub snooped_put : (site : ChipSide) (tile place : ℕ) (q : Request) → q.source ≡ tile → q.kind ≡ PutM → after_snoop site.chip tile site.side place q ≡ own_put_of site
snooped_put site tile place q same puts = snooped_own site tile place q same ∙ ap (λ (k : Kind). own_request site.chip site.side place k) puts

-- no access is completed by another tile's request, nor by a put
met_by_done : (chip : Chip) (q : Request) (side : CacheSide) (h : Holding) (k : Kind) → (snooped_with chip q side h k).done ≡ None
met_by_done chip q side (OwnedCopy words) GetS = refl
met_by_done chip q side (OwnedCopy words) GetM = refl
met_by_done chip q side (OwnedCopy words) PutM = refl
met_by_done chip q side (LiveBack words) GetS = refl
met_by_done chip q side (LiveBack words) GetM = refl
met_by_done chip q side (LiveBack words) PutM = refl
met_by_done chip q side (OpenWrite demand) GetS = refl
met_by_done chip q side (OpenWrite demand) GetM = refl
met_by_done chip q side (OpenWrite demand) PutM = refl
met_by_done chip q side (OpenRead demand) GetS = refl
met_by_done chip q side (OpenRead demand) GetM = refl
met_by_done chip q side (OpenRead demand) PutM = refl
met_by_done chip q side SharedCopy GetS = refl
met_by_done chip q side SharedCopy GetM = refl
met_by_done chip q side SharedCopy PutM = refl
met_by_done chip q side Nothing GetS = refl
met_by_done chip q side Nothing GetM = refl
met_by_done chip q side Nothing PutM = refl

pub met_done : (q : Request) (site : ChipSide) → (met_by q site).done ≡ None
met_done q site = met_by_done site.chip q site.side (holding site.chip site.side q.line) q.kind

own_put_done : (chip : Chip) (side : CacheSide) (back : Option WriteBack) → (own_put chip side back).done ≡ None
own_put_done chip side None = refl
own_put_done chip side (Some back) = refl

pub put_done : (site : ChipSide) → (own_put_of site).done ≡ None
put_done site = own_put_done site.chip site.side site.side.misses.back
