-- A get that stands after a GetM of its line that is not complete, or after a request whose words are to reach memory, is still
-- to be supplied: so no data for it is here, and its tile does not own the line.
use Rattle.std.proofs.Common.{◌≡◌, ◌≢◌, ℕ, zero, suc, ◌+◌, ◌-◌, ◌<◌, ◌≤◌, Bool, true, false, cond, refl, sym, ◌∙◌, ap, subst, arith, inl, inr, Some, None, List, [], ◌∷◌, take, length}
use Rattle.std.specs.Prelude.{◌==◌, ◌&&◌, not, filter, slice_get, slice_index_or}
use Rattle.std.specs.List.{sum_by, count_by}
use Rattle.std.proofs.lemmas.Bool.{false≢true, cases_lt, eq-eqb, eqb-true, ne_eqb}
use Rattle.std.proofs.lemmas.Option.{same_Some, slice_get_within}
use Rattle.mesh_gen.specs.declared.kind.Kind.{Kind}
use Rattle.mesh_gen.specs.declared.kind.Kind.TheVariants.{GetS, GetM, PutM}
use Rattle.mesh_gen.specs.declared.request.Request.{Request}
use Rattle.mesh_gen.specs.Ports.{count_if}
use Rattle.order_tracker.specs.Order.{upwards}
use Rattle.doc_text.specs.Doc.{Doc}
use Rattle.chip_model.specs.declared.owner.Owner.TheVariants.{Tile}
use Rattle.chip_model.specs.declared.waiting.Waiting.{Waiting}
use Rattle.chip_model.specs.Chip.{Chip, chip_of}
use Rattle.chip_model.specs.Misses.{Demand, is_getm}
use Rattle.chip_model.specs.Records.{LineRecord}
use Rattle.chip_model.specs.Units.{UnitState}
use Rattle.chip_model.specs.ChipState.{ChipState}
use Rattle.chip_model.specs.Ownership.{owner}
use Rattle.chip_model.specs.Bookkeeping.{is_get, between, up_to_getm, waiting_for}
use Rattle.chip_model.specs.Suppliers.{count_of, delivered_at, supplier, is_to_come, places_in, places_after, places_at, promised_by, place_of_get, IsOpen}
use Rattle.chip_model.specs.ChipInvariant.{ProtocolHolds}
use Rattle.chip_laws.specs.DocLaws.{DocLaws}
use Rattle.chip_laws.proofs.Options.{none_some}
use Rattle.chip_laws.proofs.OrderFrames.{holds_at}
use Rattle.chip_laws.proofs.OrderLists.{get_take}
use Rattle.chip_laws.proofs.RequestsInside.{tile_of, source_inside}
use Rattle.chip_laws.proofs.SupplyCounts.{count_by-cons, slice_of_index}
use Rattle.chip_laws.proofs.SupplyRoom.{sum_by-part, one_answer}
use Rattle.chip_laws.proofs.WaitsToCome.{count_by-some}
use Rattle.supply_laws.specs.OwnerGets.{OwnerGet}
use Rattle.supply_laws.proofs.GetPlaces.{get_of, get_drop}
use Rattle.supply_laws.proofs.PlaceEvents.{EndsBy}
use Rattle.supply_laws.proofs.OpenGets.{open_get}
use Rattle.supply_laws.proofs.OneToComes.{to_come_by}

-- ---- who waits among the requests after a place
head_counts : (q : Request) (b : Bool) (rest : List Request) → 1 ≤ places_in q.source (waiting_for (cond b (q ∷ []) (q ∷ rest)))
head_counts q true rest =
    let here : count_if (q.source == q.source) ≡ 1 = ap count_if (eq-eqb q.source q.source refl) in
    omega (arith, here, count_by-cons (λ (w : Waiting). w.tile == q.source) (record { tile = q.source; kind = q.kind }) [])
head_counts q false rest =
    let here : count_if (q.source == q.source) ≡ 1 = ap count_if (eq-eqb q.source q.source refl) in
    omega (arith, here, count_by-cons (λ (w : Waiting). w.tile == q.source) (record { tile = q.source; kind = q.kind }) (waiting_for rest))

tail_counts : (t : ℕ) (x : Request) (rest : List Request) → is_getm x.kind ≡ false → 1 ≤ places_in t (waiting_for rest) → 1 ≤ places_in t (waiting_for (cond (is_getm x.kind) (x ∷ []) (x ∷ rest)))
tail_counts t x rest reads some =
    subst (λ (b : Bool). 1 ≤ places_in t (waiting_for (cond b (x ∷ []) (x ∷ rest)))) (sym reads)
    (omega (arith, some, count_by-cons (λ (w : Waiting). w.tile == t) (record { tile = x.source; kind = x.kind }) (waiting_for rest)))

-- one that passes waits, where none before it is to write
up_counts : (p : Request → Bool) (xs : List Request) (k : ℕ) (q : Request) → slice_get xs k ≡ Some q → p q ≡ true
    → ((j : ℕ) (r : Request) → j < k → slice_get xs j ≡ Some r → p r ≡ true → is_getm r.kind ≡ false) → 1 ≤ places_in q.source (waiting_for (up_to_getm (filter p xs)))
up_counts p [] k q at passes none = none_some q at
up_counts p (x ∷ xs) zero q at passes none =
    let same : x ≡ q = cc in
    subst (λ (b : Bool). 1 ≤ places_in q.source (waiting_for (up_to_getm (cond b (x ∷ filter p xs) (filter p xs))))) (sym (ap p same ∙ passes))
    (subst (λ (y : Request). 1 ≤ places_in y.source (waiting_for (up_to_getm (x ∷ filter p xs)))) same (head_counts x (is_getm x.kind) (up_to_getm (filter p xs))))
up_counts p (x ∷ xs) (suc k) q at passes none =
    by (p x) refl (up_counts p xs k q at passes (λ j r before there. none (suc j) r (omega (arith, before)) there)) where
      by : (b : Bool) → p x ≡ b → 1 ≤ places_in q.source (waiting_for (up_to_getm (filter p xs))) → 1 ≤ places_in q.source (waiting_for (up_to_getm (cond b (x ∷ filter p xs) (filter p xs))))
      by true kept rest = tail_counts q.source x (up_to_getm (filter p xs)) (none 0 x (omega arith) refl kept) rest
      by false left rest = rest

get_within : (xs : List Request) (n k : ℕ) (q : Request) → slice_get xs k ≡ Some q → k < n → slice_get (take n xs) k ≡ Some q
get_within xs zero k q at below = absurd (omega (arith, below))
get_within [] (suc n) k q at below = none_some q at
get_within (x ∷ xs) (suc n) zero q at below = at
get_within (x ∷ xs) (suc n) (suc k) q at below = get_within xs n k q at (omega (arith, below))

-- the get at a place waits among those that pass after another place and below a bound
pub waits_among : (p : Request → Bool) (ordered : List Request) (g place below : ℕ) (q : Request) → slice_get ordered place ≡ Some q → g < place → place < below → p q ≡ true
    → ((k : ℕ) (r : Request) → g < k → k < place → slice_get ordered k ≡ Some r → p r ≡ true → is_getm r.kind ≡ false)
    → 1 ≤ places_in q.source (waiting_for (up_to_getm (filter p (between g below ordered))))
waits_among p ordered g place below q at after before passes none =
    let k = place - (g + 1) in
    let sum : g + 1 + k ≡ place = omega (arith, after) in
    let there : slice_get (between g below ordered) k ≡ Some q =
    get_drop (take below ordered) (g + 1) k ∙ ap (slice_get (take below ordered)) sum ∙ get_within ordered below place q at before in
    up_counts p (between g below ordered) k q there passes (λ j r earlier here kept.
    let stands = get_take ordered below (g + 1 + j) r (sym (get_drop (take below ordered) (g + 1) j) ∙ here) in
    none (g + 1 + j) r (omega arith) (omega (arith, earlier, sum)) stands kept)

-- ---- what is to answer a tile, but for its early data and what is in channels
abbrev pub pending : Chip → ChipState → ℕ → ℕ
pending chip s t = sum_by (promised_by t) s.units + count_by (is_to_come chip s t) (upwards 0 (length s.network.ordered))

pub comes_pending : (chip : Chip) (s : ChipState) (t place : ℕ) (q : Request) → slice_get s.network.ordered place ≡ Some q → is_to_come chip s t place ≡ true → 1 ≤ pending chip s t
comes_pending chip s t place q at comes =
    let within = slice_get_within s.network.ordered place q at in
    let some = count_by-some (is_to_come chip s t) 0 (length s.network.ordered) place (omega arith) (omega (arith, within)) comes in
    omega (arith, some)

pub listed_pending : (chip : Chip) (s : ChipState) (t u : ℕ) (unit : UnitState) (demand : Demand) → slice_get s.units u ≡ Some unit → unit.node.side.misses.demand ≡ Some demand
    → 1 ≤ places_in t demand.list
    → 1 ≤ pending chip s t
listed_pending chip s t u unit demand at stands some =
    let here : places_after t unit.node.side.misses.demand ≡ places_in t demand.list = ap (places_after t) stands in
    omega (arith, here, some, sum_by-part (promised_by t) s.units u unit at)

pub recorded_pending : (chip : Chip) (s : ChipState) (t u line : ℕ) (unit : UnitState) (r : LineRecord) → slice_get s.units u ≡ Some unit
    → slice_index_or unit.node.records line None ≡ Some r → 1 ≤ places_in t r.waiters
    → 1 ≤ pending chip s t
recorded_pending chip s t u line unit r at there some =
    let part = sum_by-part (places_at t) unit.node.records line (Some r) (slice_of_index unit.node.records line r there) in
    omega (arith, part, some, sum_by-part (promised_by t) s.units u unit at)

-- ---- an open get, and who owns its line where it stands
pub record OpenAt (s : ChipState) (line place : ℕ) : Type 0 where
  pub get : Request
  pub at : slice_get s.network.ordered place ≡ Some get
  pub asks : is_get get.kind ≡ true
  pub same : get.line ≡ line
  pub unit : UnitState
  pub unit_at : slice_get s.units get.source ≡ Some unit
  pub waits : place_of_get s unit.node ≡ Some place

module _ (d : Doc) (s : ChipState) (fits : DocLaws d) (holds : ProtocolHolds d s) where
  -- it is supplied by a tile that waits itself
  pub record TileSupplies (t v : ℕ) : Type 0 where
    pub apart : v ≢ t
    pub some : 1 ≤ pending (chip_of d) s t

  not_own : (line place v : ℕ) (is : OpenAt s line place) → (from : OwnerGet line v place s.network.ordered) → IsOpen s from.place from.get → v ≢ is.get.source
  not_own line place v is from opened same =
      let unit_at : slice_get s.units from.get.source ≡ Some is.unit = ap (slice_get s.units) (from.source ∙ same) ∙ is.unit_at in
      let places : from.place ≡ place = same_Some from.place place (sym (opened is.unit unit_at) ∙ is.waits) in
      absurd (omega (arith, places, from.before))

  pub to_come : (line place v : ℕ) (is : OpenAt s line place) → supplier (chip_of d) line (owner line (take place s.network.ordered)) ≡ v → delivered_at s v ≤ place
      → 1 ≤ pending (chip_of d) s is.get.source
  to_come line place v is supplies before =
      let same : supplier (chip_of d) is.get.line (owner is.get.line (take place s.network.ordered)) ≡ v =
      ap (λ (l : ℕ). supplier (chip_of d) l (owner l (take place s.network.ordered))) is.same ∙ supplies in
      let count : delivered_at s (supplier (chip_of d) is.get.line (owner is.get.line (take place s.network.ordered))) ≡ delivered_at s v = ap (delivered_at s) same in
      comes_pending (chip_of d) s is.get.source place is.get is.at (to_come_by (chip_of d) s is.get.source place is.get is.at (get_of is.get.source is.get is.asks refl) (omega (arith, count, before)))

  getm_is : (kind : Kind) → is_getm kind ≡ true → kind ≡ GetM
  getm_is GetM is = refl
  getm_is GetS is = absurd (false≢true is)
  getm_is PutM is = absurd (false≢true is)

  other_get : (v line : ℕ) (q : Request) → is_get q.kind ≡ true → q.line ≡ line → v ≢ q.source → (is_get q.kind && (q.line == line) && not (q.source == v)) ≡ true
  other_get v line q asks same away =
      let other : (q.source == v) ≡ false = ne_eqb q.source v (λ e. away (sym e)) in
      rw (asks, other) (ap (λ (b : Bool). b && true) (eq-eqb q.line line same))

  -- among those that pass none is to write, where no GetM for the line stands
  pub reads_between : (line g place : ℕ) → ((k : ℕ) (r : Request) → g < k → k < place → slice_get s.network.ordered k ≡ Some r → r.kind ≡ GetM → r.line ≡ line → ⊥)
      → (p : Request → Bool) → ((r : Request) → p r ≡ true → r.line ≡ line)
      → (k : ℕ) (r : Request) → g < k → k < place → slice_get s.network.ordered k ≡ Some r → p r ≡ true → is_getm r.kind ≡ false
  reads_between line g place none p line_of k r after before there passes = by (is_getm r.kind) refl where
    by : (b : Bool) → is_getm r.kind ≡ b → is_getm r.kind ≡ false
    by true writes = absurd (none k r after before there (getm_is r.kind writes) (line_of r passes))
    by false reads = reads

  line_of_other : (v line : ℕ) (r : Request) → (is_get r.kind && (r.line == line) && not (r.source == v)) ≡ true → r.line ≡ line
  line_of_other v line r is = by (is_get r.kind) (r.line == line) refl is where
    by : (a b : Bool) → (r.line == line) ≡ b → (a && b && not (r.source == v)) ≡ true → r.line ≡ line
    by true true here both = eqb-true r.line line here
    by true false here both = absurd (false≢true both)
    by false b here both = absurd (false≢true both)

  pub tile_supplies : (line place v : ℕ) (is : OpenAt s line place) → owner line (take place s.network.ordered) ≡ Tile v → (from : OwnerGet line v place s.network.ordered)
      → IsOpen s from.place from.get
      → TileSupplies is.get.source v
  tile_supplies line place v is owned from opened =
      let tile = tile_of d s from.get.source holds (source_inside d s from.place from.get fits holds from.at) in
      let v_is : from.get.source ≡ v = from.source in
      let apart = not_own line place v is from opened in
      elim (cases_lt place tile.unit.node.delivered) [
        | inr before ↦ (
            let count : delivered_at s v ≡ tile.unit.node.delivered = ap (delivered_at s) (sym v_is) ∙ ap count_of tile.unit_at in
            record { apart = apart; some = to_come line place v is (ap (supplier (chip_of d) line) owned) (omega (arith, count, before)) })
        | inl delivered ↦ record { apart = apart; some = listed tile.unit tile.unit_at delivered apart }
      ]
    where
      listed : (unit : UnitState) → slice_get s.units from.get.source ≡ Some unit → place < unit.node.delivered → v ≢ is.get.source → 1 ≤ pending (chip_of d) s is.get.source
      listed unit at delivered apart =
          let here = holds_at d s holds from.get.source unit at in
          let agrees = holds.network.requests.agree from.get.source here.interface here.at in
          let asked = open_get s.network from.get.source here.interface unit.node from.place agrees here.holds.node.agrees here.holds.node.fits.side (opened unit at) in
          let get_is : from.get ≡ asked.get = same_Some from.get asked.get (sym from.at ∙ asked.at) in
          let kind : asked.demand.kind ≡ GetM = asked.kind ∙ ap (λ (q : Request). q.kind) (sym get_is) ∙ from.kind in
          let line_is : asked.demand.line ≡ line = asked.line ∙ ap (λ (q : Request). q.line) (sym get_is) ∙ from.same in
          let tile_is : unit.node.tile ≡ v = here.holds.node.agrees.tile ∙ from.source in
          elim asked.stage [
            | inl ordered ↦ (
                let p : Request → Bool = λ (q : Request). is_get q.kind && (q.line == asked.demand.line) && not (q.source == unit.node.tile) in
                let passes : p is.get ≡ true = other_get unit.node.tile asked.demand.line is.get is.asks (is.same ∙ sym line_is) (λ e. apart (sym tile_is ∙ e)) in
                let some = waits_among p s.network.ordered from.place place unit.node.delivered is.get is.at from.before delivered passes
                (reads_between line from.place place (λ k r after before. from.last.gets k r (omega (arith, after)) before) p
                (λ r kept. line_of_other unit.node.tile asked.demand.line r kept ∙ line_is)) in
                listed_pending (chip_of d) s is.get.source from.get.source unit asked.demand at asked.stands
                (subst (λ (list : List Waiting). 1 ≤ places_in is.get.source list) (sym ((here.holds.node.followed asked.demand from.place asked.stands ordered).list kind)) some))
            | inr rest ↦ absurd (omega (arith, rest.1, delivered, from.before))
          ]

  -- then nothing completes it
  pub never_ends : {P : Type 0} (line place : ℕ) (is : OpenAt s line place) → (owner line (take place s.network.ordered) ≡ Tile is.get.source → ⊥) → 1 ≤ pending (chip_of d) s is.get.source
      → EndsBy s is.get.source is.unit → P
  never_ends line place is not_owner some (inl here) = absurd (omega (arith, here, some, one_answer d s is.get.source is.unit holds is.unit_at))
  never_ends line place is not_owner some (inr owned) =
      absurd (not_owner (ap (λ (l : ℕ). owner l (take place s.network.ordered)) (sym is.same) ∙ owned place is.get is.waits is.at))
