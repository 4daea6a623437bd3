-- Where neither network has anything left to do and no queue has a message: nothing is on its way, and nobody waits at a home.
use Rattle.std.proofs.Common.{◌≡◌, ℕ, ◌<◌, Bool, true, false, List, [], Option, Some, None, length, take, refl, ◌∙◌, ap, arith}
use Rattle.std.specs.Prelude.{slice_get, ◌&&◌, ◌==◌, nat_le, count_by, slice_index_or, if◌then◌else◌}
use Rattle.std.proofs.lemmas.Bool.Decides.{nat_tests}
use Rattle.std.proofs.lemmas.Option.{slice_get_within}
use Rattle.mesh_gen.specs.declared.kind.Kind.{Kind}
use Rattle.mesh_gen.specs.declared.kind.Kind.TheVariants.{GetS, GetM, PutM}
use Rattle.mesh_gen.specs.declared.msg.Msg.{Msg}
use Rattle.mesh_gen.specs.declared.request.Request.{Request}
use Rattle.mesh_gen.specs.Ports.{count_if}
use Rattle.vc_bank.specs.Places.{at}
use Rattle.vc_bank.proofs.PlaceLaws.{weigh_none}
use Rattle.doc_text.specs.Doc.{Doc}
use Rattle.chip_model.specs.declared.owner.Owner.{Owner}
use Rattle.chip_model.specs.declared.owner.Owner.TheVariants.{Memory, Tile}
use Rattle.chip_model.specs.Chip.{chip_of, tile_count}
use Rattle.chip_model.specs.Node.{Node}
use Rattle.chip_model.specs.Records.{LineRecord}
use Rattle.chip_model.specs.Units.{UnitState}
use Rattle.chip_model.specs.ChipState.{ChipState}
use Rattle.chip_model.specs.Ownership.{owner, owner_after, owner_by}
use Rattle.chip_model.specs.Bookkeeping.{is_get_of}
use Rattle.chip_model.specs.Suppliers.{delivered_at, count_of, supplier, is_to_come_at, is_to_come, is_data_for, data_in_channels, is_back_for, is_undelivered_at}
use Rattle.chip_model.specs.Suppliers.{is_undelivered, places_written_back, last_written_back, waiters_after}
use Rattle.chip_model.specs.ChipInvariant.{ProtocolHolds}
use Rattle.chip_laws.specs.DocFits.{DocFits}
use Rattle.chip_laws.proofs.NodeMessages.{home_inside}
use Rattle.chip_laws.proofs.OrderFrames.{holds_at}
use Rattle.chip_laws.proofs.OrderLists.{get_take}
use Rattle.chip_laws.proofs.RequestsInside.{tile_of}
use Rattle.chip_laws.proofs.OrderedTiles.{source_inside}
use Rattle.supply_laws.proofs.WordsDue.{due}
use Rattle.supply_laws.proofs.ReachedWords.{reached_none}
use Rattle.flow_laws.specs.NetworkMoves.{NetworkRests}
use Rattle.flow_laws.specs.MessageMoves.{NoMessages}
use Rattle.flow_laws.proofs.ListSums.{sum_none, count_none, fold_keeps}

pub record IsQuiet (d : Doc) (s : ChipState) : Type 0 where
  pub doc : DocFits d
  pub holds : ProtocolHolds d s
  pub requests : NetworkRests s.network
  pub replies : NoMessages s.replies
  pub queues : (t : ℕ) (unit : UnitState) → slice_get s.units t ≡ Some unit → unit.node.out ≡ []

-- ---- every tile has delivered the whole order
pub delivered_all : {d : Doc} {s : ChipState} → IsQuiet d s → (t : ℕ) (unit : UnitState) → slice_get s.units t ≡ Some unit → unit.node.delivered ≡ length s.network.ordered
delivered_all {d} {s} quiet t unit there =
    let here = holds_at d s quiet.holds t unit there in
    here.holds.node.agrees.counts ∙ quiet.requests.all.delivered t here.interface here.at

all_delivered_at : {d : Doc} {s : ChipState} → IsQuiet d s → (t : ℕ) → t < tile_count (chip_of d) → delivered_at s t ≡ length s.network.ordered
all_delivered_at {d} {s} quiet t inside =
    let tile = tile_of d s t quiet.holds inside in
    ap count_of tile.unit_at ∙ delivered_all quiet t tile.unit tile.unit_at

-- ---- an owner is a tile, so no get is still to come to its supplier
abbrev OwnerInside : ℕ → Owner → Type 0
OwnerInside n Memory = Unit {0}
OwnerInside n (Tile t) = t < n

inside_by : (n : ℕ) (source : ℕ) (kind : Kind) (o : Owner) → source < n → OwnerInside n o → OwnerInside n (owner_by source kind o)
inside_by n source GetS o below inside = inside
inside_by n source GetM o below inside = below
inside_by n source PutM Memory below inside = tt
inside_by n source PutM (Tile t) below inside = by (t == source)
  where
    by : (b : Bool) → OwnerInside n (if b then Memory else Tile t)
    by true = tt
    by false = inside

inside_after : (n line : ℕ) (o : Owner) (q : Request) → q.source < n → OwnerInside n o → OwnerInside n (owner_after line o q)
unfolding owner_after
inside_after n line o q below inside = by (q.line == line)
  where
    by : (b : Bool) → OwnerInside n (if b then owner_by q.source q.kind o else o)
    by true = inside_by n q.source q.kind o below inside
    by false = inside

owner_inside : (n line : ℕ) (requests : List Request) → ((k : ℕ) (q : Request) → slice_get requests k ≡ Some q → q.source < n) → OwnerInside n (owner line requests)
unfolding owner
owner_inside n line requests each = fold_keeps (OwnerInside n) (owner_after line) requests Memory tt (λ k q o there inside. inside_after n line o q (each k q there) inside)

supplier_inside : (d : Doc) → DocFits d → (line : ℕ) (o : Owner) → OwnerInside (tile_count (chip_of d)) o → supplier (chip_of d) line o < tile_count (chip_of d)
supplier_inside d fits line Memory inside = home_inside (chip_of d) line fits.chip.controllers
supplier_inside d fits line (Tile t) inside = inside

not_past : (b : Bool) (count place : ℕ) → place < count → (b && nat_le count place) ≡ false
not_past true count place below = grind (arith, nat_tests)
not_past false count place below = refl

pub none_to_come : {d : Doc} {s : ChipState} → IsQuiet d s → (t place : ℕ) → place < length s.network.ordered → is_to_come (chip_of d) s t place ≡ false
none_to_come {d} {s} quiet t place below = by (slice_get s.network.ordered place)
  where
    sources : (k : ℕ) (q : Request) → slice_get (take place s.network.ordered) k ≡ Some q → q.source < tile_count (chip_of d)
    sources k q there = source_inside d s k q quiet.doc quiet.holds (get_take s.network.ordered place k q there)

    by : (found : Option Request) → is_to_come_at (chip_of d) s t place found ≡ false
    by None = refl
    by (Some q) =
        let inside = supplier_inside d quiet.doc q.line (owner q.line (take place s.network.ordered)) (owner_inside (tile_count (chip_of d)) q.line (take place s.network.ordered) sources) in
        let all = all_delivered_at quiet (supplier (chip_of d) q.line (owner q.line (take place s.network.ordered))) inside in
        rw all (not_past (is_get_of t q) (length s.network.ordered) place below)

-- ---- no message is on its way
no_message : {d : Doc} {s : ChipState} → IsQuiet d s → (r p slot : ℕ) (msg : Msg) → at s.replies r p slot ≡ Some msg → ⊥
no_message quiet r p slot msg stands = let none = quiet.replies r p slot in cc

pub no_data : {d : Doc} {s : ChipState} → IsQuiet d s → (t : ℕ) → data_in_channels s t ≡ 0
no_data {s = s} quiet t = weigh_none (λ router port slot msg. count_if (is_data_for t msg)) s.replies (λ r p slot msg stands. absurd (no_message quiet r p slot msg stands))

none_undelivered : {d : Doc} {s : ChipState} → IsQuiet d s → (place : ℕ) → is_undelivered s place ≡ false
none_undelivered {d} {s} quiet place = by (slice_get s.network.ordered place) refl
  where
    by : (found : Option Request) → slice_get s.network.ordered place ≡ found → is_undelivered_at s place found ≡ false
    by None is = refl
    by (Some q) is =
        let all = all_delivered_at quiet q.source (source_inside d s place q quiet.doc quiet.holds is) in
        rw all (not_past true (length s.network.ordered) place (slice_get_within s.network.ordered place q is))

no_write_backs : {d : Doc} {s : ChipState} → IsQuiet d s → (line : ℕ) → due s line ≡ 0
no_write_backs {s = s} quiet line =
    let queued = sum_none (λ (unit : UnitState). count_by (is_back_for line) unit.node.out) s.units (λ t unit there. ap (count_by (is_back_for line)) (quiet.queues t unit there)) in
    let standing = weigh_none (λ router port slot msg. count_if (is_back_for line msg)) s.replies (λ r p slot msg stands. absurd (no_message quiet r p slot msg stands)) in
    let coming = count_none (is_undelivered s) (places_written_back line s.network.ordered) (λ k place there. none_undelivered quiet place) in
    omega arith

-- ---- so nobody waits at a record
nobody_after : {d : Doc} {s : ChipState} → IsQuiet d s → (node : Node) (line : ℕ) (last : Option ℕ) → waiters_after s node line last ≡ []
nobody_after quiet node line None = refl
nobody_after {s = s} quiet node line (Some place) = rw (reached_none s line place (no_write_backs quiet line)) refl

pub no_waiters : {d : Doc} {s : ChipState} → IsQuiet d s → (u : ℕ) (unit : UnitState) → slice_get s.units u ≡ Some unit → (line : ℕ) (r : LineRecord)
    → slice_index_or unit.node.records line None ≡ Some r → r.waiters ≡ []
no_waiters {d} {s} quiet u unit there line r is = by r.fresh ((holds_at d s quiet.holds u unit there).holds.serves.waiters line r is)
  where
    by : (fresh : Bool) → r.waiters ≡ (if fresh then [] else waiters_after s unit.node line (last_written_back line (take unit.node.delivered s.network.ordered))) → r.waiters ≡ []
    by true is = is
    by false is = is ∙ nobody_after quiet unit.node line _
