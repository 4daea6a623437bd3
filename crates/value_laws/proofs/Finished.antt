-- A finished chip: each unit has nothing left to do, and no written-back words are on their way.
use Rattle.std.proofs.Common.{◌≡◌, ℕ, Bool, true, false, not, ◌==◌, ◌&&◌, ◌||◌, List, [], ◌∷◌, Option, Some, None, is_some, length, sum_by, count_by}
use Rattle.std.proofs.Common.{slice_get, sym, ap, ◌∙◌, refl, arith}
use Rattle.std.specs.List.{list_all, AllByRecursion}
use Rattle.std.proofs.lemmas.Option.{slice_get_within}
use Rattle.std.proofs.lemmas.Bool.{and_parts, eqb-true, lt-leb, not-true, or_parts}
use Rattle.std.proofs.lemmas.List.Sums.{sum_by-cons}
use Rattle.mesh_gen.specs.declared.request.Request.{Request}
use Rattle.mesh_gen.specs.declared.msg.Msg.{Msg}
use Rattle.mesh_gen.specs.Ports.{count_if}
use Rattle.vc_bank.specs.Places.{Network, at, weigh}
use Rattle.vc_bank.proofs.PlaceLaws.{weigh_none}
use Rattle.reply_net.specs.ReplyNetwork.{message_count}
use Rattle.reply_net.proofs.Empty.{is_empty-count, none_stands}
use Rattle.doc_text.specs.Doc.{Doc}
use Rattle.chip_model.specs.Replies.{is_empty}
use Rattle.chip_model.specs.Units.{UnitState}
use Rattle.chip_model.specs.ChipState.{ChipState, is_done, finished}
use Rattle.chip_model.specs.Suppliers.{count_of, delivered_at, is_back_for, write_backs_in_flight, write_backs_to_come, is_undelivered, is_undelivered_at, places_written_back}
use Rattle.chip_model.specs.ChipInvariant.{ProtocolHolds}
use Rattle.chip_laws.specs.DocFits.{DocFits}
use Rattle.chip_laws.specs.DoneUnits.{IsDone}
use Rattle.chip_laws.proofs.DoneUnits.{done_of}
use Rattle.chip_laws.proofs.Each.{each_at}
use Rattle.chip_laws.proofs.Options.{none_some}
use Rattle.chip_laws.proofs.RequestsInside.{tile_of}
use Rattle.chip_laws.proofs.OrderedTiles.{source_inside}

-- ---- the units

all_pass : {X : Type 0} (p : X → Bool) (xs : List X) → list_all p xs ≡ true → AllByRecursion (λ x. p x ≡ true) xs
all_pass p [] e = tt
all_pass p (x ∷ xs) e = let both = and_parts (p x) (list_all p xs) e in (both.0, all_pass p xs both.1)

abbrev AreDone : ChipState → Type 0
AreDone s = AllByRecursion (λ (unit : UnitState). is_done s.network.ordered unit ≡ true) s.units

are_done : (s : ChipState) → finished s ≡ true → AreDone s × (is_empty s.replies ≡ true)
unfolding finished
are_done s over =
    let both = and_parts (list_all (is_done s.network.ordered) s.units) (is_empty s.replies) over in
    (all_pass (is_done s.network.ordered) s.units both.0, both.1)

pub unit_done : (s : ChipState) (t : ℕ) (unit : UnitState) → finished s ≡ true → slice_get s.units t ≡ Some unit → IsDone s.network.ordered unit
unit_done s t unit over at =
    done_of s.network.ordered unit (each_at (λ (u : UnitState). is_done s.network.ordered u ≡ true) s.units t unit (are_done s over).0 at)

-- ---- the words that are written back

sum_zero : {X : Type 0} (f : X → ℕ) (xs : List X) → AllByRecursion (λ x. f x ≡ 0) xs → sum_by f xs ≡ 0
sum_zero f [] all = refl
sum_zero f (x ∷ xs) all = sum_by-cons f x xs ∙ omega (arith, all.0, sum_zero f xs all.1)

none_queued : (ordered : List Request) (line : ℕ) (units : List UnitState) → AllByRecursion (λ (u : UnitState). is_done ordered u ≡ true) units
    → AllByRecursion (λ (u : UnitState). count_by (is_back_for line) u.node.out ≡ 0) units
none_queued ordered line [] all = tt
none_queued ordered line (u ∷ units) all = (ap (count_by (is_back_for line)) (done_of ordered u all.0).out, none_queued ordered line units all.1)

none_carried : (f : ℕ → ℕ → ℕ → Msg → ℕ) (net : Network Msg) → is_empty net ≡ true → weigh f net ≡ 0
none_carried f net empty =
    let nothing = (none_stands net (message_count net) refl).0 (is_empty-count net ∙ empty) in
    weigh_none f net (λ r p i msg stands. none_some msg (sym (nothing r p i) ∙ stands))

-- none stand in a queue or in a channel
pub none_in_flight : (s : ChipState) (line : ℕ) → finished s ≡ true → write_backs_in_flight s line ≡ 0
none_in_flight s line over =
    let done = are_done s over in
    let queued = sum_zero (λ (unit : UnitState). count_by (is_back_for line) unit.node.out) s.units (none_queued s.network.ordered line s.units done.0) in
    let carried = none_carried (λ router port slot msg. count_if (is_back_for line msg)) s.replies done.1 in
    omega (arith, queued, carried)

is_delivered : (d : Doc) (s : ChipState) (place : ℕ) (o : Option Request) → slice_get s.network.ordered place ≡ o → DocFits d → ProtocolHolds d s
    → finished s ≡ true
    → is_undelivered_at s place o ≡ false
is_delivered d s place None at fits h over = refl
is_delivered d s place (Some q) at fits h over =
    let tile = tile_of d s q.source h (source_inside d s place q fits h at) in
    let is : delivered_at s q.source ≡ length s.network.ordered = ap count_of tile.unit_at ∙ (unit_done s q.source tile.unit over tile.unit_at).delivered in
    let within = slice_get_within s.network.ordered place q at in
    lt-leb (delivered_at s q.source) place (omega (arith, is, within))

none_pass : {X : Type 0} (p : X → Bool) → ((x : X) → p x ≡ false) → (xs : List X) → count_by p xs ≡ 0
none_pass {X = X} p none xs = sum_zero (λ (x : X). count_if (p x)) xs (each xs) where
  each : (ys : List X) → AllByRecursion (λ (x : X). count_if (p x) ≡ 0) ys
  each [] = tt
  each (y ∷ ys) = (ap count_if (none y), each ys)

-- no request is still to write a line back
pub none_to_come : (d : Doc) (s : ChipState) (line : ℕ) → DocFits d → ProtocolHolds d s → finished s ≡ true → write_backs_to_come s line ≡ 0
none_to_come d s line fits h over =
    none_pass (is_undelivered s) (λ place. is_delivered d s place (slice_get s.network.ordered place) refl fits h over)
    (places_written_back line s.network.ordered)
