-- The lines of `deliver`, tile by tile.
use Rattle.std.proofs.Common.{◌≡◌, ℕ, ◌+◌, ◌<◌, ◌≤◌, List, [], ◌∷◌, ◌++◌, length, take, drop, get_or, true, sym, ◌∙◌, ap, append_assoc, arith}
use Rattle.std.specs.Prelude.{slice_index, codes}
use Rattle.std.proofs.lemmas.List.{drop_more, get_or-map, length-map}
use Rattle.std.proofs.lemmas.Option.{slice_get-get_or}
use Rattle.mesh_gen.specs.declared.kind.Kind.TheVariants.{GetS}
use Rattle.mesh_gen.specs.declared.request.Request.{Request}
use Rattle.chip_model.specs.Chip.{Chip, tile_count}
use Rattle.chip_model.specs.OrderedNetwork.{OrderedNetwork, Interface, sources}
use Rattle.chip_model.specs.Delivery.{sources_delivered, delivered_lists}
use Rattle.chip_model.specs.NetworkFits.{NetworkFits}
use Rattle.net_iface.specs.OrderedNet.{delivered_counts}
use Rattle.commands.specs.Entries.{entry_text, entries_text, rest_text}
use Rattle.commands.specs.Deliveries.{tile_line, lines_from}

-- an interface for places that there are not
nobody : Interface
nobody = record { made = []; posted = 0; delivered = 0 }

count_at : (net : OrderedNetwork) (t : ℕ) → t < length net.interfaces → slice_index (delivered_counts net) t ≡ (get_or net.interfaces t nobody).delivered
count_at net t inside = get_or-map (λ (interface : Interface). interface.delivered) net.interfaces t nobody 0 inside

-- a tile has delivered no more than the order has
pub delivered_within : (chip : Chip) (net : OrderedNetwork) (t : ℕ) → NetworkFits chip net → t < tile_count chip → slice_index (delivered_counts net) t ≤ length net.ordered
delivered_within chip net t fits inside =
    let here : t < length net.interfaces = let same = fits.interfaces in omega arith in
    rw (count_at net t here) ((fits.agree t (get_or net.interfaces t nobody) (slice_get-get_or net.interfaces t nobody here)).within)

-- the lists from a tile on: its own, and those after it
pub next_list : (chip : Chip) (net : OrderedNetwork) (t : ℕ) → NetworkFits chip net → t < tile_count chip
    → drop t (delivered_lists net) ≡ sources (take (slice_index (delivered_counts net) t) net.ordered) ∷ drop (t + 1) (delivered_lists net)
next_list chip net t fits inside =
    let here : t < length net.interfaces = let same = fits.interfaces in omega arith in
    let list_is : get_or (delivered_lists net) t [] ≡ sources (take (slice_index (delivered_counts net) t) net.ordered)
    = get_or-map (sources_delivered net) net.interfaces t nobody [] here ∙ ap (λ (count : ℕ). sources (take count net.ordered)) (sym (count_at net t here)) in
    drop_more (delivered_lists net) t [] (omega (arith, length-map net.interfaces (sources_delivered net)))
    ∙ ap (λ (list : List ℕ). list ∷ drop (t + 1) (delivered_lists net)) list_is

-- the lines from a tile on: its own, and those after it
pub next_line : (chip : Chip) (net : OrderedNetwork) (t : ℕ) (delivered : List Request) → NetworkFits chip net → t < tile_count chip → delivered ≡ take (slice_index (delivered_counts net) t) net.ordered
    → lines_from t (drop t (delivered_lists net)) ≡ tile_line t (sources delivered) ++ lines_from (t + 1) (drop (t + 1) (delivered_lists net))
next_line chip net t delivered fits inside is =
    ap (lines_from t) (next_list chip net t fits inside)
    ∙ ap (λ (requests : List Request). tile_line t (sources requests) ++ lines_from (t + 1) (drop (t + 1) (delivered_lists net))) (sym is)

-- the request at a place, as the code reads it
abbrev pub request_at : List Request → ℕ → Request
request_at requests i = get_or requests i (record { source = 0; number = 0; kind = GetS; line = 0 })

-- what is left of a line: the source of the next request, and the rest
pub next_source : (requests : List Request) (i : ℕ) → i < length requests
    → rest_text true (sources (drop i requests)) ≡ entry_text true (request_at requests i).source ++ rest_text true (sources (drop (i + 1) requests))
next_source requests i inside =
    ap (λ (rest : List Request). rest_text true (sources rest)) (drop_more requests i (record { source = 0; number = 0; kind = GetS; line = 0 }) inside)
    ∙ append_assoc (entry_text true (request_at requests i).source) (entries_text true (sources (drop (i + 1) requests))) (codes "\n")
