-- In a finished chip the words of a line where its owner keeps them are the value of the line after all requests.
use Rattle.std.proofs.Common.{◌≡◌, ℕ, ◌<◌, Bool, true, false, not, ◌==◌, ◌||◌, List, [], Option, Some, None, is_some, option_map, unwrap_or, length, get_or, sym, ap, ◌∙◌, refl, subst, arith}
use Rattle.std.proofs.lemmas.Bool.{eq-eqb, false≢true, true≢false}
use Rattle.mesh_gen.specs.declared.request.Request.{Request}
use Rattle.doc_text.specs.Doc.{Doc}
use Rattle.chip_model.specs.declared.line_state.State.{State}
use Rattle.chip_model.specs.declared.line_state.State.TheVariants.{M, O, S}
use Rattle.chip_model.specs.declared.owner.Owner.{Owner}
use Rattle.chip_model.specs.declared.owner.Owner.TheVariants.{Memory, Tile}
use Rattle.chip_model.specs.Chip.{Chip, chip_of, tile_count, home}
use Rattle.chip_model.specs.Cache.{Held, is_shared, lookup}
use Rattle.chip_model.specs.Records.{LineRecord}
use Rattle.chip_model.specs.Node.{Node}
use Rattle.chip_model.specs.Units.{UnitState}
use Rattle.chip_model.specs.ChipState.{ChipState, finished}
use Rattle.chip_model.specs.Ownership.{is_tile, owner, is_owned_copy, delivered_to}
use Rattle.chip_model.specs.Suppliers.{last_written_back, has_come, is_fresh_by}
use Rattle.chip_model.specs.Values.{CopyHasValue, RecordHasValue}
use Rattle.chip_model.specs.Witness.{line_value}
use Rattle.chip_model.specs.Reports.{words_held, words_recorded, words_of_owner, final_words}
use Rattle.chip_model.specs.ChipInvariant.{InOrderChipHolds}
use Rattle.chip_laws.specs.DocFits.{DocFits}
use Rattle.chip_laws.proofs.DoneUnits.{all_delivered, only_copies}
use Rattle.chip_laws.proofs.NodeMessages.{home_inside}
use Rattle.chip_laws.proofs.RequestsInside.{tile_of}
use Rattle.supply_laws.proofs.OwnerGets.{owner_inside}
use Rattle.supply_laws.proofs.ReachedWords.{reached_none}
use Rattle.supply_laws.proofs.WordsDue.{due}
use Rattle.value_laws.proofs.Finished.{unit_done, none_in_flight, none_to_come}

-- ---- a line that a tile owns

owned_of : (copy : Option Held) → is_owned_copy copy ≡ true → (held : Held) × (copy ≡ Some held) × (is_shared held.state ≡ false)
owned_of None e = absurd (false≢true e)
owned_of (Some held) e = (held, refl, state held.state e) where
  state : (x : State) → not (is_shared x) ≡ true → is_shared x ≡ false
  state M e = refl
  state O e = refl
  state S e = absurd (false≢true e)

copy_value : (d : Doc) (s : ChipState) (node : Node) (line : ℕ) (held : Held) (state : State) → is_shared state ≡ false → CopyHasValue d s node line held state
    → held.words ≡ line_value d s.accesses line node.delivered
copy_value d s node line held M e h = h.value
copy_value d s node line held O e h = h.value
copy_value d s node line held S e h = absurd (true≢false e)

tile_words : (d : Doc) (s : ChipState) (line t : ℕ) → DocFits d → InOrderChipHolds d s → finished s ≡ true → owner line s.network.ordered ≡ Tile t
    → words_of_owner (chip_of d) s line (Tile t) ≡ line_value d s.accesses line (length s.network.ordered)
tile_words d s line t fits h over is_owner =
    let tile = tile_of d s t h.protocol (owner_inside d s line t fits h.protocol is_owner) in
    let holds = tile.holds in
    let done = unit_done s t tile.unit over tile.unit_at in
    let owned : is_owned_copy (lookup tile.unit.node.chip tile.unit.node.side.cache line) ≡ true =
    sym (only_copies s.network.ordered tile.unit line done)
    ∙ holds.serves.owns.lines line
    ∙ ap (λ (requests : List Request). is_tile tile.unit.node.tile (owner line requests)) (all_delivered s.network.ordered tile.unit done)
    ∙ ap (is_tile tile.unit.node.tile) is_owner
    ∙ eq-eqb t tile.unit.node.tile (sym holds.node.agrees.tile) in
    let (held, here, exclusive) = owned_of (lookup tile.unit.node.chip tile.unit.node.side.cache line) owned in
    let value = copy_value d s tile.unit.node line held held.state exclusive ((h.values.nodes t tile.unit tile.unit_at).copies line held here) in
    ap (λ (o : Option UnitState). unwrap_or (option_map (λ (x : UnitState). words_held (lookup (chip_of d) x.node.side.cache line)) o) []) tile.unit_at
    ∙ ap (λ (chip : Chip). words_held (lookup chip tile.unit.node.side.cache line)) (sym holds.node.chip)
    ∙ ap words_held here
    ∙ value
    ∙ ap (line_value d s.accesses line) done.delivered

-- ---- a line that the memory owns

record_of : (o : Option LineRecord) → is_some o ≡ true → (r : LineRecord) × (o ≡ Some r)
record_of None e = absurd (false≢true e)
record_of (Some r) e = (r, refl)

-- where no words are on their way, those of the last write-back have come
come_at_end : (s : ChipState) (line : ℕ) (o : Option ℕ) → due s line ≡ 0 → has_come s line true o ≡ true
come_at_end s line None none = refl
come_at_end s line (Some place) none = reached_none s line place none

memory_words : (d : Doc) (s : ChipState) (line : ℕ) → DocFits d → InOrderChipHolds d s → finished s ≡ true → line < d.lines
    → owner line s.network.ordered ≡ Memory
    → words_of_owner (chip_of d) s line Memory ≡ line_value d s.accesses line (length s.network.ordered)
memory_words d s line fits h over small is_owner =
    let tile = tile_of d s (home (chip_of d) line) h.protocol (home_inside (chip_of d) line fits.chip.controllers) in
    let holds = tile.holds in
    let done = unit_done s (home (chip_of d) line) tile.unit over tile.unit_at in
    let within : line < tile.unit.node.chip.lines = subst (λ (chip : Chip). line < chip.lines) (sym holds.node.chip) small in
    let at_home : (home tile.unit.node.chip line == tile.unit.node.tile) ≡ true =
    eq-eqb (home tile.unit.node.chip line) tile.unit.node.tile (ap (λ (chip : Chip). home chip line) holds.node.chip ∙ sym holds.node.agrees.tile) in
    let (r, here) = record_of (get_or tile.unit.node.records line None) (holds.node.fits.lines.records line within ∙ at_home) in
    let owner_is : r.owner ≡ Memory = holds.serves.owns.records line r here ∙ ap (owner line) (all_delivered s.network.ordered tile.unit done) ∙ is_owner in
    let none : due s line ≡ 0 = omega (arith, none_in_flight s line over, none_to_come d s line fits h.protocol over) in
    let fresh : r.fresh ≡ true =
    holds.serves.fresh line r here
    ∙ ap (is_fresh_by s tile.unit.node line) owner_is
    ∙ come_at_end s line (last_written_back line (delivered_to s.network.ordered tile.unit.node)) none in
    let value = subst (λ (o : Owner). RecordHasValue d s tile.unit.node line r o) owner_is
    ((h.values.nodes (home (chip_of d) line) tile.unit tile.unit_at).records line r here fresh) in
    ap (λ (o : Option UnitState). unwrap_or (option_map (λ (x : UnitState). words_recorded (get_or x.node.records line None)) o) []) tile.unit_at
    ∙ ap words_recorded here
    ∙ value.value
    ∙ ap (line_value d s.accesses line) done.delivered

-- ---- both

-- the words of a line at the end
pub words_at_end : (d : Doc) (s : ChipState) (line : ℕ) → DocFits d → InOrderChipHolds d s → finished s ≡ true → line < d.lines
    → final_words (chip_of d) s line ≡ line_value d s.accesses line (length s.network.ordered)
words_at_end d s line fits h over small = by (owner line s.network.ordered) refl where
  by : (o : Owner) → owner line s.network.ordered ≡ o → words_of_owner (chip_of d) s line o ≡ line_value d s.accesses line (length s.network.ordered)
  by Memory is = memory_words d s line fits h over small is
  by (Tile t) is = tile_words d s line t fits h over is
