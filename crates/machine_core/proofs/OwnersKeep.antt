-- In a finished chip the owner of each line keeps its words, and they are the final words.
use Rattle.std.proofs.Common.{◌≡◌, ℕ, ◌<◌, true, ◌==◌, List, [], Option, Some, None, slice_get, is_some, option_map, unwrap_or, get_or, sym}
use Rattle.std.proofs.Common.{ap, ◌∙◌, refl, subst}
use Rattle.std.proofs.lemmas.Bool.{eq-eqb, false≢true}
use Rattle.mesh_gen.specs.declared.request.Request.{Request}
use Rattle.doc_text.specs.Doc.{Doc}
use Rattle.chip_model.specs.declared.owner.Owner.{Owner}
use Rattle.chip_model.specs.declared.owner.Owner.TheVariants.{Memory, Tile}
use Rattle.chip_model.specs.Chip.{Chip, chip_of, tile_count, home}
use Rattle.chip_model.specs.Cache.{Held, lookup}
use Rattle.chip_model.specs.Records.{LineRecord}
use Rattle.chip_model.specs.Units.{UnitState}
use Rattle.chip_model.specs.ChipState.{ChipState}
use Rattle.chip_model.specs.Ownership.{is_tile, owner, owns, is_owned_copy, delivered_to}
use Rattle.chip_model.specs.Reports.{words_held, words_recorded, words_of_owner, final_words}
use Rattle.chip_laws.specs.DoneUnits.{IsDone}
use Rattle.chip_laws.specs.Tiles.{TileOf}
use Rattle.machine_core.specs.FinalWords.{HasCopy, IsKeptBy, OwnerKeeps, EachOwnerKeeps}

-- what the laws below say of a chip: its tiles, its requests and, where it is finished, its units
pub record ChipAtEnd (d : Doc) (s : ChipState) : Type 0 where
  pub tile : (t : ℕ) → t < tile_count (chip_of d) → TileOf d s t
  pub at_home : (line : ℕ) → home (chip_of d) line < tile_count (chip_of d)
  pub inside : (line t : ℕ) → owner line s.network.ordered ≡ Tile t → t < tile_count (chip_of d)
  pub done : (t : ℕ) (unit : UnitState) → slice_get s.units t ≡ Some unit → IsDone s.network.ordered unit
  pub whole : (unit : UnitState) → IsDone s.network.ordered unit → delivered_to s.network.ordered unit.node ≡ s.network.ordered
  pub copies : (unit : UnitState) (line : ℕ) → IsDone s.network.ordered unit
      → owns unit.node.chip unit.node.side line ≡ is_owned_copy (lookup unit.node.chip unit.node.side.cache line)

owned_held : (copy : Option Held) → is_owned_copy copy ≡ true → (held : Held) × (copy ≡ Some held)
owned_held None e = absurd (false≢true e)
owned_held (Some held) e = (held, refl)

-- a tile that owns a line has it in its cache
copy_there : (d : Doc) (s : ChipState) (line t : ℕ) → ChipAtEnd d s → owner line s.network.ordered ≡ Tile t → HasCopy (chip_of d) s line t
copy_there d s line t known is_owner =
    let tile = known.tile t (known.inside line t is_owner) in
    let holds = tile.holds in
    let done = known.done t tile.unit tile.unit_at in
    let owned : is_owned_copy (lookup tile.unit.node.chip tile.unit.node.side.cache line) ≡ true =
    sym (known.copies tile.unit line done)
    ∙ holds.serves.owns.lines line
    ∙ ap (λ (requests : List Request). is_tile tile.unit.node.tile (owner line requests)) (known.whole tile.unit done)
    ∙ ap (is_tile tile.unit.node.tile) is_owner
    ∙ eq-eqb t tile.unit.node.tile (sym holds.node.agrees.tile) in
    let (held, here) = owned_held (lookup tile.unit.node.chip tile.unit.node.side.cache line) owned in
    record { unit = tile.unit; unit_at = tile.unit_at; same = holds.node.chip; held = held; copy = here }

record_there : (o : Option LineRecord) → is_some o ≡ true → (r : LineRecord) × (o ≡ Some r)
record_there None e = absurd (false≢true e)
record_there (Some r) e = (r, refl)

kept_by : (d : Doc) (s : ChipState) (line : ℕ) → ChipAtEnd d s → (o : Owner) → o ≡ owner line s.network.ordered → IsKeptBy (chip_of d) s line o
kept_by d s line known Memory is = tt
kept_by d s line known (Tile t) is = copy_there d s line t known (sym is)

pub owners_keep : (d : Doc) (s : ChipState) → ChipAtEnd d s → EachOwnerKeeps (chip_of d) s
owners_keep d s known line small =
    let tile = known.tile (home (chip_of d) line) (known.at_home line) in
    let holds = tile.holds in
    let done = known.done (home (chip_of d) line) tile.unit tile.unit_at in
    let within : line < tile.unit.node.chip.lines = subst (λ (chip : Chip). line < chip.lines) (sym holds.node.chip) small in
    let at_home : (home tile.unit.node.chip line == tile.unit.node.tile) ≡ true =
    eq-eqb (home tile.unit.node.chip line) tile.unit.node.tile (ap (λ (chip : Chip). home chip line) holds.node.chip ∙ sym holds.node.agrees.tile) in
    let (r, here) = record_there (get_or tile.unit.node.records line None) (holds.node.fits.lines.records line within ∙ at_home) in
    let owner_is : r.owner ≡ owner line s.network.ordered = holds.serves.owns.records line r here ∙ ap (owner line) (known.whole tile.unit done) in
    record {
      unit = tile.unit;
      unit_at = tile.unit_at;
      at_home = r;
      record_is = here;
      owner_is = owner_is;
      kept = kept_by d s line known r.owner owner_is;
    }

-- the final words of a line that the memory owns, and of one that a tile owns
pub final_at_home : (chip : Chip) (s : ChipState) (line : ℕ) (k : OwnerKeeps chip s line) → k.at_home.owner ≡ Memory → final_words chip s line ≡ k.at_home.words
final_at_home chip s line k is =
    ap (words_of_owner chip s line) (sym k.owner_is ∙ is)
    ∙ ap (λ (o : Option UnitState). unwrap_or (option_map (λ (x : UnitState). words_recorded (get_or x.node.records line None)) o) []) k.unit_at
    ∙ ap words_recorded k.record_is

pub final_at_tile : (chip : Chip) (s : ChipState) (line t : ℕ) (k : OwnerKeeps chip s line) (copy : HasCopy chip s line t) → k.at_home.owner ≡ Tile t
    → final_words chip s line ≡ copy.held.words
final_at_tile chip s line t k copy is =
    ap (words_of_owner chip s line) (sym k.owner_is ∙ is)
    ∙ ap (λ (o : Option UnitState). unwrap_or (option_map (λ (x : UnitState). words_held (lookup chip x.node.side.cache line)) o) []) copy.unit_at
    ∙ ap (λ (c : Chip). words_held (lookup c copy.unit.node.side.cache line)) (sym copy.same)
    ∙ ap words_held copy.copy

pub kept_copy : (chip : Chip) (s : ChipState) (line t : ℕ) (k : OwnerKeeps chip s line) → k.at_home.owner ≡ Tile t → HasCopy chip s line t
kept_copy chip s line t k is = subst (IsKeptBy chip s line) is k.kept
