-- What the copy of a line says of who may write it, as a test, and what a request of another tile makes of it.
use Rattle.std.proofs.Common.{◌≡◌, ℕ, Bool, true, false, cond, refl, sym, ◌∙◌, ap, inl, inr, ◌⊎◌, Option, Some, None, List}
use Rattle.std.specs.Prelude.{◌==◌, ◌&&◌, ◌||◌, not, is_some, if◌then◌else◌}
use Rattle.std.proofs.lemmas.Bool.{cond_both, false≢true, eqb-true, eq-eqb}
use Rattle.mesh_gen.specs.declared.kind.Kind.TheVariants.{GetS, GetM}
use Rattle.mesh_gen.specs.declared.request.Request.{Request}
use Rattle.chip_model.specs.declared.line_state.State.{State}
use Rattle.chip_model.specs.declared.line_state.State.TheVariants.{M, O, S}
use Rattle.chip_model.specs.declared.owner.Owner.{Owner}
use Rattle.chip_model.specs.declared.owner.Owner.TheVariants.{Memory, Tile}
use Rattle.chip_model.specs.Chip.{Chip}
use Rattle.chip_model.specs.Cache.{Held, is_shared, lookup, installed}
use Rattle.chip_model.specs.Misses.{Demand, WriteBack, is_getm, ends_in_getm}
use Rattle.chip_model.specs.Snoop.{CacheSide, OwnedCopy, OpenWrite, OpenRead, Nothing, holding_demand, holding_unowned, holding_by, ordered_for, live_for, holding, snooped_with}
use Rattle.chip_model.specs.Node.{Node}
use Rattle.chip_model.specs.Ownership.{is_tile, writer, is_owned_copy, delivered_to}
use Rattle.chip_model.specs.NodeShape.{SideFits}
use Rattle.chip_model.specs.Writers.{is_ordered_write, writer_for_state, WritersFit}
use Rattle.snoop_core.proofs.CacheMaps.{lookup-line, lookup-without_line, lookup-installed, fits_held}
use Rattle.snoop_core.proofs.HoldingCases.{holding_forms, live_is, ordered_is}
use Rattle.snoop_core.proofs.OwnRequests.{is_gets}
use Rattle.snoop_core.proofs.SnoopSteps.{snoop_forms}

-- ---- the test
abbrev pub is_memory : Owner → Bool
is_memory Memory = true
is_memory (Tile t) = false

-- by the state of a copy, and whether the tile has an ordered demand to write its line
abbrev pub fits_state : ℕ → Bool → State → Owner → Bool
fits_state tile waits M w = is_tile tile w
fits_state tile waits O w = is_memory w
fits_state tile waits S w = is_memory w || (is_tile tile w && waits)

abbrev pub fits_copy : ℕ → Bool → Option Held → Owner → Bool
fits_copy tile waits None w = true
fits_copy tile waits (Some held) w = fits_state tile waits held.state w

-- the copy of a line fits this writer
abbrev pub FitsWriter : Chip → ℕ → CacheSide → ℕ → Owner → Type 0
FitsWriter chip tile side line w = fits_copy tile (is_ordered_write line side.misses.demand) (lookup chip side.cache line) w ≡ true

-- ---- the test is what the invariant says
pub tile_is : (tile : ℕ) (w : Owner) → is_tile tile w ≡ true → w ≡ Tile tile
tile_is tile Memory is = cc
tile_is tile (Tile t) is = ap (λ (n : ℕ). Tile n) (eqb-true t tile is)

is_its : (tile : ℕ) (w : Owner) → w ≡ Tile tile → is_tile tile w ≡ true
is_its tile w is = ap (is_tile tile) is ∙ eq-eqb tile tile refl

memory_is : (w : Owner) → is_memory w ≡ true → w ≡ Memory
memory_is Memory is = refl
memory_is (Tile t) is = cc

shared_is : (tile : ℕ) (waits : Bool) (w : Owner) → (is_memory w || (is_tile tile w && waits)) ≡ true → (w ≡ Memory) ⊎ ((w ≡ Tile tile) × (waits ≡ true))
shared_is tile waits Memory is = inl refl
shared_is tile waits (Tile t) is = by (t == tile) refl is where
  by : (b : Bool) → (t == tile) ≡ b → (b && waits) ≡ true → (Tile t ≡ Memory) ⊎ ((Tile t ≡ Tile tile) × (waits ≡ true))
  by true e i = inr (ap (λ (n : ℕ). Tile n) (eqb-true t tile e), i)
  by false e i = absurd (false≢true i)

shared_fits : (tile : ℕ) (waits : Bool) (w : Owner) → (w ≡ Memory) ⊎ ((w ≡ Tile tile) × (waits ≡ true)) → (is_memory w || (is_tile tile w && waits)) ≡ true
shared_fits tile waits w is = elim is [
  | inl none ↦ ap (λ (o : Owner). is_memory o || (is_tile tile o && waits)) none
  | inr both ↦ ap (λ (o : Owner). is_memory o || (is_tile tile o && waits)) both.0 ∙ ap (λ (b : Bool). b && waits) (eq-eqb tile tile refl) ∙ both.1
]

state_says : (node : Node) (held : Held) (w : Owner) (line : ℕ) (state : State) → held.line ≡ line
    → fits_state node.tile (is_ordered_write line node.side.misses.demand) state w ≡ true → writer_for_state node held state w
state_says node held w line M same is = tile_is node.tile w is
state_says node held w line O same is = memory_is w is
state_says node held w line S same is = elim (shared_is node.tile (is_ordered_write line node.side.misses.demand) w is) [
  | inl none ↦ inl none
  | inr both ↦ inr (both.0, ap (λ (l : ℕ). is_ordered_write l node.side.misses.demand) same ∙ both.1)
]

says_state : (node : Node) (held : Held) (w : Owner) (line : ℕ) (state : State) → held.line ≡ line
    → writer_for_state node held state w → fits_state node.tile (is_ordered_write line node.side.misses.demand) state w ≡ true
says_state node held w line M same is = is_its node.tile w is
says_state node held w line O same is = ap is_memory is
says_state node held w line S same is = shared_fits node.tile (is_ordered_write line node.side.misses.demand) w (elim is [
  | inl none ↦ inl none
  | inr both ↦ inr (both.0, ap (λ (l : ℕ). is_ordered_write l node.side.misses.demand) (sym same) ∙ both.1)
])

pub fits_writer : (ordered : List Request) (node : Node) → WritersFit ordered node → (line : ℕ)
    → FitsWriter node.chip node.tile node.side line (writer line (delivered_to ordered node))
fits_writer ordered node fits line = by (lookup node.chip node.side.cache line) refl where
  by : (copy : Option Held) → lookup node.chip node.side.cache line ≡ copy
      → fits_copy node.tile (is_ordered_write line node.side.misses.demand) copy (writer line (delivered_to ordered node)) ≡ true
  by None is = refl
  by (Some held) is = says_state node held (writer line (delivered_to ordered node)) line held.state
      (lookup-line node.chip node.side.cache line held is) (fits line held is)

pub writers_fit : (ordered : List Request) (node : Node)
    → ((line : ℕ) → FitsWriter node.chip node.tile node.side line (writer line (delivered_to ordered node))) → WritersFit ordered node
writers_fit ordered node fits line held is = state_says node held (writer line (delivered_to ordered node)) line held.state
    (lookup-line node.chip node.side.cache line held is)
    (ap (λ (copy : Option Held). fits_copy node.tile (is_ordered_write line node.side.misses.demand) copy (writer line (delivered_to ordered node))) (sym is) ∙ fits line)

-- ---- a request of another tile
pub other_orders : (chip : Chip) (side : CacheSide) (q : Request) (line : ℕ)
    → is_ordered_write line (snooped_with chip q side (holding chip side q.line) q.kind).side.misses.demand ≡ is_ordered_write line side.misses.demand
other_orders chip side q line = snoop_forms chip side q (λ outcome. is_ordered_write line outcome.side.misses.demand ≡ is_ordered_write line side.misses.demand) (record {
  put = λ kind. refl;
  copy_read = λ kind held there owned. refl;
  copy_written = λ kind held there owned. refl;
  back_read = λ kind back. refl;
  back_written = λ kind copy back stands same. refl;
  list_read = λ kind demand meets writes goes_on. sym (ap (is_ordered_write line) meets.stands);
  list_written = λ kind demand meets writes goes_on. sym (ap (is_ordered_write line) meets.stands);
  read = λ kind. refl;
  once = λ kind demand meets reads. sym (ap (is_ordered_write line) meets.stands);
  shared_written = λ kind unowned. refl;
  nothing_written = λ kind unowned. refl;
})

-- a request to write takes the copy of its line away, and no other one
abbrev pub TakesCopy : Chip → CacheSide → ℕ → ℕ → CacheSide → Type 0
TakesCopy chip side line m after = lookup chip after.cache m ≡ (if m == line then None else lookup chip side.cache m)

takes_none : (chip : Chip) (side : CacheSide) (line m : ℕ) → lookup chip side.cache line ≡ None → TakesCopy chip side line m side
takes_none chip side line m absent = by (m == line) refl where
  by : (b : Bool) → (m == line) ≡ b → lookup chip side.cache m ≡ cond b None (lookup chip side.cache m)
  by true e = ap (lookup chip side.cache) (eqb-true m line e) ∙ absent
  by false e = refl

ended_absent : (chip : Chip) (side : CacheSide) (line : ℕ) (d : Demand) → SideFits chip side → ordered_for line side.misses.demand ≡ Some d
    → ends_in_getm d.list ≡ true → lookup chip side.cache line ≡ None
ended_absent chip side line d fits is ends =
    let o = ordered_is line side.misses.demand d is in
    ap (lookup chip side.cache) (sym o.at) ∙ (fits.demand d o.stands).gone ends

read_absent : (chip : Chip) (side : CacheSide) (line : ℕ) (d : Demand) → SideFits chip side → ordered_for line side.misses.demand ≡ Some d
    → is_getm d.kind ≡ false → lookup chip side.cache line ≡ None
read_absent chip side line d fits is reads =
    let o = ordered_is line side.misses.demand d is in
    let fit = fits.demand d o.stands in
    ap (lookup chip side.cache) (sym o.at) ∙ fit.absent (is_gets chip side.cache d fit reads)

live_absent : (chip : Chip) (side : CacheSide) (line : ℕ) (b : WriteBack) → SideFits chip side → live_for line side.misses.back ≡ Some b
    → lookup chip side.cache line ≡ None
live_absent chip side line b fits is =
    let l = live_is line side.misses.back b is in
    ap (lookup chip side.cache) (sym l.at) ∙ fits.back b l.stands

demand_takes : (chip : Chip) (side : CacheSide) (q : Request) (d : Demand) (m : ℕ) → SideFits chip side → ordered_for q.line side.misses.demand ≡ Some d
    → TakesCopy chip side q.line m (snooped_with chip q side (holding_demand d) GetM).side
demand_takes chip side q d m fits is =
    cond_both (is_getm d.kind) (if ends_in_getm d.list then Nothing else OpenWrite d) (OpenRead d) (λ h. TakesCopy chip side q.line m (snooped_with chip q side h GetM).side)
    (λ writes. cond_both (ends_in_getm d.list) Nothing (OpenWrite d) (λ h. TakesCopy chip side q.line m (snooped_with chip q side h GetM).side)
    (λ ends. takes_none chip side q.line m (ended_absent chip side q.line d fits is ends))
    (λ goes_on. lookup-without_line chip side.cache q.line m))
    (λ reads. takes_none chip side q.line m (read_absent chip side q.line d fits is reads))

unowned_takes : (chip : Chip) (side : CacheSide) (q : Request) (b : Bool) (back : Option WriteBack) (demand : Option Demand) (m : ℕ) → SideFits chip side
    → live_for q.line side.misses.back ≡ back → ordered_for q.line side.misses.demand ≡ demand
    → (b ≡ false → lookup chip side.cache q.line ≡ None)
    → TakesCopy chip side q.line m (snooped_with chip q side (holding_unowned b back demand) GetM).side
unowned_takes chip side q b (Some back) demand m fits live ordered absent = takes_none chip side q.line m (live_absent chip side q.line back fits live)
unowned_takes chip side q b None (Some d) m fits live ordered absent = demand_takes chip side q d m fits ordered
unowned_takes chip side q true None None m fits live ordered absent = lookup-without_line chip side.cache q.line m
unowned_takes chip side q false None None m fits live ordered absent = takes_none chip side q.line m (absent refl)

copy_takes : (chip : Chip) (side : CacheSide) (q : Request) (copy : Option Held) (m : ℕ) → SideFits chip side → lookup chip side.cache q.line ≡ copy
    → TakesCopy chip side q.line m (snooped_with chip q side (holding_by copy (live_for q.line side.misses.back) (ordered_for q.line side.misses.demand)) GetM).side
copy_takes chip side q None m fits is =
    unowned_takes chip side q false (live_for q.line side.misses.back) (ordered_for q.line side.misses.demand) m fits refl refl (λ none. is)
copy_takes chip side q (Some held) m fits is =
    cond_both (is_shared held.state) (holding_unowned true (live_for q.line side.misses.back) (ordered_for q.line side.misses.demand)) (OwnedCopy held.words)
    (λ h. TakesCopy chip side q.line m (snooped_with chip q side h GetM).side)
    (λ shared. unowned_takes chip side q true (live_for q.line side.misses.back) (ordered_for q.line side.misses.demand) m fits refl refl (λ none. cc))
    (λ owned. lookup-without_line chip side.cache q.line m)

pub write_takes : (chip : Chip) (side : CacheSide) (q : Request) (m : ℕ) → SideFits chip side
    → TakesCopy chip side q.line m (snooped_with chip q side (holding chip side q.line) GetM).side
unfolding holding
write_takes chip side q m fits = copy_takes chip side q (lookup chip side.cache q.line) m fits refl

-- a request to read leaves no copy that is the only one
pub record SharesCopy (chip : Chip) (side : CacheSide) (line m : ℕ) (after : CacheSide) : Type 0 where
  pub other : (m == line) ≡ false → lookup chip after.cache m ≡ lookup chip side.cache m
  pub here : (tile : ℕ) (waits : Bool) → (m == line) ≡ true → fits_copy tile waits (lookup chip after.cache m) Memory ≡ true

unowned_fits : (tile : ℕ) (waits : Bool) (copy : Option Held) → is_owned_copy copy ≡ false → fits_copy tile waits copy Memory ≡ true
unowned_fits tile waits None unowned = refl
unowned_fits tile waits (Some held) unowned = by held.state unowned where
  by : (state : State) → not (is_shared state) ≡ false → fits_state tile waits state Memory ≡ true
  by M e = absurd (false≢true (sym e))
  by O e = refl
  by S e = refl

shares_same : (chip : Chip) (side : CacheSide) (line m : ℕ) (after : CacheSide) → after.cache ≡ side.cache → is_owned_copy (lookup chip side.cache line) ≡ false
    → SharesCopy chip side line m after
shares_same chip side line m after same unowned = record {
  other = λ away. ap (λ c. lookup chip c m) same;
  here = λ tile waits at. ap (λ c. fits_copy tile waits (lookup chip c m) Memory) same
      ∙ ap (λ (l : ℕ). fits_copy tile waits (lookup chip side.cache l) Memory) (eqb-true m line at)
      ∙ unowned_fits tile waits (lookup chip side.cache line) unowned;
}

shares_owned : (chip : Chip) (side : CacheSide) (line m : ℕ) (held : Held) (words : List ℕ) → lookup chip side.cache line ≡ Some held
    → SharesCopy chip side line m (record side { cache = installed chip (record { line = line; state = O; words = words }) side.cache })
shares_owned chip side line m held words there =
    let now = lookup-installed chip side.cache (record { line = line; state = O; words = words }) m (fits_held chip side.cache line (ap is_some there)) in
    record {
      other = λ away. now ∙ ap (λ (b : Bool). cond b (Some (record { line = line; state = O; words = words })) (lookup chip side.cache m)) away;
      here = λ tile waits at. ap (λ (copy : Option Held). fits_copy tile waits copy Memory)
          (now ∙ ap (λ (b : Bool). cond b (Some (record { line = line; state = O; words = words })) (lookup chip side.cache m)) at);
    }

pub read_shares : (chip : Chip) (side : CacheSide) (q : Request) (m : ℕ)
    → SharesCopy chip side q.line m (snooped_with chip q side (holding chip side q.line) GetS).side
read_shares chip side q m = holding_forms chip side q.line (λ h. SharesCopy chip side q.line m (snooped_with chip q side h GetS).side) (record {
  owned = λ held there owned. shares_owned chip side q.line m held held.words there;
  live = λ copy back is. shares_same chip side q.line m side refl copy;
  write = λ copy back demand is writes goes_on. shares_same chip side q.line m _ refl copy;
  read = λ copy back demand is reads. shares_same chip side q.line m side refl copy;
  ended = λ copy back demand is writes ends. shares_same chip side q.line m side refl copy;
  shared = λ copy back demand. shares_same chip side q.line m side refl copy;
  absent = λ copy back demand. shares_same chip side q.line m side refl copy;
})
