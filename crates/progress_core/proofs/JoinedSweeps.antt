-- Sweeps of a machine one after another, and sweeps through events none of which is possible.
use Rattle.std.proofs.Common.{◌≡◌, ℕ, ◌+◌, ◌≤◌, Bool, true, false, List, [], ◌∷◌, ◌++◌, length, map, zero, suc, Some, None, refl, sym, ◌∙◌, ap, subst, arith}
use Rattle.std.specs.Prelude.{slice_get}
use Rattle.std.specs.Bool.{OnTrue}
use Rattle.std.specs.List.{flat_map}
use Rattle.std.proofs.lemmas.List.{append-nil}
use Rattle.std.proofs.lemmas.Grind.{flat_map-append}
use Rattle.std.proofs.Math.Nat.{zero-add}
use Rattle.mesh_gen.specs.declared.port.Port.{Port}
use Rattle.mesh_gen.specs.declared.port.Port.TheVariants.{L, E, W, N, S}
use Rattle.order_tracker.specs.Order.{upwards}
use Rattle.report_text.specs.declared.event.Event.{Event}
use Rattle.report_text.specs.declared.event.Event.TheVariants.{Core, Inject, Post, Take, Eject, Send, Hop, DataHop, DataEject}
use Rattle.doc_text.specs.Doc.{Doc}
use Rattle.chip_model.specs.Chip.{Chip, chip_of}
use Rattle.chip_model.specs.Units.{Behaviour}
use Rattle.chip_model.specs.ChipState.{ChipState}
use Rattle.chip_model.specs.Runs.{after, enabled}
use Rattle.chip_model.specs.Schedules.{swept, hops_from, router_hops, reply_events, tile_slots, output_ports, ports}
use Rattle.machine_core.specs.Machine.{MachineState}
use Rattle.machine_core.specs.Slots.{own_events}
use Rattle.progress_core.specs.Sweeping.{SameMachine, SweepsThrough}
use Rattle.progress_core.proofs.SweptSlots.{swept_parts, swept_idle, refused}

-- what a call tells where it answers yes
pub told : (answer : Bool) (P : Type 0) → answer ≡ true → OnTrue answer P → P
told true P _ p = p
told false P never p = cc

-- the numbers so far, and one more
upwards_more : (first count : ℕ) → upwards first (count + 1) ≡ upwards first count ++ (first + count) ∷ []
upwards_more first zero = ap (λ (n : ℕ). n ∷ []) (omega arith)
upwards_more first (suc count) =
    let next : suc count + 1 ≡ suc (count + 1) = omega arith in
    rw next (ap (λ (ns : List ℕ). first ∷ ns) (upwards_more (first + 1) count ∙ ap (λ (n : ℕ). upwards (first + 1) count ++ n ∷ []) (omega arith)))

one_more : (k : ℕ) → upwards 0 (k + 1) ≡ upwards 0 k ++ k ∷ []
one_more k = upwards_more 0 k ∙ ap (λ (n : ℕ). upwards 0 k ++ n ∷ []) (zero-add k)

flat_more : (events : ℕ → List Event) (k : ℕ) → flat_map events (upwards 0 (k + 1)) ≡ flat_map events (upwards 0 k) ++ events k
flat_more events k =
    ap (flat_map events) (one_more k)
    ∙ flat_map-append events (upwards 0 k) (k ∷ [])
    ∙ ap (λ (last : List Event). flat_map events (upwards 0 k) ++ last) (append-nil (events k))

map_append : (event : ℕ → Event) (xs ys : List ℕ) → map event (xs ++ ys) ≡ map event xs ++ map event ys
map_append event [] ys = refl
map_append event (x ∷ xs) ys = ap (λ (rest : List Event). event x ∷ rest) (map_append event xs ys)

map_more : (event : ℕ → Event) (k : ℕ) → map event (upwards 0 (k + 1)) ≡ map event (upwards 0 k) ++ event k ∷ []
map_more event k = ap (map event) (one_more k) ∙ map_append event (upwards 0 k) (k ∷ [])

module _ (b : Behaviour) (budget : ℕ) where
  -- ---- one sweep after another
  -- no event
  pub sweeps_none : (m : MachineState) → length m.state.journal ≤ budget → SweepsThrough b budget [] m m
  sweeps_none m within = record { same = record { document = refl; room = refl }; swept_is = refl; within = within }

  pub sweeps_join : (xs ys : List Event) (old mid new : MachineState) → SweepsThrough b budget xs old mid → SweepsThrough b budget ys mid new → SweepsThrough b budget (xs ++ ys) old new
  sweeps_join xs ys old mid new first second = record {
    same = record { document = second.same.document ∙ first.same.document; room = second.same.room ∙ first.same.room };
    swept_is =
        second.swept_is ∙ ap (λ (d : Doc). swept b (chip_of d) budget mid.state ys) first.same.document
        ∙ ap (λ (s : ChipState). swept b (chip_of old.document) budget s ys) first.swept_is
        ∙ sym (swept_parts b (chip_of old.document) budget old.state xs ys);
    within = second.within;
  }

  -- events that the chip names, which stays the same
  pub sweeps_of : (events : Chip → List Event) (old mid new : MachineState) → SameMachine old mid → SweepsThrough b budget (events (chip_of mid.document)) mid new → SweepsThrough b budget (events (chip_of old.document)) mid new
  sweeps_of events old mid new same swept = subst (λ (d : Doc). SweepsThrough b budget (events (chip_of d)) mid new) same.document swept

  -- the events so far, and those of one more
  pub sweeps_next : (events : ℕ → List Event) (k : ℕ) (old mid new : MachineState) → SweepsThrough b budget (flat_map events (upwards 0 k)) old mid → SweepsThrough b budget (events k) mid new
      → SweepsThrough b budget (flat_map events (upwards 0 (k + 1))) old new
  sweeps_next events k old mid new first second =
      subst (λ (all : List Event). SweepsThrough b budget all old new) (sym (flat_more events k)) (sweeps_join (flat_map events (upwards 0 k)) (events k) old mid new first second)

  pub sweeps_one_more : (event : ℕ → Event) (k : ℕ) (old mid new : MachineState) → SweepsThrough b budget (map event (upwards 0 k)) old mid → SweepsThrough b budget (event k ∷ []) mid new
      → SweepsThrough b budget (map event (upwards 0 (k + 1))) old new
  sweeps_one_more event k old mid new first second =
      subst (λ (all : List Event). SweepsThrough b budget all old new) (sym (map_more event k)) (sweeps_join (map event (upwards 0 k)) (event k ∷ []) old mid new first second)

  -- ---- events of which none is possible
  pub still_one : (event : Event) (m : MachineState) → length m.state.journal ≤ budget → after b (chip_of m.document) m.state event ≡ None → SweepsThrough b budget (event ∷ []) m m
  still_one event m within none = record {
    same = record { document = refl; room = refl };
    swept_is = sym (swept_idle b (chip_of m.document) budget m.state (event ∷ []) only);
    within = within;
  }
    where
      only : (i : ℕ) (other : Event) → slice_get (event ∷ []) i ≡ Some other → after b (chip_of m.document) m.state other ≡ None
      only zero other there = let same : event ≡ other = cc in subst (λ (e : Event). after b (chip_of m.document) m.state e ≡ None) same none
      only (suc i) other there = cc

  -- which is what is not enabled
  pub still_refused : (event : Event) (m : MachineState) → length m.state.journal ≤ budget → enabled b (chip_of m.document) m.state event ≡ false → SweepsThrough b budget (event ∷ []) m m
  still_refused event m within none = still_one event m within (refused b (chip_of m.document) budget m.state event none)

  still_each : {X : Type 0} (event : X → Event) (m : MachineState) → length m.state.journal ≤ budget → ((x : X) → after b (chip_of m.document) m.state (event x) ≡ None) → (xs : List X) → SweepsThrough b budget (map event xs) m m
  still_each event m within none [] = sweeps_none m within
  still_each event m within none (x ∷ xs) = sweeps_join (event x ∷ []) (map event xs) m m m (still_one (event x) m within (none x)) (still_each event m within none xs)

  still_flat : {X : Type 0} (events : X → List Event) (m : MachineState) → length m.state.journal ≤ budget → ((x : X) → SweepsThrough b budget (events x) m m) → (xs : List X) → SweepsThrough b budget (flat_map events xs) m m
  still_flat events m within none [] = sweeps_none m within
  still_flat events m within none (x ∷ xs) = sweeps_join (events x) (flat_map events xs) m m m (none x) (still_flat events m within none xs)

  -- no copy hops from a channel that owes it to no side, nor from a port or a router whose channels are vacant
  pub still_channel : (m : MachineState) (r : ℕ) (port : Port) (slot : ℕ) → length m.state.journal ≤ budget → ((out : Port) → after b (chip_of m.document) m.state (Hop r port slot out) ≡ None)
      → SweepsThrough b budget (hops_from r port slot) m m
  still_channel m r port slot within none = still_each (Hop r port slot) m within none output_ports

  pub still_port : (m : MachineState) (r : ℕ) (port : Port) (slots : ℕ) → length m.state.journal ≤ budget → ((slot : ℕ) (out : Port) → after b (chip_of m.document) m.state (Hop r port slot out) ≡ None)
      → SweepsThrough b budget (flat_map (hops_from r port) (upwards 0 slots)) m m
  still_port m r port slots within none = still_flat (hops_from r port) m within (λ slot. still_channel m r port slot within (none slot)) (upwards 0 slots)

  pub still_router : (m : MachineState) (r : ℕ) → length m.state.journal ≤ budget → ((port : Port) (slot : ℕ) (out : Port) → after b (chip_of m.document) m.state (Hop r port slot out) ≡ None)
      → SweepsThrough b budget (router_hops (chip_of m.document) r) m m
  still_router m r within none =
      let chip = chip_of m.document in
      sweeps_join (flat_map (hops_from r L) (upwards 0 chip.vcs)) (flat_map (λ port. flat_map (hops_from r port) (upwards 0 (chip.vcs + 1))) output_ports) m m m
      (still_port m r L chip.vcs within (none L))
      (still_flat (λ port. flat_map (hops_from r port) (upwards 0 (chip.vcs + 1))) m within (λ port. still_port m r port (chip.vcs + 1) within (none port)) output_ports)

  -- no message goes on from a port or a router whose channels are vacant
  pub still_messages_at : (event : ℕ → Event) (m : MachineState) (slots : ℕ) → length m.state.journal ≤ budget → ((slot : ℕ) → after b (chip_of m.document) m.state (event slot) ≡ None)
      → SweepsThrough b budget (map event (upwards 0 slots)) m m
  still_messages_at event m slots within none = still_each event m within none (upwards 0 slots)

  pub still_messages : (event : Port → ℕ → Event) (m : MachineState) → length m.state.journal ≤ budget → ((port : Port) (slot : ℕ) → after b (chip_of m.document) m.state (event port slot) ≡ None)
      → SweepsThrough b budget (reply_events (chip_of m.document) event) m m
  still_messages event m within none =
      let slots = (chip_of m.document).data_vcs in
      still_flat (λ port. map (event port) (upwards 0 slots)) m within (λ port. still_messages_at (event port) m slots within (none port)) ports

  -- ---- by ports
  -- the hops of a router, port by port
  pub sweeps_ports : (vcs r : ℕ) (old one two three four new : MachineState) → vcs ≡ (chip_of old.document).vcs
      → SweepsThrough b budget (flat_map (hops_from r L) (upwards 0 vcs)) old one
      → SweepsThrough b budget (flat_map (hops_from r E) (upwards 0 (vcs + 1))) one two
      → SweepsThrough b budget (flat_map (hops_from r W) (upwards 0 (vcs + 1))) two three
      → SweepsThrough b budget (flat_map (hops_from r N) (upwards 0 (vcs + 1))) three four
      → SweepsThrough b budget (flat_map (hops_from r S) (upwards 0 (vcs + 1))) four new
      → SweepsThrough b budget (router_hops (chip_of old.document) r) old new
  sweeps_ports vcs r old one two three four new is own east west north south =
      let at = λ (port : Port). flat_map (hops_from r port) (upwards 0 (vcs + 1)) in
      subst (λ (n : ℕ). SweepsThrough b budget (flat_map (hops_from r L) (upwards 0 n) ++ flat_map (λ port. flat_map (hops_from r port) (upwards 0 (n + 1))) output_ports) old new) is
      (sweeps_join (flat_map (hops_from r L) (upwards 0 vcs)) (at E ++ (at W ++ (at N ++ (at S ++ [])))) old one new own
      (sweeps_join (at E) (at W ++ (at N ++ (at S ++ []))) one two new east
      (sweeps_join (at W) (at N ++ (at S ++ [])) two three new west
      (sweeps_join (at N) (at S ++ []) three four new north
      (sweeps_join (at S) [] four new new south (sweeps_none new south.within))))))

  -- the events of messages, port by port
  pub sweeps_messages : (event : Port → ℕ → Event) (slots : ℕ) (old one two three four new : MachineState) → slots ≡ (chip_of old.document).data_vcs
      → SweepsThrough b budget (map (event L) (upwards 0 slots)) old one
      → SweepsThrough b budget (map (event E) (upwards 0 slots)) one two
      → SweepsThrough b budget (map (event W) (upwards 0 slots)) two three
      → SweepsThrough b budget (map (event N) (upwards 0 slots)) three four
      → SweepsThrough b budget (map (event S) (upwards 0 slots)) four new
      → SweepsThrough b budget (reply_events (chip_of old.document) event) old new
  sweeps_messages event slots old one two three four new is own east west north south =
      let at = λ (port : Port). map (event port) (upwards 0 slots) in
      subst (λ (n : ℕ). SweepsThrough b budget (flat_map (λ port. map (event port) (upwards 0 n)) ports) old new) is
      (sweeps_join (at L) (at E ++ (at W ++ (at N ++ (at S ++ [])))) old one new own
      (sweeps_join (at E) (at W ++ (at N ++ (at S ++ []))) one two new east
      (sweeps_join (at W) (at N ++ (at S ++ [])) two three new west
      (sweeps_join (at N) (at S ++ []) three four new north
      (sweeps_join (at S) [] four new new south (sweeps_none new south.within))))))

  -- the hops of a channel, side by side
  pub sweeps_sides : (r : ℕ) (port : Port) (slot : ℕ) (old one two three new : MachineState)
      → SweepsThrough b budget (Hop r port slot E ∷ []) old one
      → SweepsThrough b budget (Hop r port slot W ∷ []) one two
      → SweepsThrough b budget (Hop r port slot N ∷ []) two three
      → SweepsThrough b budget (Hop r port slot S ∷ []) three new
      → SweepsThrough b budget (hops_from r port slot) old new
  sweeps_sides r port slot old one two three new east west north south =
      sweeps_join (Hop r port slot E ∷ []) (Hop r port slot W ∷ Hop r port slot N ∷ Hop r port slot S ∷ []) old one new east
      (sweeps_join (Hop r port slot W ∷ []) (Hop r port slot N ∷ Hop r port slot S ∷ []) one two new west
      (sweeps_join (Hop r port slot N ∷ []) (Hop r port slot S ∷ []) two three new north south))

  -- the events of a tile that name no channel
  pub sweeps_own : (t : ℕ) (old one two three four five new : MachineState)
      → SweepsThrough b budget (Core t ∷ []) old one
      → SweepsThrough b budget (Inject t ∷ []) one two
      → SweepsThrough b budget (Post t ∷ []) two three
      → SweepsThrough b budget (Take t ∷ []) three four
      → SweepsThrough b budget (Eject t ∷ []) four five
      → SweepsThrough b budget (Send t ∷ []) five new
      → SweepsThrough b budget (own_events t) old new
  sweeps_own t old one two three four five new core inject post take eject send =
      sweeps_join (Core t ∷ []) (Inject t ∷ Post t ∷ Take t ∷ Eject t ∷ Send t ∷ []) old one new core
      (sweeps_join (Inject t ∷ []) (Post t ∷ Take t ∷ Eject t ∷ Send t ∷ []) one two new inject
      (sweeps_join (Post t ∷ []) (Take t ∷ Eject t ∷ Send t ∷ []) two three new post
      (sweeps_join (Take t ∷ []) (Eject t ∷ Send t ∷ []) three four new take
      (sweeps_join (Eject t ∷ []) (Send t ∷ []) four five new eject send))))

  -- all events of a tile
  pub sweeps_tile : (t : ℕ) (old own hopped moved new : MachineState)
      → SweepsThrough b budget (own_events t) old own
      → SweepsThrough b budget (router_hops (chip_of own.document) t) own hopped
      → SweepsThrough b budget (reply_events (chip_of hopped.document) (DataHop t)) hopped moved
      → SweepsThrough b budget (reply_events (chip_of moved.document) (DataEject t)) moved new
      → SweepsThrough b budget (tile_slots (chip_of old.document) t) old new
  sweeps_tile t old own hopped moved new first second third fourth =
      let chip = chip_of old.document in
      let hops = sweeps_of (λ chip. router_hops chip t) old own hopped first.same second in
      let before = sweeps_join (own_events t) (router_hops chip t) old own hopped first hops in
      let messages = sweeps_of (λ chip. reply_events chip (DataHop t)) old hopped moved before.same third in
      let so_far = sweeps_join (own_events t ++ router_hops chip t) (reply_events chip (DataHop t)) old hopped moved before messages in
      sweeps_join (own_events t ++ router_hops chip t ++ reply_events chip (DataHop t)) (reply_events chip (DataEject t)) old moved new so_far
      (sweeps_of (λ chip. reply_events chip (DataEject t)) old moved new so_far.same fourth)
