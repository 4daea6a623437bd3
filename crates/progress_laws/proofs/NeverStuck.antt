-- Until the chip is finished some event is possible.
use Rattle.std.proofs.Common.{◌≡◌, ◌⊎◌, ℕ, ◌<◌, Bool, true, false, List, [], ◌∷◌, Option, Some, None, length, get_or, refl, sym, ◌∙◌, ap, subst, inl, inr, arith}
use Rattle.std.specs.Prelude.{slice_get, is_some, is_none, ◌&&◌, ◌||◌, not, nat_lt}
use Rattle.std.specs.List.{list_all}
use Rattle.std.proofs.lemmas.Bool.{ltb-true, ltb-false, eq-eqb}
use Rattle.std.proofs.lemmas.List.{length-replicate}
use Rattle.std.proofs.lemmas.Option.{get_or_from_slice_get}
use Rattle.mesh_gen.specs.declared.kind.Kind.{Kind}
use Rattle.mesh_gen.specs.declared.msg.Msg.{Msg}
use Rattle.mesh_gen.specs.declared.port.Port.TheVariants.{L}
use Rattle.mesh_gen.specs.declared.request.Request.{Request}
use Rattle.mesh_gen.specs.Ports.{port_number}
use Rattle.vc_bank.specs.Channels.{Channels, slots_at, lowest_free, normal_slots}
use Rattle.vc_bank.specs.Places.{Network, at}
use Rattle.report_text.specs.declared.event.Event.TheVariants.{Core, Inject, Send}
use Rattle.doc_text.specs.Doc.{Doc}
use Rattle.chip_model.specs.declared.net_copy.NetCopy.{NetCopy}
use Rattle.chip_model.specs.Chip.{Chip, chip_of, tile_count}
use Rattle.chip_model.specs.Copies.{channels_of}
use Rattle.chip_model.specs.Replies.{after_send, is_empty}
use Rattle.chip_model.specs.OrderedNetwork.{next_request, after_inject}
use Rattle.chip_model.specs.Misses.{wanted}
use Rattle.chip_model.specs.Node.{waits_for_any, holds_back}
use Rattle.chip_model.specs.Units.{UnitState, Behaviour}
use Rattle.chip_model.specs.ChipState.{ChipState, is_done, finished}
use Rattle.chip_model.specs.Events.{unit_at, step}
use Rattle.chip_model.specs.Runs.{enabled}
use Rattle.chip_model.specs.BehaviourLaws.{HasWays, KeepsLaws}
use Rattle.chip_model.specs.ChipInvariant.{ProtocolHolds}
use Rattle.router_xy.proofs.Steps.{can_enter}
use Rattle.window_core.proofs.Steps.{there_too}
use Rattle.net_iface.proofs.Steps.{is_some-after_inject}
use Rattle.net_iface.proofs.Places.{item_at}
use Rattle.chip_laws.specs.DocFits.{DocFits}
use Rattle.chip_laws.specs.Meetings.{UnitsFit}
use Rattle.chip_laws.proofs.OrderFrames.{holds_at}
use Rattle.chip_laws.proofs.RequestsInside.{tile_of_unit}
use Rattle.flow_laws.specs.NetworkMoves.{NetworkMoves, NetworkRests}
use Rattle.flow_laws.specs.MessageMoves.{MessageMoves, NoMessages}
use Rattle.progress_laws.specs.Possible.{SomeIsEnabled}
use Rattle.flow_laws.proofs.Searches.{Passes, NonePasses, search_list}
use Rattle.flow_laws.proofs.ListSums.{all_pass}
use Rattle.flow_laws.proofs.RouterChannels.{bank_there, normal_there}
use Rattle.flow_laws.proofs.NetworkMoves.{network_moves}
use Rattle.flow_laws.proofs.MessageMoves.{PortIs, free, full, port_is, reply_port_is, message_moves}
use Rattle.progress_laws.proofs.EnabledEvents.{network_enabled, message_enabled}
use Rattle.progress_laws.proofs.QuietStates.{IsQuiet, delivered_all}
use Rattle.progress_laws.proofs.IdleUnits.{waits_for_nothing}

-- ---- a message that waits to be sent
send_enabled : (b : Behaviour) (chip : Chip) (s : ChipState) (t : ℕ) (unit : UnitState) (msg : Msg) (slot : ℕ) → slice_get s.units t ≡ Some unit → slice_get unit.node.out 0 ≡ Some msg
    → lowest_free (channels_of s.replies t) (port_number L) ≡ Some slot → enabled b chip s (Send t) ≡ true
unfolding enabled step unit_at after_send
send_enabled b chip s t unit msg slot there first lowest = rw (there, first, lowest) refl

queue_sends : (b : Behaviour) (d : Doc) (s : ChipState) → DocFits d → ProtocolHolds d s → NoMessages s.replies → (t : ℕ) (unit : UnitState) → slice_get s.units t ≡ Some unit
    → 0 < length unit.node.out → SomeIsEnabled b (chip_of d) s
queue_sends b d s fits holds still t unit there some =
    by (reply_port_is (chip_of d).grid d.data_vcs s.replies t L fits.chip.data_vcs holds.network.replies (tile_of_unit d s t unit holds there))
  where
    by : PortIs s.replies t (port_number L) → SomeIsEnabled b (chip_of d) s
    by (free slot lowest) = let first = item_at unit.node.out 0 some in record { event = Send t; possible = send_enabled b (chip_of d) s t unit first.item slot there first.there lowest }
    by (full msg stands) = absurd (let none = still t (port_number L) 0 in cc)

-- ---- a request that waits to enter
inject_enabled : (b : Behaviour) (chip : Chip) (s : ChipState) (t : ℕ) (unit : UnitState) (asked : Kind × ℕ) → slice_get s.units t ≡ Some unit → wanted unit.node.side.misses ≡ Some asked
    → is_some (after_inject chip s.network t asked.0 asked.1) ≡ true → enabled b chip s (Inject t) ≡ true
unfolding enabled step unit_at
inject_enabled b chip s t unit asked there is enters = rw (there, is) (there_too (after_inject chip s.network t asked.0 asked.1) _ ∙ enters)

request_enters : (b : Behaviour) {d : Doc} {s : ChipState} → IsQuiet d s → (t : ℕ) (unit : UnitState) → slice_get s.units t ≡ Some unit → (asked : Kind × ℕ)
    → wanted unit.node.side.misses ≡ Some asked → SomeIsEnabled b (chip_of d) s
request_enters b {d} {s} quiet t unit there asked is = by (port_is s.network.copies t (port_number L) slots_some (omega (arith, normal, quiet.doc.chip.vcs)))
  where
    inside : t < tile_count (chip_of d)
    inside = tile_of_unit d s t unit quiet.holds there

    normal : normal_slots (channels_of s.network.copies t) ≡ d.vcs
    normal = normal_there (chip_of d).grid d.vcs true s.network.copies t quiet.holds.network.requests.channels inside

    slots_some : 0 < length (slots_at (channels_of s.network.copies t) (port_number L))
    slots_some =
        let have = quiet.holds.network.requests.channels in
        let long = have.slots t 0 (channels_of s.network.copies t) (bank_there (chip_of d).grid d.vcs true s.network.copies t have inside) ∙ length-replicate {A = Option NetCopy} d.vcs None in
        omega (arith, long, quiet.doc.chip.vcs)

    by : PortIs s.network.copies t (port_number L) → SomeIsEnabled b (chip_of d) s
    by (free slot lowest) =
        let here = holds_at d s quiet.holds t unit there in
        record {
          event = Inject t;
          possible = inject_enabled b (chip_of d) s t unit asked there is
              (is_some-after_inject (chip_of d) s.network t asked.0 asked.1 here.interface here.at
              ∙ sym (can_enter (chip_of d).grid s.network.copies (next_request t here.interface asked.0 asked.1)) ∙ ap is_some lowest);
        }
    by (full copy stands) = absurd (let none = quiet.requests.copies t (port_number L) 0 in cc)

-- ---- a core that has not halted
core_enabled : (b : Behaviour) (chip : Chip) (s : ChipState) (t : ℕ) (unit : UnitState) → slice_get s.units t ≡ Some unit → b.ready unit ≡ true → enabled b chip s (Core t) ≡ true
unfolding enabled step unit_at
core_enabled b chip s t unit there is = rw (there, is) refl

core_works : (b : Behaviour) (laws : KeepsLaws b) {d : Doc} {s : ChipState} → IsQuiet d s → UnitsFit b laws s → (t : ℕ) (unit : UnitState) → slice_get s.units t ≡ Some unit
    → unit.halted ≡ false → waits_for_any unit.node ≡ false
    → SomeIsEnabled b (chip_of d) s
core_works b laws {d} {s} quiet fit t unit there running waits_not = record { event = Core t; possible = core_enabled b (chip_of d) s t unit there (by (b.ready unit) refl) }
  where
    ways : HasWays unit.node
    ways =
        let node = (holds_at d s quiet.holds t unit there).holds.node in
        record {
          cache = node.fits.side.cache;
          sets = subst (λ (c : Chip). 0 < c.sets) (sym node.chip) quiet.doc.chip.sets;
          ways = subst (λ (c : Chip). 0 < c.ways) (sym node.chip) quiet.doc.chip.ways;
        }

    by : (ready : Bool) → b.ready unit ≡ ready → b.ready unit ≡ true
    by true is = is
    by false is =
        absurd (let waits = laws.waits unit (fit t unit there) ways running is in
        let none : (waits_for_any unit.node || holds_back unit.node.out) ≡ false = rw (waits_not, quiet.queues t unit there) refl in
        cc)

-- ---- the end
no_message_stands : (net : Network Msg) → NoMessages net → is_empty net ≡ true
unfolding at
no_message_stands net still =
    all_pass (list_all (list_all is_none)) net (λ r bank bank_is.
    all_pass (list_all is_none) bank (λ p slots slots_is.
    all_pass is_none slots (λ i packet packet_is.
    ap is_none (sym (packet_is_read r bank p slots i packet bank_is slots_is packet_is) ∙ still r p i))))
  where
    packet_is_read : (r : ℕ) (bank : Channels Msg) (p : ℕ) (slots : List (Option Msg)) (i : ℕ) (packet : Option Msg) → slice_get net r ≡ Some bank → slice_get bank p ≡ Some slots
        → slice_get slots i ≡ Some packet
        → get_or (get_or (get_or net r []) p []) i None ≡ packet
    packet_is_read r bank p slots i packet bank_is slots_is packet_is =
        rw (get_or_from_slice_get net r bank [] bank_is, get_or_from_slice_get bank p slots [] slots_is) (get_or_from_slice_get slots i packet None packet_is)

done : (ordered : List Request) (unit : UnitState) → unit.halted ≡ true → waits_for_any unit.node ≡ false → unit.node.out ≡ [] → unit.node.delivered ≡ length ordered → is_done ordered unit ≡ true
done ordered unit halted waits_not empty delivered = rw (halted, waits_not, empty, delivered) (eq-eqb (length ordered) (length ordered) refl)

pub never_stuck : (b : Behaviour) (laws : KeepsLaws b) (d : Doc) (s : ChipState) → DocFits d → ProtocolHolds d s → UnitsFit b laws s → (finished s ≡ true) ⊎ SomeIsEnabled b (chip_of d) s
unfolding finished
never_stuck b laws d s fits holds fit = by_network (network_moves (chip_of d) s.network fits.chip.tiles holds.network.requests)
  where
    queued : ℕ → UnitState → Bool
    queued t unit = nat_lt 0 (length unit.node.out)

    wants : ℕ → UnitState → Bool
    wants t unit = is_some (wanted unit.node.side.misses)

    runs : ℕ → UnitState → Bool
    runs t unit = not unit.halted

    nil_of : {X : Type 0} (xs : List X) → nat_lt 0 (length xs) ≡ false → xs ≡ []
    nil_of [] none = refl
    nil_of (x ∷ xs) none = absurd (let few = ltb-false 0 (length (x ∷ xs)) none in omega arith)

    flipped : (a c : Bool) → not a ≡ c → a ≡ not c
    flipped true c is = ap not is
    flipped false c is = ap not is

    some_of : {X : Type 0} (o : Option X) → is_some o ≡ true → (x : X) × (o ≡ Some x)
    some_of None is = cc
    some_of (Some x) is = (x, refl)

    Ends : Type 0
    Ends = ((list_all (is_done s.network.ordered) s.units && is_empty s.replies) ≡ true) ⊎ SomeIsEnabled b (chip_of d) s

    by_cores : IsQuiet d s → ((t : ℕ) (unit : UnitState) → slice_get s.units t ≡ Some unit → waits_for_any unit.node ≡ false) → Passes runs s.units ⊎ NonePasses runs s.units → Ends
    by_cores quiet idle (inl one) = inr (core_works b laws quiet fit one.place one.item one.there (flipped one.item.halted true one.passes) (idle one.place one.item one.there))
    by_cores quiet idle (inr none) =
        let units = all_pass (is_done s.network.ordered) s.units (λ t unit there.
        done s.network.ordered unit (flipped unit.halted false (none t unit there)) (idle t unit there) (quiet.queues t unit there) (delivered_all quiet t unit there))
        in
        inl (rw (units, no_message_stands s.replies quiet.replies) refl)

    by_wants : IsQuiet d s → Passes wants s.units ⊎ NonePasses wants s.units → Ends
    by_wants quiet (inl one) = let asked = some_of (wanted one.item.node.side.misses) one.passes in inr (request_enters b quiet one.place one.item one.there asked.0 asked.1)
    by_wants quiet (inr none) = by_cores quiet (λ t unit there. waits_for_nothing quiet t unit there (none t unit there)) (search_list runs s.units)

    by_queues : NetworkRests s.network → NoMessages s.replies → Passes queued s.units ⊎ NonePasses queued s.units → Ends
    by_queues rests still (inl one) = inr (queue_sends b d s fits holds still one.place one.item one.there (ltb-true _ _ one.passes))
    by_queues rests still (inr none) =
        by_wants (record { doc = fits; holds = holds; requests = rests; replies = still; queues = λ t unit there. nil_of unit.node.out (none t unit there) }) (search_list wants s.units)

    by_messages : NetworkRests s.network → MessageMoves (chip_of d).grid s.replies ⊎ NoMessages s.replies → Ends
    by_messages rests (inl moves) = inr (message_enabled b (chip_of d) s holds.units moves)
    by_messages rests (inr still) = by_queues rests still (search_list queued s.units)

    by_network : NetworkMoves (chip_of d) s.network ⊎ NetworkRests s.network → Ends
    by_network (inl moves) = inr (network_enabled b (chip_of d) s holds.units moves)
    by_network (inr rests) =
        by_messages rests
        (message_moves (chip_of d).grid d.data_vcs s.replies fits.chip.tiles fits.chip.data_vcs holds.network.replies holds.network.routes (λ r p slot msg stands. (holds.network.messages r p slot msg stands).to))
