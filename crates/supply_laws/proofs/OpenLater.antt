-- No event completes a get that stands after a GetM of its line that is not complete, or after the last request that wrote
-- the line back as long as its words are to reach memory.
use Rattle.std.proofs.Common.{◌≡◌, ◌≢◌, ℕ, ◌+◌, ◌<◌, ◌≤◌, Bool, true, false, cond, refl, sym, ◌∙◌, ap, subst, arith, inl, inr, Option, Some, None, List, [], take, length}
use Rattle.std.specs.Prelude.{◌==◌, ◌&&◌, is_some, filter, slice_get, slice_index_or}
use Rattle.std.proofs.lemmas.Bool.{false≢true, both_ways, and_parts, cases_eq, cases_lt, eq-eqb, eqb-true}
use Rattle.std.proofs.lemmas.Option.{same_Some, slice_get_within}
use Rattle.mesh_gen.specs.declared.request.Request.{Request}
use Rattle.doc_text.specs.Doc.{Doc}
use Rattle.chip_model.specs.declared.owner.Owner.{Owner}
use Rattle.chip_model.specs.declared.owner.Owner.TheVariants.{Memory, Tile}
use Rattle.chip_model.specs.declared.waiting.Waiting.{Waiting}
use Rattle.chip_model.specs.Chip.{Chip, chip_of, home}
use Rattle.chip_model.specs.Records.{LineRecord}
use Rattle.chip_model.specs.Node.{Node}
use Rattle.chip_model.specs.Units.{UnitState}
use Rattle.chip_model.specs.ChipState.{ChipState}
use Rattle.chip_model.specs.Ownership.{owner, delivered_to}
use Rattle.chip_model.specs.Bookkeeping.{is_get, between, up_to_getm, waiting_for}
use Rattle.chip_model.specs.Suppliers.{count_of, delivered_at, supplier, places_in, writes_back, last_written_back, next_written_back, has_come, is_fresh_by, waiters_after, place_of_get, IsOpen}
use Rattle.chip_model.specs.ChipInvariant.{ProtocolHolds}
use Rattle.chip_laws.specs.DocLaws.{DocLaws}
use Rattle.chip_laws.proofs.NodeMessages.{home_inside}
use Rattle.chip_laws.proofs.OrderFrames.{holds_at, known_of}
use Rattle.chip_laws.proofs.RequestsInside.{tile_of, request_inside}
use Rattle.supply_laws.specs.OwnerGets.{NoneFrom, OwnerGet}
use Rattle.supply_laws.specs.OpenGets.{NoneWritesBackBefore}
use Rattle.supply_laws.proofs.LastPlaces.{IsLastOf, LastIs, last_unique, next_unique}
use Rattle.supply_laws.proofs.WriteBackPlaces.{last_of_all, last_before, next_after}
use Rattle.supply_laws.proofs.ReachedWords.{IsDue, is_not_reached}
use Rattle.supply_laws.proofs.LaterBacks.{IsOpenWrite, none_after_open}
use Rattle.supply_laws.proofs.OwnerGets.{owner_get, memory_owns, back_of}
use Rattle.supply_laws.proofs.PlaceEvents.{EndsBy}
use Rattle.supply_laws.proofs.PendingAnswers.{pending, recorded_pending, waits_among, OpenAt, to_come, reads_between, tile_supplies, never_ends}

no_tile : {P : Type 0} (o : Owner) (t : ℕ) → o ≡ Memory → o ≡ Tile t → P
no_tile o t memory tile = absurd (let same : Memory ≡ Tile t = sym memory ∙ tile in cc)

one_tile : (o : Owner) (t v : ℕ) → o ≡ Tile t → o ≡ Tile v → t ≡ v
one_tile o t v is also = let same : Tile t ≡ Tile v = sym is ∙ also in cc

-- a GetM is no request that writes a line back
no_back : {P : Type 0} (line place : ℕ) (ordered : List Request) (q : Request) → slice_get ordered place ≡ Some q → is_get q.kind ≡ true → writes_back line ordered place ≡ true → P
no_back line place ordered q at get writes =
    let back = back_of line place ordered writes in
    let same : q ≡ back.put = same_Some q back.put (sym at ∙ back.at) in
    absurd (false≢true (sym (ap (λ (x : Request). is_get x.kind) same ∙ ap is_get back.kind) ∙ get))

module _ (d : Doc) (s : ChipState) (fits : DocLaws d) (holds : ProtocolHolds d s) (none : NoneWritesBackBefore s) where
  -- ---- after a GetM that is not complete a tile owns the line, whose own GetM is not complete
  write_supplies : (line g place v : ℕ) (first : IsOpenWrite s line g) → g < place → (from : OwnerGet line v place s.network.ordered) → IsOpen s from.place from.get
  write_supplies line g place v first before from unit at = elim (cases_eq g from.place) [
    | inl here ↦ (
        let same : first.get ≡ from.get = same_Some first.get from.get (sym first.at ∙ (ap (slice_get s.network.ordered) here ∙ from.at)) in
        let unit_is : first.unit ≡ unit = same_Some first.unit unit (sym first.unit_at ∙ (ap (λ (q : Request). slice_get s.units q.source) same ∙ at)) in
        subst (λ (u : UnitState). place_of_get s u.node ≡ Some from.place) unit_is (first.waits ∙ ap Some here))
    | inr away ↦ (
        let later : g ≤ from.place = elim (cases_lt from.place g) [
          | inl earlier ↦ absurd (from.last.gets g first.get (omega (arith, earlier)) before first.at first.kind first.same)
          | inr later ↦ later
        ] in
        (holds.wait line).after_write g from.place first.get from.get first.unit (omega (arith, later, away)) first.at first.kind first.same first.unit_at first.waits from.at
        (ap is_get from.kind) from.same unit at)
  ]

  no_memory : {P : Type 0} (line g place : ℕ) (first : IsOpenWrite s line g) → g < place → owner line (take place s.network.ordered) ≡ Memory → P
  no_memory line g place first before owned = elim (memory_owns line place s.network.ordered owned) [
    | inr nothing ↦ absurd (nothing.gets g first.get (omega arith) before first.at first.kind first.same)
    | inl back ↦ elim (cases_lt g back.place) [
      | inl later ↦ absurd (both_ways (writes_back line s.network.ordered back.place) (none_after_open d s line g fits holds none first back.place later) back.back)
      | inr earlier ↦ elim (cases_eq back.place g) [
        | inl here ↦ no_back line back.place s.network.ordered first.get (ap (slice_get s.network.ordered) here ∙ first.at) (ap is_get first.kind) back.back
        | inr away ↦ absurd (back.last.gets g first.get (omega (arith, earlier, away)) before first.at first.kind first.same)
      ]
    ]
  ]

  pub stays_after_write : {P : Type 0} (line g place : ℕ) → IsOpenWrite s line g → g < place → (is : OpenAt s line place) → EndsBy s is.get.source is.unit → P
  stays_after_write {P} line g place first before is ends = by (owner line (take place s.network.ordered)) refl where
    by : (o : Owner) → owner line (take place s.network.ordered) ≡ o → P
    by Memory owned = no_memory line g place first before owned
    by (Tile v) owned =
        let from = owner_get line v place s.network.ordered owned in
        let supplies = tile_supplies d s fits holds line place v is owned from (write_supplies line g place v first before from) in
        never_ends d s fits holds line place is (λ own. supplies.apart (one_tile (owner line (take place s.network.ordered)) v is.get.source owned own)) supplies.some ends

  -- ---- after the last request that wrote the line back, whose words are to reach memory
  last_back : (line g : ℕ) → IsDue s line g → IsLastOf (writes_back line s.network.ordered) 0 (length s.network.ordered) g
  last_back line g due = subst (LastIs (writes_back line s.network.ordered) 0 (length s.network.ordered)) due.last (last_of_all line s.network.ordered)

  -- who owns the line then: a tile whose own GetM is not complete
  back_supplies : (line g place v : ℕ) → IsDue s line g → g < place → (from : OwnerGet line v place s.network.ordered) → IsOpen s from.place from.get
  back_supplies line g place v due before from =
      let last = last_back line g due in
      let later : g ≤ from.place = elim (cases_lt from.place g) [
        | inl earlier ↦ absurd (both_ways (writes_back line s.network.ordered g) (from.last.backs g (omega (arith, earlier)) before) last.passes)
        | inr later ↦ later
      ] in
      let away : g ≢ from.place = λ here. no_back line g s.network.ordered from.get (ap (slice_get s.network.ordered) here ∙ from.at) (ap is_get from.kind) last.passes in
      (holds.wait line).after_back g from.place from.get due.some due.last
      (omega (arith, later, away)) from.at (ap is_get from.kind) from.same

  -- or the memory, and no GetM stands between
  memory_since : (line g place : ℕ) → IsDue s line g → g < place → owner line (take place s.network.ordered) ≡ Memory → NoneFrom line (g + 1) place s.network.ordered
  memory_since line g place due before owned =
      let last = last_back line g due in
      elim (memory_owns line place s.network.ordered owned) [
        | inr nothing ↦ absurd (both_ways (writes_back line s.network.ordered g) (nothing.backs g (omega arith) before) last.passes)
        | inl back ↦ elim (cases_eq back.place g) [
          | inl here ↦ subst (λ (k : ℕ). NoneFrom line (k + 1) place s.network.ordered) here back.last
          | inr away ↦ elim (cases_lt back.place g) [
            | inl earlier ↦ absurd (both_ways (writes_back line s.network.ordered g) (back.last.backs g (omega (arith, earlier)) before) last.passes)
            | inr later ↦ (
                let less : g < back.place = omega (arith, later, away) in
                absurd (both_ways (writes_back line s.network.ordered back.place)
                (last.after back.place less (let within = beyond line back.place back.back in omega (arith, within))) back.back))
          ]
        ]
      ]
    where
      beyond : (line k : ℕ) → writes_back line s.network.ordered k ≡ true → k < length s.network.ordered
      beyond line k writes = let back = back_of line k s.network.ordered writes in slice_get_within s.network.ordered k back.put back.at

  -- its home has delivered the get, and the get waits at the record
  last_there : (line g n : ℕ) → IsDue s line g → g < n → n ≤ length s.network.ordered → last_written_back line (take n s.network.ordered) ≡ Some g
  last_there line g n due before within =
      let last = last_back line g due in
      last_unique (writes_back line s.network.ordered) 0 n (last_written_back line (take n s.network.ordered)) (Some g) (last_before line n s.network.ordered within)
      (record { from = last.from; below = omega (arith, before); passes = last.passes; after = λ k above below. last.after k above (omega (arith, below, within)) })

  none_next : (line g n : ℕ) → IsDue s line g → g < n → next_written_back s line n ≡ None
  none_next line g n due before =
      let last = last_back line g due in
      next_unique (writes_back line s.network.ordered) (length s.network.ordered) n (next_written_back s line n) None (next_after line n s.network.ordered)
      (λ k above below. last.after k (omega (arith, above, before)) (omega (arith, below)))

  not_fresh : (line g : ℕ) (node : Node) (o : Owner) → IsDue s line g → g < node.delivered → node.delivered ≤ length s.network.ordered → is_fresh_by s node line o ≡ false
  not_fresh line g node Memory due before within = ap (has_come s line true) (last_there line g node.delivered due before within) ∙ is_not_reached s line g due
  not_fresh line g node (Tile w) due before within = ap (has_come s line false) (none_next line g node.delivered due before)

  get_line : (line : ℕ) (q : Request) → is_get q.kind ≡ true → q.line ≡ line → (is_get q.kind && (q.line == line)) ≡ true
  get_line line q get same = ap (λ (b : Bool). b && (q.line == line)) get ∙ eq-eqb q.line line same

  home_supplies : (line g place : ℕ) → IsDue s line g → g < place → (is : OpenAt s line place) → owner line (take place s.network.ordered) ≡ Memory → 1 ≤ pending (chip_of d) s is.get.source
  home_supplies line g place due before is owned =
      let h = home (chip_of d) line in
      let tile = tile_of d s h holds (home_inside (chip_of d) line fits.doc.chip.controllers) in
      elim (cases_lt place tile.unit.node.delivered) [
        | inr earlier ↦ (
            let count : delivered_at s h ≡ tile.unit.node.delivered = ap count_of tile.unit_at in
            to_come d s fits holds line place h is (ap (supplier (chip_of d) line) owned) (omega (arith, count, earlier)))
        | inl delivered ↦ at_home tile.unit tile.unit_at delivered
      ]
    where
      record_of : (entry : Option LineRecord) → is_some entry ≡ true → (r : LineRecord) × (entry ≡ Some r)
      record_of None some = absurd (false≢true some)
      record_of (Some r) some = (r, refl)

      at_home : (unit : UnitState) → slice_get s.units (home (chip_of d) line) ≡ Some unit → place < unit.node.delivered → 1 ≤ pending (chip_of d) s is.get.source
      at_home unit at delivered =
          let here = holds_at d s holds (home (chip_of d) line) unit at in
          let within = (known_of d s holds (home (chip_of d) line) unit at).within in
          let inside : line < unit.node.chip.lines =
          subst (λ (c : Chip). line < c.lines) (sym here.holds.node.chip) (subst (λ (l : ℕ). l < (chip_of d).lines) is.same (request_inside d s place is.get fits holds is.at).line) in
          let home_is : (home unit.node.chip line == unit.node.tile) ≡ true =
          eq-eqb (home unit.node.chip line) unit.node.tile (ap (λ (c : Chip). home c line) here.holds.node.chip ∙ sym here.holds.node.agrees.tile) in
          let found = record_of (slice_index_or unit.node.records line None) (here.holds.node.fits.lines.records line inside ∙ home_is) in
          let stale : found.0.fresh ≡ false = here.holds.serves.fresh line found.0 found.1 ∙ not_fresh line g unit.node found.0.owner due (omega (arith, before, delivered)) within in
          let p : Request → Bool = λ (q : Request). is_get q.kind && (q.line == line) in
          let among = waiting_for (up_to_getm (filter p (between g unit.node.delivered s.network.ordered))) in
          let waiters : found.0.waiters ≡ among =
          here.holds.serves.waiters line found.0 found.1
          ∙ ap (λ (b : Bool). cond {A = List Waiting} b [] (waiters_after s unit.node line (last_written_back line (delivered_to s.network.ordered unit.node)))) stale
          ∙ ap (waiters_after s unit.node line) (last_there line g unit.node.delivered due (omega (arith, before, delivered)) within)
          ∙ ap (λ (b : Bool). cond {A = List Waiting} b [] among) (is_not_reached s line g due) in
          let nothing = memory_since line g place due before owned in
          let some = waits_among p s.network.ordered g place unit.node.delivered is.get is.at before delivered (get_line line is.get is.asks is.same)
          (reads_between d s fits holds line g place (λ k r after earlier. nothing.gets k r (omega (arith, after)) earlier) p
          (λ r kept. eqb-true r.line line (and_parts (is_get r.kind) (r.line == line) kept).1)) in
          recorded_pending (chip_of d) s is.get.source (home (chip_of d) line) line unit found.0 at found.1 (subst (λ (list : List Waiting). 1 ≤ places_in is.get.source list) (sym waiters) some)

  pub stays_after_back : {P : Type 0} (line g place : ℕ) → IsDue s line g → g < place → (is : OpenAt s line place) → EndsBy s is.get.source is.unit → P
  stays_after_back {P} line g place due before is ends = by (owner line (take place s.network.ordered)) refl where
    by : (o : Owner) → owner line (take place s.network.ordered) ≡ o → P
    by Memory owned =
        never_ends d s fits holds line place is (λ own. no_tile (owner line (take place s.network.ordered)) is.get.source owned own) (home_supplies line g place due before is owned) ends
    by (Tile v) owned =
        let from = owner_get line v place s.network.ordered owned in
        let supplies = tile_supplies d s fits holds line place v is owned from (back_supplies line g place v due before from) in
        never_ends d s fits holds line place is (λ own. supplies.apart (one_tile (owner line (take place s.network.ordered)) v is.get.source owned own)) supplies.some ends
