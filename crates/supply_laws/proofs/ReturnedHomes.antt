-- Words that are written back come home: the record of their line is what the order says of it, and nobody waits there.
use Rattle.std.proofs.Common.{◌≡◌, ℕ, ◌<◌, ◌≤◌, Bool, true, false, cond, List, [], length, take, refl, sym, ◌∙◌, ap, arith, inl, inr, Option, Some, None}
use Rattle.std.specs.Prelude.{not, is_some}
use Rattle.std.specs.List.{list_any}
use Rattle.std.proofs.lemmas.Bool.{both_ways, false≢true, cases_lt}
use Rattle.mesh_gen.specs.declared.request.Request.{Request}
use Rattle.chip_model.specs.declared.owner.Owner.{Owner}
use Rattle.chip_model.specs.declared.owner.Owner.TheVariants.{Memory, Tile}
use Rattle.chip_model.specs.declared.waiting.Waiting.{Waiting}
use Rattle.chip_model.specs.Misses.{is_getm}
use Rattle.chip_model.specs.Records.{LineRecord, returned}
use Rattle.chip_model.specs.ChipState.{ChipState}
use Rattle.chip_model.specs.Ownership.{owner}
use Rattle.chip_model.specs.Bookkeeping.{between, up_to_getm, waiting_for}
use Rattle.chip_model.specs.Suppliers.{writes_back, places_written_back, next_from, last_written_back, next_written_back, has_reached_memory, has_come, ReachesMemory}
use Rattle.chip_laws.proofs.SupplyAccounts.{is_memory}
use Rattle.supply_laws.proofs.LastPlaces.{LastIs, NextIs, last_unique}
use Rattle.supply_laws.proofs.WriteBackPlaces.{gets_for, any_waits, last_of_all, last_before, next_after}
use Rattle.supply_laws.proofs.WordsDue.{due}
use Rattle.supply_laws.proofs.ReachedWords.{reached_none, reached_earlier, is_not_reached, fresh_at, waiters_since, waiters_at, LineHolds}
use Rattle.supply_laws.proofs.AnsweredHomes.{since_last, last_below}

-- one that waits asks for a copy to write
abbrev pub any_waits_to_write : List Waiting → Bool
any_waits_to_write list = list_any (λ (waiting : Waiting). is_getm waiting.kind) list

module _ (s new : ChipState) (line n : ℕ) (r : LineRecord) (order : new.network.ordered ≡ s.network.ordered) (within : n ≤ length s.network.ordered) (some : 0 < due s line) (none : due new line ≡ 0)
    (owned : r.owner ≡ owner line (take n s.network.ordered)) (reaches : ReachesMemory s line) (is : LineHolds s line n r) where
  abbrev ordered : List Request
  ordered = s.network.ordered

  abbrev prefix : Option ℕ
  prefix = last_written_back line (take n ordered)

  -- all words have come
  come_now : (o : Option ℕ) → has_come new line true o ≡ true
  come_now None = refl
  come_now (Some place) = reached_none new line place none

  nobody_now : (o : Option ℕ) → waiters_since new line n o ≡ []
  nobody_now None = refl
  nobody_now (Some place) = ap (λ (b : Bool). cond {A = List Waiting} b [] (waiting_for (up_to_getm (gets_for line (between place n new.network.ordered))))) (reached_none new line place none)

  -- who waited before
  fresh_none : r.fresh ≡ true → any_waits_to_write r.waiters ≡ false
  fresh_none fresh = ap any_waits_to_write (is.waiters ∙ ap (λ (b : Bool). cond {A = List Waiting} b [] (waiters_at s line n)) fresh)

  stale_waiters : r.fresh ≡ false → r.waiters ≡ waiters_at s line n
  stale_waiters stale = is.waiters ∙ ap (λ (b : Bool). cond {A = List Waiting} b [] (waiters_at s line n)) stale

  -- of those that wait one is to write where a tile owns the line
  waits_for : (place : ℕ) (o : Owner) → prefix ≡ Some place → has_reached_memory s line place ≡ false → r.fresh ≡ false → r.owner ≡ o → is_memory o ≡ not (any_waits_to_write r.waiters)
  waits_for place o place_is late stale owner_is =
      let xs = gets_for line (between place n ordered) in
      let waiters : r.waiters ≡ waiting_for (up_to_getm xs) =
      stale_waiters stale ∙ ap (waiters_since s line n) place_is ∙ ap (λ (b : Bool). cond {A = List Waiting} b [] (waiting_for (up_to_getm xs))) late in
      ap is_memory (sym owner_is ∙ owned)
      ∙ since_last line n place ordered within place_is
      ∙ ap not (sym (any_waits xs))
      ∙ ap (λ (list : List Waiting). not (any_waits_to_write list)) (sym waiters)

  -- ---- memory owns the line: its words are the last ones
  memory_fresh : (fresh : Bool) → r.fresh ≡ fresh → r.owner ≡ Memory → (o : Option ℕ) → prefix ≡ o → fresh ≡ has_come s line true o → not (any_waits_to_write r.waiters) ≡ true
  memory_fresh true fresh owner_is o o_is come = ap not (fresh_none fresh)
  memory_fresh false stale owner_is None o_is come = absurd (false≢true come)
  memory_fresh false stale owner_is (Some place) o_is come = sym (waits_for place Memory o_is (sym come) stale owner_is)

  -- ---- a tile owns the line
  earlier_none : (o : Option ℕ) → prefix ≡ o → (y : ℕ) → n ≤ y → writes_back line ordered y ≡ true → waiters_since s line n o ≡ []
  earlier_none None o_is y later writes = refl
  earlier_none (Some place) o_is y later writes =
      ap (λ (b : Bool). cond {A = List Waiting} b [] (waiting_for (up_to_getm (gets_for line (between place n ordered)))))
      (reached_earlier s line place y writes (let before = last_below line n place ordered within o_is in omega (arith, before, later)))

  -- it writes the line back later: nobody waits for the words that come
  later_fresh : (fresh : Bool) → r.fresh ≡ fresh → (y : ℕ) → n ≤ y → writes_back line ordered y ≡ true → not (any_waits_to_write r.waiters) ≡ true
  later_fresh true fresh y later writes = ap not (fresh_none fresh)
  later_fresh false stale y later writes = ap (λ (list : List Waiting). not (any_waits_to_write list)) (stale_waiters stale ∙ earlier_none prefix refl y later writes)

  -- it does not: it waits for the words that come, to write them
  last_there : (o : Option ℕ) → last_written_back line ordered ≡ o → LastIs (writes_back line ordered) 0 (length ordered) o → is_some o ≡ true
      → ((k : ℕ) → n ≤ k → k < length ordered → writes_back line ordered k ≡ false) → (place : ℕ) × (prefix ≡ Some place) × (has_reached_memory s line place ≡ false)
  last_there None o_is last there later = absurd (false≢true there)
  last_there (Some place) o_is last there later = elim (cases_lt place n) [
    | inl before ↦ (
      place,
      last_unique (writes_back line ordered) 0 n prefix (Some place) (last_before line n ordered within)
          (record { from = omega arith; below = omega (arith, before); passes = last.passes; after = λ k above below. last.after k above (omega (arith, below, within)) }),
      is_not_reached s line place (record { last = o_is; some = some }),
    )
    | inr after ↦ absurd (both_ways (writes_back line ordered place) (later place after (omega (arith, last.below))) last.passes)
  ]

  tile_stale : (t : ℕ) → r.owner ≡ Tile t → r.fresh ≡ false → ((k : ℕ) → n ≤ k → k < length ordered → writes_back line ordered k ≡ false) → not (any_waits_to_write r.waiters) ≡ false
  tile_stale t owner_is stale later =
      let last = last_there (last_written_back line ordered) refl (last_of_all line ordered) (reaches.last some) later in
      sym (waits_for last.0 (Tile t) last.1 last.2 stale owner_is)

  tile_fresh : (t : ℕ) → r.owner ≡ Tile t → (o : Option ℕ) → next_written_back s line n ≡ o → NextIs (writes_back line ordered) (length ordered) n o → r.fresh ≡ has_come s line false o
      → not (any_waits_to_write r.waiters) ≡ has_come new line false o
  tile_fresh t owner_is None o_is later fresh = tile_stale t owner_is fresh later
  tile_fresh t owner_is (Some y) o_is next fresh = later_fresh r.fresh refl y next.beyond next.passes ∙ sym (reached_none new line y none)

  owner_fresh : (o : Owner) → r.owner ≡ o → not (any_waits_to_write r.waiters) ≡ fresh_at new line n o
  owner_fresh Memory owner_is =
      memory_fresh r.fresh refl owner_is prefix refl (is.fresh ∙ ap (fresh_at s line n) owner_is) ∙ sym (come_now (last_written_back line (take n new.network.ordered)))
  owner_fresh (Tile t) owner_is =
      tile_fresh t owner_is (next_written_back s line n) refl (next_after line n ordered) (is.fresh ∙ ap (fresh_at s line n) owner_is)
      ∙ sym (ap (λ (rs : List Request). has_come new line false (next_from n (places_written_back line rs))) order)

  nobody : (b : Bool) (list : List Waiting) → list ≡ [] → [] ≡ cond {A = List Waiting} b [] list
  nobody true list is_none = refl
  nobody false list is_none = sym is_none

  pub line_returned : (words : List ℕ) → LineHolds new line n (returned words r)
  line_returned words = record {
    fresh = owner_fresh r.owner refl;
    waiters = nobody (not (any_waits_to_write r.waiters)) (waiters_at new line n) (nobody_now (last_written_back line (take n new.network.ordered)));
  }
