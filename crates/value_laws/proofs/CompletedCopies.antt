-- What a completed demand leaves in the cache: a copy of its line by the tiles that wait, and every other line as it was.
use Rattle.std.proofs.Common.{◌≡◌, ◌≢◌, ℕ, Bool, true, false, cond, refl, sym, ◌∙◌, ap, inl, inr, ◌⊎◌, Option, Some, None, List, [], ◌∷◌}
use Rattle.std.specs.Prelude.{◌==◌}
use Rattle.std.proofs.lemmas.Bool.{eqb-true, eqb-false, cases_eq}
use Rattle.std.proofs.lemmas.Option.{same_Some}
use Rattle.mesh_gen.specs.declared.kind.Kind.{Kind}
use Rattle.mesh_gen.specs.declared.kind.Kind.TheVariants.{GetS, GetM, PutM}
use Rattle.report_text.specs.declared.access.AccessKind.{AccessKind}
use Rattle.report_text.specs.declared.access.AccessKind.TheVariants.{Load, Store, Swap, Add}
use Rattle.chip_model.specs.declared.line_state.State.TheVariants.{M, O, S}
use Rattle.chip_model.specs.declared.waiting.Waiting.{Waiting}
use Rattle.chip_model.specs.Chip.{Chip}
use Rattle.chip_model.specs.Cache.{Cache, Held, lookup, fits, installed, without_line}
use Rattle.chip_model.specs.Misses.{Demand, is_getm, ends_in_getm, request_for}
use Rattle.chip_model.specs.Snoop.{CacheSide, completed, completed_load, completed_store, kept_after_store, written_by}
use Rattle.chip_model.specs.NodeShape.{DemandFits}
use Rattle.snoop_core.proofs.CacheMaps.{lookup-without_line, lookup-installed}
use Rattle.chip_laws.proofs.Options.{none_some}

-- a copy of the demand's line, by its access and by who waits
pub data CopyLeft (demand : Demand) (words : List ℕ) (held : Held) : Type 0 where
  loaded : demand.kind ≡ GetS → demand.once ≡ false → held ≡ record { line = demand.line; state = S; words = words } → CopyLeft demand words held
  stored : demand.kind ≡ GetM → demand.list ≡ [] → held ≡ record { line = demand.line; state = M; words = written_by demand.pending words }
      → CopyLeft demand words held
  shared : demand.kind ≡ GetM → ends_in_getm demand.list ≡ false → held ≡ record { line = demand.line; state = O; words = written_by demand.pending words }
      → CopyLeft demand words held

-- a copy of another line that was there, or one of the demand's line
abbrev pub IsLeft : Chip → Cache → Demand → List ℕ → ℕ → Held → Type 0
IsLeft chip cache demand words line held = ((line ≢ demand.line) × (lookup chip cache line ≡ Some held)) ⊎ ((line ≡ demand.line) × CopyLeft demand words held)

-- ---- one line of the cache changes
at_installed : (chip : Chip) (cache : Cache) (new : Held) (line : ℕ) (held : Held) → fits chip cache new.line ≡ true
    → lookup chip (installed chip new cache) line ≡ Some held
    → ((line ≢ new.line) × (lookup chip cache line ≡ Some held)) ⊎ ((line ≡ new.line) × (held ≡ new))
at_installed chip cache new line held fit at = by (line == new.line) refl (sym (lookup-installed chip cache new line fit) ∙ at) where
  by : (b : Bool) → (line == new.line) ≡ b → cond {A = Option Held} b (Some new) (lookup chip cache line) ≡ Some held
      → ((line ≢ new.line) × (lookup chip cache line ≡ Some held)) ⊎ ((line ≡ new.line) × (held ≡ new))
  by true same x = inr (eqb-true line new.line same, sym (same_Some new held x))
  by false other x = inl (eqb-false line new.line other, x)

at_without : (chip : Chip) (cache : Cache) (gone line : ℕ) (held : Held) → lookup chip (without_line chip gone cache) line ≡ Some held
    → (line ≢ gone) × (lookup chip cache line ≡ Some held)
at_without chip cache gone line held at = by (line == gone) refl (sym (lookup-without_line chip cache gone line) ∙ at) where
  by : (b : Bool) → (line == gone) ≡ b → cond {A = Option Held} b None (lookup chip cache line) ≡ Some held
      → (line ≢ gone) × (lookup chip cache line ≡ Some held)
  by true same x = none_some held x
  by false other x = (eqb-false line gone other, x)

-- ---- by the kind of access
store_left : (chip : Chip) (cache : Cache) (demand : Demand) (words : List ℕ) (list : List Waiting) (line : ℕ) (held : Held) → demand.kind ≡ GetM
    → demand.list ≡ list
    → fits chip cache demand.line ≡ true → lookup chip (kept_after_store chip demand.line (written_by demand.pending words) list cache) line ≡ Some held
    → IsLeft chip cache demand words line held
store_left chip cache demand words [] line held kind is fit at =
    elim (at_installed chip cache (record { line = demand.line; state = M; words = written_by demand.pending words }) line held fit at) [
      | inl other ↦ inl other
      | inr here ↦ inr (here.0, stored kind is here.1)
    ]
store_left chip cache demand words (first ∷ rest) line held kind is fit at = by (ends_in_getm (first ∷ rest)) refl at where
  by : (ends : Bool) → ends_in_getm (first ∷ rest) ≡ ends
      → lookup chip (cond ends (without_line chip demand.line cache) (installed chip
      (record { line = demand.line; state = O; words = written_by demand.pending words }) cache)) line ≡ Some held
      → IsLeft chip cache demand words line held
  by true ends x = inl (at_without chip cache demand.line line held x)
  by false goes_on x =
      elim (at_installed chip cache (record { line = demand.line; state = O; words = written_by demand.pending words }) line held fit x) [
        | inl other ↦ inl other
        | inr here ↦ inr (here.0, shared kind (ap ends_in_getm is ∙ goes_on) here.1)
      ]

load_left : (chip : Chip) (cache : Cache) (demand : Demand) (words : List ℕ) (line : ℕ) (held : Held) → demand.kind ≡ GetS → fits chip cache demand.line ≡ true
    → lookup chip cache demand.line ≡ None
    → lookup chip (cond demand.once cache (installed chip (record { line = demand.line; state = S; words = words }) cache)) line ≡ Some held
    → IsLeft chip cache demand words line held
load_left chip cache demand words line held kind fit absent at = by demand.once refl at where
  by : (once : Bool) → demand.once ≡ once
      → lookup chip (cond once cache (installed chip (record { line = demand.line; state = S; words = words }) cache)) line ≡ Some held
      → IsLeft chip cache demand words line held
  by true once x = elim (cases_eq line demand.line) [
    | inl same ↦ none_some held (sym absent ∙ (ap (lookup chip cache) (sym same) ∙ x))
    | inr other ↦ inl (other, x)
  ]
  by false kept x = elim (at_installed chip cache (record { line = demand.line; state = S; words = words }) line held fit x) [
    | inl other ↦ inl other
    | inr here ↦ inr (here.0, loaded kind kept here.1)
  ]

-- what a demand asks for
pub asks_write : (kind : Kind) → is_getm kind ≡ true → kind ≡ GetM
asks_write GetS is = cc
asks_write GetM is = refl
asks_write PutM is = cc

asks_read : (kind : Kind) (access : AccessKind) → kind ≡ request_for access → is_getm kind ≡ false → kind ≡ GetS
asks_read kind Load is reads = is
asks_read kind Store is reads = cc
asks_read kind Swap is reads = cc
asks_read kind Add is reads = cc

pub copies_left : (chip : Chip) (side : CacheSide) (demand : Demand) (place : ℕ) (words : List ℕ) (line : ℕ) (held : Held) → DemandFits chip side.cache demand
    → lookup chip (completed chip demand place words side).side.cache line ≡ Some held → IsLeft chip side.cache demand words line held
copies_left chip side demand place words line held fit at = by (is_getm demand.kind) refl at where
  by : (b : Bool) → is_getm demand.kind ≡ b
      → lookup chip (cond b (completed_store chip demand place words side) (completed_load chip demand place words side)).side.cache line ≡ Some held
      → IsLeft chip side.cache demand words line held
  by true writes x = store_left chip side.cache demand words demand.list line held (asks_write demand.kind writes) refl fit.room x
  by false reads x =
      let kind = asks_read demand.kind demand.pending.kind fit.asks reads in
      load_left chip side.cache demand words line held kind fit.room (fit.absent kind) x
