-- Requests of which no copy stands.
use Rattle.std.proofs.Common.{◌≡◌, ◌≢◌, ℕ, false, refl, sym, ap, subst, inl, inr, Option, Some, None, Result, Ok, Err}
use Rattle.std.specs.Prelude.{OnOk, OnErr}
use Rattle.std.proofs.lemmas.Bool.{ne_eqb}
use Rattle.mesh_gen.specs.declared.request.Request.{Request}
use Rattle.mesh_gen.specs.Grid.{Grid}
use Rattle.vc_bank.specs.Places.{Network, at}
use Rattle.chip_model.specs.declared.net_copy.NetCopy.{NetCopy}
use Rattle.chip_model.specs.Copies.{Name, is_named, no_copies}
use Rattle.chip_model.specs.CopiesOwed.{HasCopies, ComesAlone}
use Rattle.router_xy.specs.RequestNetwork.{RequestNetwork, IsAbsent}

abbrev NothingStands : Type 0
NothingStands = (g : Grid) (vcs router port slot : ℕ) → at (no_copies g vcs) router port slot ≡ None

pub absent_opened : (net : RequestNetwork) (g : Grid) (vcs : ℕ) (name : Name) → NothingStands → net ≡ record { grid = g; vcs = vcs; copies = no_copies g vcs } → IsAbsent net.copies name
absent_opened net g vcs name nothing is =
    subst (λ (net : RequestNetwork). IsAbsent net.copies name) (sym is) (λ router port slot copy stands. absurd (let none = nothing g vcs router port slot in cc))

absent_entered : (old new : Network NetCopy) (q : Request) (name : Name) → ComesAlone q old new → q.source ≢ name.0 → IsAbsent old name → IsAbsent new name
absent_entered old new q name comes other absent router port slot copy stands =
    elim (comes copy.request (record { router = router; port = port; slot = slot; there = record { copy = copy; stands = stands; is = refl } })) [
      | inl before ↦ subst (λ (r : Request). is_named name r ≡ false) before.there.is (absent before.router before.port before.slot before.there.copy before.there.stands)
      | inr come ↦ subst (λ (r : Request). is_named name r ≡ false) (sym come) (rw (ne_eqb q.source name.0 other) refl)
    ]

-- after a call that was asked to put in a request of another tile, whatever it answered
pub absent_injected : {V E : Type 0} (answer : Result V E) (old new : RequestNetwork) (q : Request) (name : Name) → OnOk answer (ComesAlone q old.copies new.copies) → OnErr answer (new ≡ old) → q.source ≢ name.0
    → IsAbsent old.copies name → IsAbsent new.copies name
absent_injected (Ok value) old new q name comes kept other absent = absent_entered old.copies new.copies q name comes other absent
absent_injected (Err error) old new q name comes kept other absent = subst (λ (net : RequestNetwork). IsAbsent net.copies name) (sym kept) absent
