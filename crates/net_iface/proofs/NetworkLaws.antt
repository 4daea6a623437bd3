-- What holds of an ordered network, step by step and after every list of calls.
use Rattle.std.proofs.Common.{◌≡◌, ℕ, ◌<◌, List, [], ◌∷◌, Some}
use Rattle.mesh_gen.specs.declared.request.Request.{Request}
use Rattle.mesh_gen.specs.declared.kind.Kind.{Kind}
use Rattle.mesh_gen.specs.declared.port.Port.{Port}
use Rattle.chip_model.specs.Chip.{Chip}
use Rattle.chip_model.specs.OrderedNetwork.{OrderedNetwork, opening_network, after_inject, after_request_post, after_network_tick, after_vector_take, after_copy_hop, after_delivery}
use Rattle.net_iface.specs.NetworkHolds.{OrderedNetworkHolds}
use Rattle.net_iface.specs.NetworkRuns.{NetworkCall, Inject, Post, Tick, Take, Hop, Eject, History, called, history_of}
use Rattle.net_iface.proofs.Binds.{bind_eq, made}
use Rattle.net_iface.proofs.LawsOfParts.{PartLaws, NothingStands, NothingIsOwed}
use Rattle.net_iface.proofs.Accords.{EntersAlone, HopsWithNone}
use Rattle.net_iface.proofs.Histories.{ServesNamed}
use Rattle.net_iface.proofs.NetworkKept.{fits_opening, fits_made, fits_posted, fits_ticked, fits_taken, fits_moved, fits_delivered}
use Rattle.net_iface.proofs.TookKept.{took_opening, took_made, took_posted, took_ticked, took_taken, took_moved, took_delivered}

module _ (laws : PartLaws) (chip : Chip) where
  pub holds_opening : NothingStands → NothingIsOwed → 0 < chip.window → OrderedNetworkHolds chip (opening_network chip)
  holds_opening opened absent long = record { fits = fits_opening laws chip opened absent long; took = took_opening chip }

  module _ (old new : OrderedNetwork) (holds : OrderedNetworkHolds chip old) where
    pub holds_made : EntersAlone → (t : ℕ) (kind : Kind) (line : ℕ) → after_inject chip old t kind line ≡ Some new → OrderedNetworkHolds chip new
    holds_made alone t kind line is = record { fits = fits_made laws chip old new holds.fits alone t kind line is; took = took_made laws chip old new holds.took t kind line is }

    pub holds_posted : (t : ℕ) → after_request_post old t ≡ Some new → OrderedNetworkHolds chip new
    holds_posted t is = record { fits = fits_posted laws chip old new holds.fits t is; took = took_posted laws chip old new holds.took t is }

    pub holds_ticked : after_network_tick chip old ≡ Some new → OrderedNetworkHolds chip new
    holds_ticked is = record { fits = fits_ticked laws chip old new holds.fits is; took = took_ticked laws chip old new holds.took holds.fits is }

    pub holds_taken : (t : ℕ) → after_vector_take old t ≡ Some new → OrderedNetworkHolds chip new
    holds_taken t is = record { fits = fits_taken laws chip old new holds.fits t is; took = took_taken laws chip old new holds.took t is }

    pub holds_moved : HopsWithNone → (r : ℕ) (port : Port) (slot : ℕ) (out : Port) → after_copy_hop chip old r port slot out ≡ Some new → OrderedNetworkHolds chip new
    holds_moved none r port slot out is = record { fits = fits_moved laws chip old new holds.fits none r port slot out is; took = took_moved laws chip old new holds.took r port slot out is }

    pub holds_delivered : ServesNamed → (t : ℕ) (q : Request) → after_delivery chip old t ≡ Some (q, new) → OrderedNetworkHolds chip new
    holds_delivered named t q is = record { fits = fits_delivered laws chip old new holds.fits named t q is; took = took_delivered laws chip old new holds.took t q is }

  -- ---- over lists of calls

  module _ (alone : EntersAlone) (none : HopsWithNone) (named : ServesNamed) where
    abbrev Holds : History → Type 0
    Holds h = OrderedNetworkHolds chip h.network

    holds_called : (h next : History) (call : NetworkCall) → Holds h → called chip h call ≡ Some next → Holds next
    unfolding called
    holds_called h next (Inject t kind line) holds is =
        bind_eq Holds (after_inject chip h.network t kind line) _ (λ net step y is. made Holds _ y (holds_made h.network net holds alone t kind line step) is) next is
    holds_called h next (Post t) holds is = bind_eq Holds (after_request_post h.network t) _ (λ net step y is. made Holds _ y (holds_posted h.network net holds t step) is) next is
    holds_called h next Tick holds is = bind_eq Holds (after_network_tick chip h.network) _ (λ net step y is. made Holds _ y (holds_ticked h.network net holds step) is) next is
    holds_called h next (Take t) holds is = bind_eq Holds (after_vector_take h.network t) _ (λ net step y is. made Holds _ y (holds_taken h.network net holds t step) is) next is
    holds_called h next (Hop r port slot out) holds is =
        bind_eq Holds (after_copy_hop chip h.network r port slot out) _ (λ net step y is. made Holds _ y (holds_moved h.network net holds none r port slot out step) is) next is
    holds_called h next (Eject t) holds is =
        bind_eq Holds (after_delivery chip h.network t) _ (λ out step y is. made Holds _ y (holds_delivered h.network out.1 holds named t out.0 step) is) next is

    pub holds_later : (calls : List NetworkCall) (h last : History) → Holds h → history_of chip h calls ≡ Some last → Holds last
    unfolding history_of
    holds_later [] h last holds is = made Holds h last holds is
    holds_later (call ∷ calls) h last holds is = bind_eq Holds (called chip h call) _ (λ next step y rest. holds_later calls next y (holds_called h next call holds step) rest) last is
