-- The order of requests only grows: no event but a tick changes it, and a tick puts requests at its end.
use Rattle.std.proofs.Common.{◌≡◌, ℕ, Some, List, [], ◌++◌, sym, ◌∙◌, ap}
use Rattle.std.proofs.lemmas.List.{append-nil}
use Rattle.mesh_gen.specs.declared.kind.Kind.{Kind}
use Rattle.mesh_gen.specs.declared.request.Request.{Request}
use Rattle.report_text.specs.declared.event.Event.{Event}
use Rattle.report_text.specs.declared.event.Event.TheVariants.{Tick, Core, Inject, Post, Take, Eject, Send, Hop, DataHop, DataEject}
use Rattle.chip_model.specs.Chip.{Chip}
use Rattle.chip_model.specs.OrderedNetwork.{OrderedNetwork, after_inject, after_delivery}
use Rattle.chip_model.specs.Units.{Behaviour}
use Rattle.chip_model.specs.ChipState.{ChipState}
use Rattle.chip_laws.specs.EventSteps.{EventDoes}
use Rattle.chip_laws.proofs.NetworkFrames.{SameViews, ticked_views, taken_views, hopped_views, posted_views, injected_sets, delivered_sets}

pub injected_order : (chip : Chip) (net new : OrderedNetwork) (t : ℕ) (kind : Kind) (line : ℕ) → after_inject chip net t kind line ≡ Some new → new.ordered ≡ net.ordered
injected_order chip net new t kind line is = (injected_sets chip net new t kind line is).1.ordered

pub delivered_order : (chip : Chip) (net new : OrderedNetwork) (t : ℕ) (q : Request) → after_delivery chip net t ≡ Some (q, new) → new.ordered ≡ net.ordered
delivered_order chip net new t q is = (delivered_sets chip net new t q is).1.ordered

-- what was ordered before stands at the front
pub record Grows (old new : List Request) : Type 0 where
  pub more : List Request
  pub is : new ≡ old ++ more

grows_not : (old new : List Request) → new ≡ old → Grows old new
grows_not old new same = record { more = []; is = same ∙ sym (append-nil old) }

grows_views : (net new : OrderedNetwork) → SameViews net new → Grows net.ordered new.ordered
grows_views net new views = record { more = views.more; is = views.ordered }

stays : (net new : OrderedNetwork) → new ≡ net → Grows net.ordered new.ordered
stays net new same = grows_not net.ordered new.ordered (ap (λ (n : OrderedNetwork). n.ordered) same)

pub order_grows : (b : Behaviour) (chip : Chip) (s new : ChipState) (event : Event) → EventDoes b chip s new event → Grows s.network.ordered new.network.ordered
order_grows b chip s new Tick does = grows_views s.network new.network (ticked_views chip s.network new.network does.network)
order_grows b chip s new (Core t) does = stays s.network new.network does.network
order_grows b chip s new (Inject t) does = grows_not _ _ (injected_order chip s.network new.network t does.kind does.line does.network)
order_grows b chip s new (Post t) does = grows_views s.network new.network (posted_views s.network new.network t does.network)
order_grows b chip s new (Take t) does = grows_views s.network new.network (taken_views s.network new.network t does.network)
order_grows b chip s new (Eject t) does = grows_not _ _ (delivered_order chip s.network new.network t does.request does.network)
order_grows b chip s new (Send t) does = stays s.network new.network does.network
order_grows b chip s new (Hop r port slot out) does = grows_views s.network new.network (hopped_views chip s.network new.network r port slot out does.network)
order_grows b chip s new (DataHop r port slot) does = stays s.network new.network does.network
order_grows b chip s new (DataEject r port slot) does = stays s.network new.network does.network
