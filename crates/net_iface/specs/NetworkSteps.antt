-- What each step of an ordered network does to its parts.
use Rattle.std.specs.Prelude.{◌≡◌, ℕ, ◌+◌, ◌<◌, ◌++◌, [], ◌∷◌, length, Some, slice_get, set, if◌then◌else◌}
use Rattle.mesh_gen.specs.declared.kind.Kind.{Kind}
use Rattle.mesh_gen.specs.declared.port.Port.{Port}
use Rattle.mesh_gen.specs.declared.request.Request.{Request}
use Rattle.chip_model.specs.Chip.{Chip}
use Rattle.chip_model.specs.Windows.{after_post, is_last_tick, after_tick, after_take}
use Rattle.chip_model.specs.Copies.{Name, after_entry, after_hop, after_serve}
use Rattle.chip_model.specs.OrderedNetwork.{OrderedNetwork, Interface, next_request, ordered_by_window, expected_at, expected_at_next_hop}

-- the interface of a tile becomes another, and the order stays
pub record SetsInterface (old new : OrderedNetwork) (t : ℕ) (was now : Interface) : Type 0 where
  pub there : slice_get old.interfaces t ≡ Some was
  pub interfaces : new.interfaces ≡ set old.interfaces t now
  pub ordered : new.ordered ≡ old.ordered

-- the interfaces and the order stay
pub record SameInterfaces (old new : OrderedNetwork) : Type 0 where
  pub interfaces : new.interfaces ≡ old.interfaces
  pub ordered : new.ordered ≡ old.ordered

-- a tile makes its next request, and a copy of it enters
pub record RequestMade (chip : Chip) (old new : OrderedNetwork) (t : ℕ) (kind : Kind) (line : ℕ) : Type 0 where
  pub was : Interface
  pub sets : SetsInterface old new t was (record was { made = was.made ++ next_request t was kind line ∷ [] })
  pub enters : after_entry chip.grid old.copies (next_request t was kind line) ≡ Some new.copies
  pub windows : new.windows ≡ old.windows

-- a tile posts for a request that it has not posted
pub record RequestPosted (old new : OrderedNetwork) (t : ℕ) : Type 0 where
  pub was : Interface
  pub sets : SetsInterface old new t was (record was { posted = was.posted + 1 })
  pub some : was.posted < length was.made
  pub posts : after_post old.windows t ≡ Some new.windows
  pub copies : new.copies ≡ old.copies

-- a tick passes, and the last one of a window puts the requests of the tiles that posted at the end of the order
pub record NetworkTicked (chip : Chip) (old new : OrderedNetwork) : Type 0 where
  pub ticks : after_tick chip.window old.windows ≡ Some new.windows
  pub ordered : new.ordered ≡ (if is_last_tick chip.window old.windows then old.ordered ++ ordered_by_window chip old else old.ordered)
  pub interfaces : new.interfaces ≡ old.interfaces
  pub copies : new.copies ≡ old.copies

-- a tile takes a vector
pub record VectorTaken (old new : OrderedNetwork) (t : ℕ) : Type 0 where
  pub takes : after_take old.windows t ≡ Some new.windows
  pub same : SameInterfaces old new
  pub copies : new.copies ≡ old.copies

-- a copy hops
pub record CopyMoved (chip : Chip) (old new : OrderedNetwork) (r : ℕ) (port : Port) (slot : ℕ) (out : Port) : Type 0 where
  pub hops : after_hop chip.grid old.copies r port slot out (expected_at_next_hop chip old r out) ≡ Some new.copies
  pub same : SameInterfaces old new
  pub windows : new.windows ≡ old.windows

-- a tile delivers the request that it expects
pub record RequestDelivered (chip : Chip) (old new : OrderedNetwork) (t : ℕ) (q : Request) : Type 0 where
  pub was : Interface
  pub name : Name
  pub sets : SetsInterface old new t was (record was { delivered = was.delivered + 1 })
  pub expects : expected_at chip old t ≡ Some name
  pub serves : after_serve old.copies t name ≡ Some (q, new.copies)
  pub windows : new.windows ≡ old.windows
