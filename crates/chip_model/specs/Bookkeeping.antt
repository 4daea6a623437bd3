-- What a tile's node and interface agree on with the global order: which requests it made, posted and delivered, and which
-- of them its demand and its write-back stand for.
use Rattle.std.specs.Prelude.{◌≡◌, ℕ, ◌+◌, ◌<◌, ◌==◌, Bool, true, false, not, ◌&&◌, List, [], ◌∷◌, map, take, drop, filter, Option, Some, None, is_none, slice_get, if◌then◌else◌}
use Rattle.std.specs.List.{list_any}
use Rattle.mesh_gen.specs.declared.kind.Kind.{Kind}
use Rattle.mesh_gen.specs.declared.kind.Kind.TheVariants.{GetS, GetM, PutM}
use Rattle.mesh_gen.specs.declared.request.Request.{Request}
use Rattle.order_tracker.specs.Order.{times, order}
use Rattle.chip_model.specs.declared.waiting.Waiting.{Waiting}
use Rattle.chip_model.specs.Chip.{Chip, tile_count}
use Rattle.chip_model.specs.OrderedNetwork.{OrderedNetwork, Interface, sources}
use Rattle.chip_model.specs.Misses.{Misses, Demand, WriteBack, is_getm}
use Rattle.chip_model.specs.Node.{Node}
use Rattle.chip_model.specs.Ownership.{owner, is_tile, delivered_to}

-- a request that asks for words
abbrev pub is_get : Kind → Bool
is_get GetS = true
is_get GetM = true
is_get PutM = false

-- the requests at the places after one place and below another
abbrev pub between : ℕ → ℕ → List Request → List Request
between place below requests = drop (place + 1) (take below requests)

-- how many of these requests a tile made
abbrev pub count_by_tile : ℕ → List Request → ℕ
count_by_tile t requests = times t (sources requests)

-- the requests are those of a tile, numbered from 0
abbrev pub AreMadeBy : ℕ → List Request → Type 0
AreMadeBy t made = (n : ℕ) (q : Request) → slice_get made n ≡ Some q → (q.source ≡ t) × (q.number ≡ n)

-- what a node has sent and not delivered, as kind and line
abbrev pub asked_for : List Request → List (Kind × ℕ)
asked_for requests = map (λ (q : Request). (q.kind, q.line)) requests

-- the gets, and the write-backs, among requests
abbrev pub gets_among : List Request → List Request
gets_among requests = filter (λ (q : Request). is_get q.kind) requests

-- the write-backs among requests
abbrev pub puts_among : List Request → List Request
puts_among requests = filter (λ (q : Request). not (is_get q.kind)) requests

-- the request that a demand has on its way: it is sent, and not ordered here
abbrev pub outstanding_get : Option Demand → List (Kind × ℕ)
outstanding_get None = []
outstanding_get (Some demand) = if demand.sent && is_none demand.ordered then (demand.kind, demand.line) ∷ [] else []

-- the request that a write-back has on its way: it is sent
abbrev pub outstanding_put : Option WriteBack → List (Kind × ℕ)
outstanding_put None = []
outstanding_put (Some back) = if back.sent then (PutM, back.line) ∷ [] else []

-- the requests of a tile that it has not delivered are those that its demand and its write-back have on their way
pub record IsOutstanding (rest : List Request) (misses : Misses) : Type 0 where
  pub gets : asked_for (gets_among rest) ≡ outstanding_get misses.demand
  pub puts : asked_for (puts_among rest) ≡ outstanding_put misses.back

-- a get of a tile
abbrev pub is_get_of : ℕ → Request → Bool
is_get_of t q = is_get q.kind && (q.source == t)

-- an ordered demand is the request of its place, which was delivered here; the tile did not own the line there, and has
-- delivered no further get of its own
pub record IsOrderedAt (ordered : List Request) (node : Node) (demand : Demand) (place : ℕ) : Type 0 where
  pub request : Request
  pub at : slice_get ordered place ≡ Some request
  pub before : place < node.delivered
  pub source : request.source ≡ node.tile
  pub kind : request.kind ≡ demand.kind
  pub line : request.line ≡ demand.line
  pub unowned : is_tile node.tile (owner demand.line (take place ordered)) ≡ false
  pub alone : filter (is_get_of node.tile) (between place node.delivered ordered) ≡ []

-- a node has delivered what its interface has; its requests are for lines of memory; those that it has not delivered are
-- its demand's and its write-back's, and an ordered demand is the request of its place
pub record TileAgrees (net : OrderedNetwork) (t : ℕ) (interface : Interface) (node : Node) : Type 0 where
  pub tile : node.tile ≡ t
  pub counts : node.delivered ≡ interface.delivered
  pub lines : (n : ℕ) (q : Request) → slice_get interface.made n ≡ Some q → q.line < node.chip.lines
  pub under_way : IsOutstanding (drop (count_by_tile t (delivered_to net.ordered node)) interface.made) node.side.misses
  pub demand : (demand : Demand) (place : ℕ) → node.side.misses.demand ≡ Some demand → demand.ordered ≡ Some place → IsOrderedAt net.ordered node demand place

-- What the requests delivered after a demand have made of it.

-- other tiles' gets for a line, in their order
abbrev pub gets_of_others : ℕ → ℕ → List Request → List Request
gets_of_others t line requests =
    filter (λ (q : Request). is_get q.kind && (q.line == line) && not (q.source == t)) requests

-- up to the first that asks for a copy to write
abbrev pub up_to_getm : List Request → List Request
up_to_getm [] = []
up_to_getm (q ∷ rest) = if is_getm q.kind then q ∷ [] else q ∷ up_to_getm rest

-- the tiles of requests, each with what it asks for
abbrev pub waiting_for : List Request → List Waiting
waiting_for requests = map (λ (q : Request). record { tile = q.source; kind = q.kind }) requests

-- after a load, whether another tile wrote; after a store, who waits for its words
pub record IsFollowed (ordered : List Request) (node : Node) (demand : Demand) (place : ℕ) : Type 0 where
  pub once : demand.kind ≡ GetS → demand.once ≡ list_any (λ (q : Request). is_getm q.kind) (gets_of_others node.tile demand.line (between place node.delivered ordered))
  pub list : demand.kind ≡ GetM → demand.list ≡ waiting_for (up_to_getm (gets_of_others node.tile demand.line (between place node.delivered ordered)))

-- an ordered demand has what the requests after it have made of it
abbrev pub DemandIsFollowed : List Request → Node → Type 0
DemandIsFollowed ordered node = (demand : Demand) (place : ℕ) → node.side.misses.demand ≡ Some demand → demand.ordered ≡ Some place → IsFollowed ordered node demand place

-- the order of requests is the order of the closed windows' vectors
abbrev pub IsInOrder : Chip → OrderedNetwork → Type 0
IsInOrder chip net = sources net.ordered ≡ order (tile_count chip) net.windows.closed
