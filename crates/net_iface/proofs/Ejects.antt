-- A tile delivers the request that it expects, which is the next one of the order.
use Rattle.std.proofs.Common.{◌≡◌, ◌≢◌, ℕ, ◌+◌, ◌^◌, ◌<◌, ◌≤◌, ◌==◌, List, take, set, map, Option, Some, refl, sym, ◌∙◌, ap, subst, inl, inr, arith, rules, length-set, length-take}
use Rattle.std.specs.Prelude.{slice_get, slice_index, IfSome, option_and_then}
use Rattle.std.specs.List.{range_with_len}
use Rattle.std.proofs.lemmas.Bool.{cases_eq}
use Rattle.std.proofs.lemmas.List.{get_or-set_same, get_or-set_other, length-map}
use Rattle.std.proofs.lemmas.List.Sums.{count_by-le-length}
use Rattle.std.proofs.lemmas.Option.{slice_get_within}
use Rattle.mesh_gen.specs.declared.request.Request.{Request}
use Rattle.order_tracker.specs.Tracker.{TrackerState, next_request_of}
use Rattle.chip_model.specs.Chip.{tile_count}
use Rattle.chip_model.specs.Copies.{Name, name_of, after_serve}
use Rattle.chip_model.specs.OrderedNetwork.{OrderedNetwork, Interface, sources, with_interface, expected_at, after_delivery}
use Rattle.chip_model.specs.Bookkeeping.{count_by_tile}
use Rattle.chip_model.specs.CopiesOwed.{HasCopies}
use Rattle.router_xy.specs.RequestNetwork.{RequestNetwork}
use Rattle.chip_model.specs.NetworkFits.{requests_of}
use Rattle.net_iface.specs.Unordered.{unordered_of}
use Rattle.net_iface.specs.Parts.{Parts, requests_of_tile, interface_of, interfaces_of, network_of, IsFollowing, AreKept}
use Rattle.net_iface.specs.NetworkHolds.{OrderedNetworkHolds}
use Rattle.net_iface.specs.Trackers.{MayPass, PassesAt}
use Rattle.net_iface.proofs.Kept.{sized_routers, sized_lists}
use Rattle.net_iface.proofs.Named.{slice_get_grown, request_at, number_at}
use Rattle.net_iface.proofs.Interfaces.{other_at}
use Rattle.net_iface.proofs.Expected.{interface_at, expects_tile, next_expected}
use Rattle.net_iface.proofs.Entries.{expected_is_there}
use Rattle.net_iface.proofs.Accounts.{accounted, made_if_on_the_way}
use Rattle.net_iface.proofs.Places.{same_some, item_at}
use Rattle.net_iface.proofs.Steps.{after_delivery-some}

-- the request that is served is that of the order
pub is_next : (p : Parts) (t : ℕ) (name : Name) (q : Request) → AreKept p → expected_at p.chip (network_of p) t ≡ Some name → HasCopies p.routers.copies q → name_of q ≡ name
    → slice_get p.ordered (slice_index p.delivered t) ≡ Some q
is_next p t name q kept expects stood named =
    let inside = expects_tile p t name expects in
    let entry = expected_is_there p t name kept inside expects in
    let d = slice_index p.delivered t in
    let all = (accounted p kept).made entry.request.source entry.source in
    let number = number_at entry.request.source d p.ordered (unordered_of p.unordered entry.request.source) entry.request all entry.there refl in
    let here : slice_get (requests_of_tile p.ordered p.unordered entry.request.source) entry.request.number ≡ Some entry.request =
    ap (slice_get (requests_of_tile p.ordered p.unordered entry.request.source)) number
    ∙ slice_get_grown (requests_of entry.request.source p.ordered) (unordered_of p.unordered entry.request.source) (count_by_tile entry.request.source (take d p.ordered)) entry.request (request_at entry.request.source p.ordered d entry.request entry.there refl)
    in
    let made_q = (made_if_on_the_way p q kept stood).made in
    let names : name_of entry.request ≡ name_of q = entry.named ∙ sym named in
    let same : entry.request ≡ q =
    same_some entry.request q (sym here ∙ ap (λ (n : Name). slice_get (requests_of_tile p.ordered p.unordered n.0) n.1) names ∙ made_q)
    in
    entry.there ∙ ap Some same

-- the condition of a tracker that passes over it
pub may_pass : (p : Parts) (t : ℕ) (name : Name) → AreKept p → expected_at p.chip (network_of p) t ≡ Some name → (tracker : TrackerState) → slice_get p.trackers t ≡ Some tracker → MayPass tracker
may_pass p t name kept expects tracker there =
    let inside = expects_tile p t name expects in
    let entry = expected_is_there p t name kept inside expects in
    let d = slice_index p.delivered t in
    let next : next_request_of tracker ≡ Some name = ap (option_and_then next_request_of) (sym there) ∙ next_expected p t kept ∙ expects in
    let number = number_at entry.request.source d p.ordered (unordered_of p.unordered entry.request.source) entry.request ((accounted p kept).made entry.request.source entry.source) entry.there refl in
    let low : count_by_tile entry.request.source (take d p.ordered) ≤ d =
    omega (arith, count_by-le-length (λ s. s == entry.request.source) (sources (take d p.ordered)), length-map (take d p.ordered) (λ (q : Request). q.source), length-take d p.ordered)
    in
    let within = slice_get_within p.ordered d entry.request entry.there in
    let second : entry.request.number ≡ name.1 = ap (λ (n : Name). n.1) entry.named in
    let small : name.1 + 1 < 2 ^ 31 = omega (arith, number, low, within, second, kept.sizes.within, kept.sizes.small) in
    record {
      expected = rw next (search rules);
      count = subst (λ (o : Option Name). IfSome o (λ entry. entry.1 + 1 < 2 ^ 31)) (sym next) small;
    }

module _ (p : Parts) (routers : RequestNetwork) (t : ℕ) (q : Request) (kept : AreKept p) (inside : t < tile_count p.chip) where
  abbrev more : List ℕ
  more = set p.delivered t (slice_index p.delivered t + 1)

  counted : slice_index more t ≡ slice_index p.delivered t + 1
  counted = get_or-set_same p.delivered t (slice_index p.delivered t + 1) 0 (omega (arith, kept.sizes.delivered))

  others : (u : ℕ) → u ≢ t → slice_index more u ≡ slice_index p.delivered u
  others u other = get_or-set_other p.delivered t u (slice_index p.delivered t + 1) 0 other

  pub AreKept-eject : (trackers : List TrackerState) (delivered : List ℕ) → PassesAt t p.trackers trackers → delivered ≡ more → routers.grid ≡ p.routers.grid → routers.vcs ≡ p.routers.vcs
      → OrderedNetworkHolds p.chip (network_of (record p { routers = routers; trackers = trackers; delivered = more }))
      → AreKept (record p { routers = routers; trackers = trackers; delivered = delivered })
  AreKept-eject trackers delivered passes is grid vcs holds = subst (λ (counts : List ℕ). AreKept (record p { routers = routers; trackers = trackers; delivered = counts })) (sym is) (record {
    sizes = sized_lists (record p { routers = routers }) trackers p.ordered p.unordered p.made more (sized_routers p routers grid vcs kept.sizes) kept.sizes.within
        passes.count refl refl (length-set p.delivered t (slice_index p.delivered t + 1));
    holds = holds;
    trackers = λ u tracker found. elim (cases_eq u t) [
      | inl here ↦
          let before = item_at p.trackers t (omega (arith, kept.sizes.trackers)) in
          let following = kept.trackers t before.item before.there in
          let passed = passes.passed before.item tracker before.there (ap (slice_get trackers) (sym here) ∙ found) in
          subst (λ (v : ℕ). IsFollowing p.chip p.windows.windows more v tracker) (sym here) (record {
            tiles = passed.tiles ∙ following.tiles;
            room = passed.room ∙ following.room;
            sets = rw (passed.tiles, following.tiles) at passed.sets;
            follows = rw counted (passed.follows (take (slice_index p.windows.windows.taken t) p.windows.windows.closed) (slice_index p.delivered t) following.follows);
          })
      | inr other ↦
          let following = kept.trackers u tracker (sym (passes.others u other) ∙ found) in
          record { tiles = following.tiles; room = following.room; sets = following.sets; follows = rw (others u other) following.follows }
    ];
    capacities = kept.capacities;
    counts = kept.counts;
  })

  -- the interface of the tile has delivered one more
  pub eject_seen : (trackers : List TrackerState) (delivered : List ℕ) → delivered ≡ more
      → with_interface (record (network_of p) { copies = routers.copies }) t
      (record (interface_of p.windows.windows.posts p.ordered p.unordered p.delivered t) { delivered = slice_index p.delivered t + 1 })
      ≡ network_of (record p { routers = routers; trackers = trackers; delivered = delivered })
  eject_seen trackers delivered is =
      let f = interface_of p.windows.windows.posts p.ordered p.unordered p.delivered in
      let g = interface_of p.windows.windows.posts p.ordered p.unordered more in
      let n = tile_count p.chip in
      ap (λ (interfaces : List Interface). record { copies = routers.copies; windows = p.windows.windows; ordered = p.ordered; interfaces = interfaces })
      (ap (λ (k : ℕ). set (map f (range_with_len 0 n)) t (record { made = (f t).made; posted = (f t).posted; delivered = k })) (sym counted)
      ∙ other_at f n g t inside (λ u within other. ap (λ (k : ℕ). record { made = (f u).made; posted = (f u).posted; delivered = k }) (others u other))
      ∙ ap (λ (counts : List ℕ). interfaces_of n p.windows.windows.posts p.ordered p.unordered counts) (sym is))

  -- the step of the definitions
  pub ejected : (name : Name) → expected_at p.chip (network_of p) t ≡ Some name → after_serve p.routers.copies t name ≡ Some (q, routers.copies) → after_delivery p.chip (network_of p) t ≡ Some (q, network_of (record p { routers = routers; delivered = more }))
  ejected name expects serves =
      after_delivery-some p.chip (network_of p) t (interface_of p.windows.windows.posts p.ordered p.unordered p.delivered t) name q routers.copies (interface_at p t inside) expects serves
      ∙ ap (λ (net : OrderedNetwork). Some (q, net)) (eject_seen p.trackers more refl)
