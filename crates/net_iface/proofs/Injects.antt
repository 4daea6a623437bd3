-- A tile makes its next request: no copy of it stands, and its list has room for it.
use Rattle.std.proofs.Common.{◌≡◌, ◌≢◌, ℕ, ◌+◌, ◌*◌, ◌^◌, ◌<◌, ◌≤◌, ◌==◌, List, [], ◌∷◌, ◌++◌, length, set, map, Option, Some, None, refl, sym, ◌∙◌, ap, subst, inl, inr, arith, length-append, length-set}
use Rattle.std.specs.Prelude.{slice_get, slice_index, slice_set, option_map}
use Rattle.std.specs.List.{All, AllPairs, range_with_len}
use Rattle.std.proofs.lemmas.Bool.{cases_eq, cases_lt, cases_Bool, and_parts, eqb-true}
use Rattle.std.proofs.lemmas.List.{get_or-set_same, get_or-set_other, length-map}
use Rattle.std.proofs.lemmas.List.Sums.{count_by-le-length}
use Rattle.std.proofs.lemmas.Option.{slice_get_within}
use Rattle.std.proofs.Math.Nat.{mul-le-mul_left}
use Rattle.circular_buffer.specs.Buffer.{Buffer, buffer}
use Rattle.mesh_gen.specs.declared.request.Request.{Request}
use Rattle.mesh_gen.specs.declared.kind.Kind.{Kind}
use Rattle.mesh_gen.specs.Limits.{most_tiles}
use Rattle.vc_bank.specs.Places.{Network}
use Rattle.chip_model.specs.declared.net_copy.NetCopy.{NetCopy}
use Rattle.chip_model.specs.Chip.{tile_count}
use Rattle.chip_model.specs.Copies.{Name, name_of, is_named, after_entry}
use Rattle.chip_model.specs.OrderedNetwork.{Interface, with_interface, next_request, after_inject, sources}
use Rattle.chip_model.specs.CopiesOwed.{owing, channel_count}
use Rattle.router_xy.specs.RequestNetwork.{RequestNetwork, IsAbsent}
use Rattle.chip_model.specs.NetworkFits.{requests_of}
use Rattle.net_iface.specs.Unordered.{unordered_at, unordered_of, with_last}
use Rattle.net_iface.specs.NetworkHolds.{OrderedNetworkHolds}
use Rattle.net_iface.specs.Parts.{Parts, requests_of_tile, interface_of, interfaces_of, network_of, AreKept}
use Rattle.net_iface.proofs.Kept.{sized_routers, sized_lists}
use Rattle.net_iface.proofs.Named.{length-requests_of}
use Rattle.net_iface.proofs.Interfaces.{other_at}
use Rattle.net_iface.proofs.Expected.{interface_at, no_interface}
use Rattle.net_iface.proofs.Accounts.{accounted, accounted_of, requests_of_tile-own, requests_of_tile-others}
use Rattle.net_iface.proofs.Room.{unordered_few}
use Rattle.net_iface.proofs.Steps.{after_inject-some}

-- ---- the next request of a tile

pub record IsNextOf (p : Parts) (t : ℕ) (kind : Kind) (line : ℕ) (q : Request) : Type 0 where
  pub inside : t < tile_count p.chip
  pub is : next_request t (interface_of p.windows.windows.posts p.ordered p.unordered p.delivered t) kind line ≡ q

pub next_is : (p : Parts) (t : ℕ) (kind : Kind) (line : ℕ) (q : Request) → option_map {U = Request} (λ interface. next_request t interface kind line) (slice_get (network_of p).interfaces t) ≡ Some q → IsNextOf p t kind line q
next_is p t kind line q is = elim (cases_lt t (tile_count p.chip)) [
  | inl inside ↦
      let here : option_map {U = Request} (λ interface. next_request t interface kind line) (slice_get (network_of p).interfaces t)
      ≡ Some (next_request t (interface_of p.windows.windows.posts p.ordered p.unordered p.delivered t) kind line)
      = ap (option_map {U = Request} (λ interface. next_request t interface kind line)) (interface_at p t inside)
      in
      record { inside = inside; is = same_request (next_request t (interface_of p.windows.windows.posts p.ordered p.unordered p.delivered t) kind line) q (sym here ∙ is) }
  | inr past ↦
      let none : option_map {U = Request} (λ interface. next_request t interface kind line) (slice_get (network_of p).interfaces t) ≡ None =
      ap (option_map {U = Request} (λ interface. next_request t interface kind line)) (no_interface p t past)
      in
      cc
]
  where
    same_request : (a b : Request) → ◌≡◌ {A = Option Request} (Some a) (Some b) → a ≡ b
    same_request a b same = cc

-- its source and its number
pub next_source : (p : Parts) (t : ℕ) (kind : Kind) (line : ℕ) (q : Request) → IsNextOf p t kind line q → q.source ≡ t
next_source p t kind line q next = ap (λ (r : Request). r.source) (sym next.is)

pub next_number : (p : Parts) (t : ℕ) (kind : Kind) (line : ℕ) (q : Request) → IsNextOf p t kind line q → q.number ≡ length (requests_of_tile p.ordered p.unordered q.source)
next_number p t kind line q next =
    ap (λ (r : Request). r.number) (sym next.is) ∙ ap (λ (s : ℕ). length (requests_of_tile p.ordered p.unordered s)) (sym (next_source p t kind line q next))

-- the network in which the tile has made it
pub next_made : (p : Parts) (copies : Network NetCopy) (t : ℕ) (kind : Kind) (line : ℕ) (q : Request) → IsNextOf p t kind line q
    → with_interface (record (network_of p) { copies = copies }) t
    (record (interface_of p.windows.windows.posts p.ordered p.unordered p.delivered t)
    { made = requests_of_tile p.ordered p.unordered t ++ next_request t (interface_of p.windows.windows.posts p.ordered p.unordered p.delivered t) kind line ∷ [] })
    ≡ with_interface (record (network_of p) { copies = copies }) q.source
    (record (interface_of p.windows.windows.posts p.ordered p.unordered p.delivered q.source) { made = requests_of_tile p.ordered p.unordered q.source ++ q ∷ [] })
next_made p copies t kind line q next =
    ap (λ (r : Request). with_interface (record (network_of p) { copies = copies }) t
    (record (interface_of p.windows.windows.posts p.ordered p.unordered p.delivered t) { made = requests_of_tile p.ordered p.unordered t ++ r ∷ [] })) next.is
    ∙ ap (λ (u : ℕ). with_interface (record (network_of p) { copies = copies }) u
    (record (interface_of p.windows.windows.posts p.ordered p.unordered p.delivered u) { made = requests_of_tile p.ordered p.unordered u ++ q ∷ [] })) (sym (next_source p t kind line q next))

pub no_next : (p : Parts) (t : ℕ) (kind : Kind) (line : ℕ) → option_map {U = Request} (λ interface. next_request t interface kind line) (slice_get (network_of p).interfaces t) ≡ None → slice_get (network_of p).interfaces t ≡ None
no_next p t kind line none = by (slice_get (network_of p).interfaces t) none
  where
    by : (o : Option Interface) → option_map {U = Request} (λ interface. next_request t interface kind line) o ≡ None → o ≡ None
    by None none = refl
    by (Some interface) none = cc

-- no copy of it stands
pub absent : (p : Parts) (q : Request) → AreKept p → q.number ≡ length (requests_of_tile p.ordered p.unordered q.source) → IsAbsent p.routers.copies (name_of q)
absent p q kept number = λ router port slot copy stands. elim (cases_Bool (is_named (name_of q) copy.request)) [
  | inr other ↦ other
  | inl named ↦
      let parts = and_parts (copy.request.source == q.source) (copy.request.number == q.number) named in
      let source = eqb-true copy.request.source q.source parts.0 in
      let same_number = eqb-true copy.request.number q.number parts.1 in
      let of = (accounted p kept).of_made router port slot copy stands in
      let within = slice_get_within (requests_of_tile p.ordered p.unordered copy.request.source) copy.request.number copy.request of.made in
      let as_long = ap (λ (s : ℕ). length (requests_of_tile p.ordered p.unordered s)) source in
      absurd (omega (arith, within, as_long, number, same_number))
]

-- a tile has not made more requests than there may be ordered and under way
pub made_below : (p : Parts) (t : ℕ) → AreKept p → t < tile_count p.chip → p.chip.vcs ≤ 8 → length (unordered_of p.unordered t) ≤ channel_count p.chip → length (requests_of_tile p.ordered p.unordered t) + 1 < 2 ^ 32
made_below p t kept inside vcs few =
    let ordered : length (requests_of t p.ordered) ≤ length p.ordered =
    omega (arith, length-requests_of t p.ordered, count_by-le-length (λ s. s == t) (sources p.ordered), length-map p.ordered (λ (q : Request). q.source))
    in
    let channels : channel_count p.chip ≤ most_tiles * 44 = few_channels (tile_count p.chip) p.chip.vcs kept.sizes.few vcs in
    omega (arith, length-append (requests_of t p.ordered) (unordered_of p.unordered t), ordered, few, channels, kept.sizes.within, kept.sizes.small)
  where
    few_channels : (n vcs : ℕ) → n ≤ most_tiles → vcs ≤ 8 → n * (5 * vcs + 4) ≤ most_tiles * 44
    few_channels n vcs few low =
        let per_tile : 5 * vcs + 4 ≤ 44 = omega arith in
        let first : n * (5 * vcs + 4) ≤ n * 44 = mul-le-mul_left n per_tile in
        omega (arith, first, few)

-- ---- the request goes after those of its tile

module _ (p : Parts) (routers : RequestNetwork) (q : Request) (kept : AreKept p) (inside : q.source < tile_count p.chip) (number : q.number ≡ length (requests_of_tile p.ordered p.unordered q.source)) where
  abbrev more : List (Buffer Request)
  more = slice_set p.unordered q.source (with_last (unordered_at p.unordered q.source) q)

  there : unordered_at more q.source ≡ with_last (unordered_at p.unordered q.source) q
  there = get_or-set_same p.unordered q.source (with_last (unordered_at p.unordered q.source) q) (buffer [] 0) (omega (arith, kept.sizes.unordered))

  others : (u : ℕ) → u ≢ q.source → unordered_at more u ≡ unordered_at p.unordered u
  others u other = get_or-set_other p.unordered q.source u (with_last (unordered_at p.unordered q.source) q) (buffer [] 0) other

  -- the parts in which its source has made it
  abbrev pub after : Parts
  after = record p { routers = routers; unordered = more }

  pub has_room : OrderedNetworkHolds p.chip (network_of after)
      → ((names : List Name) → AllPairs (λ a b. a ≢ b) names → All (λ name. 0 < owing p.chip.grid routers.copies name q.source) names → length names ≤ channel_count p.chip)
      → length (unordered_of p.unordered q.source) < (unordered_at p.unordered q.source).capacity
  has_room holds law =
      let few = unordered_few p.chip routers.copies p.windows.windows p.ordered more p.delivered q.source (accounted_of after holds.fits) kept.sizes.some inside law in
      let longer : length (unordered_of more q.source) ≡ length (unordered_of p.unordered q.source) + 1 =
      ap (λ (list : Buffer Request). length list.items) there ∙ length-append (unordered_of p.unordered q.source) (q ∷ [])
      in
      omega (arith, few, longer, kept.capacities q.source inside)

  pub AreKept-inject : (unordered : List (Buffer Request)) (made : List ℕ) → unordered ≡ more → made ≡ slice_set p.made q.source (slice_index p.made q.source + 1) → routers.grid ≡ p.routers.grid → routers.vcs ≡ p.routers.vcs
      → OrderedNetworkHolds p.chip (network_of after) → AreKept (record p { routers = routers; unordered = unordered; made = made })
  AreKept-inject unordered made is counts grid vcs holds = record {
    sizes = sized_lists (record p { routers = routers }) p.trackers p.ordered unordered made p.delivered (sized_routers p routers grid vcs kept.sizes) kept.sizes.within
        refl (ap length is ∙ length-set p.unordered q.source (with_last (unordered_at p.unordered q.source) q))
        (ap length counts ∙ length-set p.made q.source (slice_index p.made q.source + 1)) refl;
    holds = subst (λ (lists : List (Buffer Request)). OrderedNetworkHolds p.chip (network_of (record p { routers = routers; unordered = lists; made = made }))) (sym is) holds;
    trackers = kept.trackers;
    capacities = λ t within.
        ap (λ (lists : List (Buffer Request)). (unordered_at lists t).capacity) is
        ∙ elim (cases_eq t q.source) [
          | inl same ↦
              ap (λ (u : ℕ). (unordered_at more u).capacity) same ∙ ap (λ (list : Buffer Request). list.capacity) there ∙ kept.capacities q.source inside
          | inr other ↦ ap (λ (list : Buffer Request). list.capacity) (others t other) ∙ kept.capacities t within
        ];
    counts = λ t within.
        ap (λ (ns : List ℕ). slice_index ns t) counts
        ∙ elim (cases_eq t q.source) [
          | inl same ↦
              let longer = ap length (requests_of_tile-own p.ordered p.unordered more q there others) in
              let own = length-append (requests_of_tile p.ordered p.unordered q.source) (q ∷ []) in
              let now : slice_index (slice_set p.made q.source (slice_index p.made q.source + 1)) q.source ≡ slice_index p.made q.source + 1 =
              get_or-set_same p.made q.source (slice_index p.made q.source + 1) 0 (omega (arith, kept.sizes.made))
              in
              let before = kept.counts q.source inside in
              let here : slice_index (slice_set p.made q.source (slice_index p.made q.source + 1)) q.source ≡ length (requests_of_tile p.ordered more q.source) = omega (arith, longer, own, now, before) in
              ap (λ (u : ℕ). slice_index (slice_set p.made q.source (slice_index p.made q.source + 1)) u) same ∙ here ∙ ap (λ (u : ℕ). length (requests_of_tile p.ordered more u)) (sym same)
          | inr other ↦
              get_or-set_other p.made q.source t (slice_index p.made q.source + 1) 0 other ∙ kept.counts t within
              ∙ ap length (sym (requests_of_tile-others p.ordered p.unordered more q there others t other))
        ]
        ∙ ap (λ (lists : List (Buffer Request)). length (requests_of_tile p.ordered lists t)) (sym is);
  }

  -- the interface of its tile has made one more
  pub inject_seen : (unordered : List (Buffer Request)) (made : List ℕ) → unordered ≡ more
      → with_interface (record (network_of p) { copies = routers.copies }) q.source
      (record (interface_of p.windows.windows.posts p.ordered p.unordered p.delivered q.source) { made = requests_of_tile p.ordered p.unordered q.source ++ q ∷ [] })
      ≡ network_of (record p { routers = routers; unordered = unordered; made = made })
  inject_seen unordered made is =
      let f = interface_of p.windows.windows.posts p.ordered p.unordered p.delivered in
      let g = interface_of p.windows.windows.posts p.ordered more p.delivered in
      let n = tile_count p.chip in
      let own = requests_of_tile-own p.ordered p.unordered more q there others in
      let away = requests_of_tile-others p.ordered p.unordered more q there others in
      ap (λ (interfaces : List Interface). record { copies = routers.copies; windows = p.windows.windows; ordered = p.ordered; interfaces = interfaces })
      (ap (λ (rs : List Request). set (map f (range_with_len 0 n)) q.source (record { made = rs; posted = (f q.source).posted; delivered = (f q.source).delivered })) (sym own)
      ∙ other_at f n g q.source inside (λ u within other. ap (λ (rs : List Request). record { made = rs; posted = (f u).posted; delivered = (f u).delivered }) (away u other))
      ∙ ap (λ (lists : List (Buffer Request)). interfaces_of n p.windows.windows.posts p.ordered lists p.delivered) (sym is))

-- the step of the definitions
pub injected : (p : Parts) (routers : RequestNetwork) (t : ℕ) (kind : Kind) (line : ℕ) (q : Request) (kept : AreKept p) (inside : q.source < tile_count p.chip) (number : q.number ≡ length (requests_of_tile p.ordered p.unordered q.source))
    → IsNextOf p t kind line q
    → after_entry p.chip.grid p.routers.copies q ≡ Some routers.copies → after_inject p.chip (network_of p) t kind line ≡ Some (network_of (after p routers q kept inside number))
injected p routers t kind line q kept inside number one enters =
    after_inject-some p.chip (network_of p) t kind line (interface_of p.windows.windows.posts p.ordered p.unordered p.delivered t) routers.copies (interface_at p t one.inside)
    (ap (λ (q : Request). after_entry p.chip.grid p.routers.copies q) one.is ∙ enters)
    ∙ ap Some (next_made p routers.copies t kind line q one ∙ inject_seen p routers q kept inside number (more p routers q kept inside number) p.made refl)
