-- Room: requests that a tile has not delivered are owed to it, so that there are no more of them than request channels.
use Rattle.std.proofs.Common.{◌≡◌, ◌≢◌, ℕ, zero, suc, ◌+◌, ◌<◌, ◌≤◌, List, [], ◌∷◌, ◌++◌, length, take, drop, map, get_or, Option, Some, None, refl, sym, ◌∙◌, ap, subst, arith, length-append, length-drop}
use Rattle.std.specs.Prelude.{slice_get, slice_index, option_map}
use Rattle.std.specs.List.{All, AllPairs, AllByRecursion}
use Rattle.std.proofs.lemmas.Bool.{lt-ltb, le-ltb}
use Rattle.std.proofs.lemmas.List.{take-append-drop, take-take, length-map}
use Rattle.std.proofs.lemmas.List.Elements.{All-drop, recursion_from_All, All-from_recursion}
use Rattle.std.proofs.lemmas.Option.{slice_get-get_or, slice_get-map, slice_get_within}
use Rattle.circular_buffer.specs.Buffer.{Buffer}
use Rattle.mesh_gen.specs.declared.request.Request.{Request}
use Rattle.vc_bank.specs.Places.{Network}
use Rattle.order_tracker.specs.Order.{order_from, order}
use Rattle.order_tracker.specs.Tracker.{TrackerState, IsWindow, left_of}
use Rattle.chip_model.specs.declared.net_copy.NetCopy.{NetCopy}
use Rattle.chip_model.specs.Chip.{Chip, tile_count}
use Rattle.chip_model.specs.Windows.{Windows}
use Rattle.chip_model.specs.Copies.{Name, name_of}
use Rattle.chip_model.specs.OrderedNetwork.{sources}
use Rattle.chip_model.specs.Bookkeeping.{count_by_tile}
use Rattle.chip_model.specs.CopiesOwed.{owing, times_named, channel_count}
use Rattle.chip_model.specs.NetworkFits.{requests_of}
use Rattle.net_iface.specs.Unordered.{unordered_of}
use Rattle.net_iface.specs.Parts.{requests_of_tile}
use Rattle.net_iface.proofs.Accounts.{IsAccounted}
use Rattle.net_iface.proofs.Named.{slice_get_grown, slice_get-append_right, length-requests_of, count_by_tile-append, request_at, number_at, times_named-made, times_named-ordered}
use Rattle.net_iface.proofs.Orders.{order_from-append, length-order_from-ge}
use Rattle.net_iface.proofs.Entries.{source_below}

-- ---- fronts of the order

slice_get-take : {X : Type 0} (n k : ℕ) (xs : List X) → k < n → slice_get (take n xs) k ≡ slice_get xs k
slice_get-take zero k xs below = absurd (omega arith)
slice_get-take (suc n) k [] below = refl
slice_get-take (suc n) zero (x ∷ xs) below = refl
slice_get-take (suc n) (suc k) (x ∷ xs) below = slice_get-take n k xs (omega arith)

slice_get-drop_add : {X : Type 0} (n k : ℕ) (xs : List X) → slice_get (drop n xs) k ≡ slice_get xs (n + k)
slice_get-drop_add zero k xs = ap (slice_get xs) (omega arith)
slice_get-drop_add (suc n) k [] = refl
slice_get-drop_add (suc n) k (x ∷ xs) = slice_get-drop_add n k xs ∙ one_on (n + k) (suc n + k) x xs (omega arith)
  where
    one_on : {X : Type 0} (a b : ℕ) (x : X) (xs : List X) → b ≡ suc a → slice_get xs a ≡ slice_get (x ∷ xs) b
    one_on {X} a b x xs is = rw is refl

count-mono : (t a b : ℕ) (requests : List Request) → a ≤ b → count_by_tile t (take a requests) ≤ count_by_tile t (take b requests)
count-mono t a b requests low =
    let split = ap (count_by_tile t) (sym (take-append-drop a (take b requests))) ∙ count_by_tile-append t (take a (take b requests)) (drop a (take b requests)) in
    let front : count_by_tile t (take a (take b requests)) ≡ count_by_tile t (take a requests) = ap (count_by_tile t) (take-take a b requests low) in
    omega (arith, split, front)

count-all : (t a : ℕ) (requests : List Request) → count_by_tile t (take a requests) ≤ count_by_tile t requests
count-all t a requests =
    let split = ap (count_by_tile t) (sym (take-append-drop a requests)) ∙ count_by_tile-append t (take a requests) (drop a requests) in omega (arith, split)

-- a request counts after its place
count-behind : (a b : ℕ) (requests : List Request) (q : Request) → slice_get requests a ≡ Some q → a < b → count_by_tile q.source (take a requests) < count_by_tile q.source (take b requests)
count-behind a b requests q there before =
    let here = request_at q.source (take b requests) a q (slice_get-take b a requests before ∙ there) refl in
    let within = slice_get_within (requests_of q.source (take b requests)) (count_by_tile q.source (take a (take b requests))) q here in
    let front : count_by_tile q.source (take a (take b requests)) ≡ count_by_tile q.source (take a requests) = ap (count_by_tile q.source) (take-take a b requests (omega arith)) in
    omega (arith, within, front, length-requests_of q.source (take b requests))

-- ---- what was made and is not delivered is owed

module _ (chip : Chip) (copies : Network NetCopy) (w : Windows) (ordered : List Request) (unordered : List (Buffer Request)) (delivered : List ℕ) (accounted : IsAccounted chip copies w ordered unordered delivered) where
  owed_made : (t k : ℕ) (q : Request) → q.source < tile_count chip → t < tile_count chip → slice_get (requests_of_tile ordered unordered q.source) k ≡ Some q
      → count_by_tile q.source (take (slice_index delivered t) ordered) ≤ k → owing chip.grid copies (name_of q) t ≡ 1
  owed_made t k q source inside there behind =
      let all = accounted.made q.source source in
      let number : q.number ≡ k = (all k q there).1 in
      let within : k < length (requests_of_tile ordered unordered q.source) = slice_get_within (requests_of_tile ordered unordered q.source) k q there in
      let was_made : times_named (name_of q) (requests_of_tile ordered unordered q.source) ≡ 1 =
      times_named-made q.source q.number (requests_of_tile ordered unordered q.source) all ∙ rw (number, lt-ltb k (length (requests_of_tile ordered unordered q.source)) within) refl
      in
      let not_yet : times_named (name_of q) (take (slice_index delivered t) ordered) ≡ 0 =
      times_named-ordered q.source q.number (slice_index delivered t) ordered (unordered_of unordered q.source) all
      ∙ rw (number, le-ltb k (count_by_tile q.source (take (slice_index delivered t) ordered)) behind) refl
      in
      let balance = accounted.owed (name_of q) t source inside in
      omega (arith, balance, was_made, not_yet)

  -- one that is ordered, at a place that the tile has not delivered
  pub owed_ordered : (t place : ℕ) (q : Request) → 0 < tile_count chip → t < tile_count chip → slice_get ordered place ≡ Some q → slice_index delivered t ≤ place → owing chip.grid copies (name_of q) t ≡ 1
  owed_ordered t place q some inside there behind =
      let source = source_below (tile_count chip) ordered w.closed place q some accounted.in_order there in
      owed_made t (count_by_tile q.source (take place ordered)) q source inside
      (slice_get_grown (requests_of q.source ordered) (unordered_of unordered q.source) (count_by_tile q.source (take place ordered)) q (request_at q.source ordered place q there refl))
      (count-mono q.source (slice_index delivered t) place ordered behind)

  -- one that is not ordered
  pub owed_unordered : (t place : ℕ) (q : Request) → t < tile_count chip → slice_get (unordered_of unordered t) place ≡ Some q → owing chip.grid copies (name_of q) t ≡ 1
  owed_unordered t place q inside there =
      let here : slice_get (requests_of_tile ordered unordered t) (count_by_tile t ordered + place) ≡ Some q =
      slice_get-append_right (requests_of t ordered) (unordered_of unordered t) (count_by_tile t ordered + place) place (omega (arith, length-requests_of t ordered)) ∙ there
      in
      let own = (accounted.made t inside (count_by_tile t ordered + place) q here).0 in
      owed_made t (count_by_tile t ordered + place) q (omega (arith, own)) inside (ap (λ (s : ℕ). slice_get (requests_of_tile ordered unordered s) (count_by_tile t ordered + place)) own ∙ here)
      (rw own (omega (arith, count-all t (slice_index delivered t) ordered)))

-- ---- names in a list

record IsNamedAt (requests : List Request) (place : ℕ) (name : Name) : Type 0 where
  request : Request
  there : slice_get requests place ≡ Some request
  named : name_of request ≡ name

named_by : (requests : List Request) (place : ℕ) (name : Name) (found : Option Request) → slice_get requests place ≡ found → option_map {U = Name} name_of found ≡ Some name → IsNamedAt requests place name
named_by requests place name None found is = cc
named_by requests place name (Some q) found is = record { request = q; there = found; named = same_value (name_of q) name is }
  where
    same_value : (a b : Name) → ◌≡◌ {A = Option Name} (Some a) (Some b) → a ≡ b
    same_value a b same = cc

named_at : (requests : List Request) (place : ℕ) (d : Name) → place < length requests → IsNamedAt requests place (get_or (map name_of requests) place d)
named_at requests place d inside =
    named_by requests place (get_or (map name_of requests) place d) (slice_get requests place) refl
    (sym (slice_get-map name_of requests place) ∙ slice_get-get_or (map name_of requests) place d (omega (arith, length-map requests name_of)))

-- requests of which each is owed, and no two have one name, are few
few_named : (g : ℕ) (requests : List Request) (owed : Name → Type 0) → ((names : List Name) → AllPairs (λ a b. a ≢ b) names → All owed names → length names ≤ g)
    → ((place : ℕ) (q : Request) → slice_get requests place ≡ Some q → owed (name_of q))
    → ((i j : ℕ) (a b : Request) → i < j → slice_get requests i ≡ Some a → slice_get requests j ≡ Some b → name_of a ≢ name_of b) → length requests ≤ g
few_named g requests owed law each apart =
    let few = law (map name_of requests)
    (λ i j d before within.
    let first = named_at requests i d (omega (arith, length-map requests name_of)) in
    let second = named_at requests j d (omega (arith, length-map requests name_of)) in
    λ same. apart i j first.request second.request before first.there second.there (first.named ∙ same ∙ sym second.named))
    (λ place d within. let here = named_at requests place d (omega (arith, length-map requests name_of)) in subst owed here.named (each place here.request here.there))
    in
    omega (arith, few, length-map requests name_of)

-- ---- the two bounds

module _ (chip : Chip) (copies : Network NetCopy) (w : Windows) (ordered : List Request) (unordered : List (Buffer Request)) (delivered : List ℕ) (t : ℕ) (accounted : IsAccounted chip copies w ordered unordered delivered)
    (some : 0 < tile_count chip) (inside : t < tile_count chip)
    (law : (names : List Name) → AllPairs (λ a b. a ≢ b) names → All (λ name. 0 < owing chip.grid copies name t) names → length names ≤ channel_count chip) where
  -- of a tile's requests that are not ordered there are no more than channels
  pub unordered_few : length (unordered_of unordered t) ≤ channel_count chip
  unordered_few =
      few_named (channel_count chip) (unordered_of unordered t) (λ name. 0 < owing chip.grid copies name t) law
      (λ place q there. let one = owed_unordered chip copies w ordered unordered delivered accounted t place q inside there in omega (arith, one))
      (λ i j a b before first second.
      let number_a = (accounted.made t inside (count_by_tile t ordered + i) a (slice_get-append_right (requests_of t ordered) (unordered_of unordered t) (count_by_tile t ordered + i) i (omega (arith, length-requests_of t ordered)) ∙ first)).1 in
      let number_b = (accounted.made t inside (count_by_tile t ordered + j) b (slice_get-append_right (requests_of t ordered) (unordered_of unordered t) (count_by_tile t ordered + j) j (omega (arith, length-requests_of t ordered)) ∙ second)).1 in
      λ same. let numbers : a.number ≡ b.number = ap (λ (name : Name). name.1) same in absurd (omega (arith, number_a, number_b, numbers, before)))

  -- of the requests that are ordered and that a tile has not delivered there are no more than channels
  pub undelivered_few : length (drop (slice_index delivered t) ordered) ≤ channel_count chip
  undelivered_few =
      few_named (channel_count chip) (drop (slice_index delivered t) ordered) (λ name. 0 < owing chip.grid copies name t) law
      (λ place q there.
      let one = owed_ordered chip copies w ordered unordered delivered accounted t (slice_index delivered t + place) q some inside (sym (slice_get-drop_add (slice_index delivered t) place ordered) ∙ there) (omega arith) in
      omega (arith, one))
      (λ i j a b before first second.
      let there_a = sym (slice_get-drop_add (slice_index delivered t) i ordered) ∙ first in
      let there_b = sym (slice_get-drop_add (slice_index delivered t) j ordered) ∙ second in
      apart (slice_index delivered t + i) (slice_index delivered t + j) a b (omega arith) there_a there_b)
    where
      apart : (x y : ℕ) (a b : Request) → x < y → slice_get ordered x ≡ Some a → slice_get ordered y ≡ Some b → name_of a ≢ name_of b
      apart x y a b before first second = λ same.
          let source_a = source_below (tile_count chip) ordered w.closed x a some accounted.in_order first in
          let number_a = number_at a.source x ordered (unordered_of unordered a.source) a (accounted.made a.source source_a) first refl in
          let sources_same : b.source ≡ a.source = ap (λ (name : Name). name.0) (sym same) in
          let number_b = number_at a.source y ordered (unordered_of unordered a.source) b (accounted.made a.source source_a) second sources_same in
          let numbers : a.number ≡ b.number = ap (λ (name : Name). name.1) same in
          absurd (omega (arith, number_a, number_b, numbers, count-behind x y ordered a first before))

-- ---- room for one more window

-- the requests that are ordered are as many as the entries of the order
pub length-ordered : (n : ℕ) (ordered : List Request) (closed : List ℕ) → sources ordered ≡ order n closed → length ordered ≡ length (order n closed)
length-ordered n ordered closed in_order = omega (arith, ap length in_order, length-map ordered (λ (q : Request). q.source))

-- windows that are not used up have an entry each, and so has one that is still to be taken
pub windows_few : (n k d vector : ℕ) (ordered : List Request) (closed : List ℕ) (tracker : TrackerState) → 0 < n → sources ordered ≡ order n closed → AllByRecursion (IsWindow n) closed → slice_get closed k ≡ Some vector
    → tracker.tiles ≡ n → AllByRecursion (IsWindow n) tracker.windows → left_of tracker ≡ drop d (order tracker.tiles (take k closed)) → d ≤ length (order tracker.tiles (take k closed))
    → length tracker.windows + 1 ≤ length (drop d ordered)
windows_few n k d vector ordered closed tracker some in_order all there tiles sets left within =
    let taken = take k closed in
    let rest = order_from n (0 + length taken) (drop k closed) in
    let split : order n closed ≡ order n taken ++ rest = ap (λ (windows : List ℕ). order n windows) (sym (take-append-drop k closed)) ∙ order_from-append n 0 taken (drop k closed) in
    let more : length (drop k closed) ≤ length rest =
    length-order_from-ge n (0 + length taken) (drop k closed) some (recursion_from_All (IsWindow n) (drop k closed) (All-drop (IsWindow n) k closed (All-from_recursion (IsWindow n) closed all)))
    in
    let below : k < length closed = slice_get_within closed k vector there in
    let has = rw (tiles) at left in
    let inside = rw (tiles) at within in
    let own = length-order_from-ge n tracker.number tracker.windows some sets in
    omega (
      arith,
      length-ordered n ordered closed in_order,
      ap length split,
      length-append (order n taken) rest,
      more,
      below,
      length-drop k closed,
      ap length has,
      own,
      inside,
      length-drop d (order n taken),
      length-drop d ordered,
    )
