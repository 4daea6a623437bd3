-- A window closes: the requests of its tiles are ordered, by the rotating priority.
use Rattle.std.proofs.Common.{◌≡◌, ℕ, ◌+◌, ◌%◌, ◌<◌, true, cond, List, [], ◌∷◌, ◌++◌, length, drop, Some, None, refl, sym, ◌∙◌, ap, inl, inr, append_assoc, append-nil, arith}
use Rattle.std.specs.Prelude.{slice_get, slice_index}
use Rattle.std.specs.List.{filter_map}
use Rattle.std.proofs.lemmas.Bool.{cases_lt, cases_Bool}
use Rattle.std.proofs.lemmas.List.{get_or_past}
use Rattle.circular_buffer.specs.Buffer.{Buffer, buffer}
use Rattle.mesh_gen.specs.declared.request.Request.{Request}
use Rattle.mesh_gen.specs.Ports.{count_if}
use Rattle.mesh_gen.specs.TileSet.{has_tile}
use Rattle.mesh_gen.proofs.TileSets.{has_tile-none}
use Rattle.vc_bank.specs.Places.{Network}
use Rattle.order_tracker.specs.Order.{expansion, times}
use Rattle.chip_model.specs.declared.net_copy.NetCopy.{NetCopy}
use Rattle.chip_model.specs.Chip.{Chip, tile_count}
use Rattle.chip_model.specs.Windows.{Windows}
use Rattle.chip_model.specs.OrderedNetwork.{sources, lowest_unordered, ordered_by_window}
use Rattle.chip_model.specs.Bookkeeping.{count_by_tile}
use Rattle.chip_model.specs.NetworkFits.{requests_of}
use Rattle.net_iface.specs.Unordered.{unordered_at, unordered_of, lowest_of, LoseLowest}
use Rattle.net_iface.specs.Parts.{Parts, requests_of_tile, interface_of, interfaces_of, network_of}
use Rattle.net_iface.proofs.Accounts.{IsAccounted}
use Rattle.net_iface.proofs.Named.{slice_get-append_right, length-requests_of, requests_of-append, count_by_tile-append}
use Rattle.net_iface.proofs.Places.{item_at}
use Rattle.net_iface.proofs.Interfaces.{as_interface, same_tiles}
use Rattle.net_iface.proofs.Expected.{interface_at}
use Rattle.net_iface.proofs.Priorities.{ordered_in, requests_of-round, ordered_taken, ordered_passed, same_expansion}

head_and_rest : (xs : List Request) (q : Request) → slice_get xs 0 ≡ Some q → q ∷ drop 1 xs ≡ xs
head_and_rest [] q is = cc
head_and_rest (x ∷ xs) q is = let same : x ≡ q = cc in ap (λ (r : Request). r ∷ xs) (sym same)

module _ (chip : Chip) (copies : Network NetCopy) (w : Windows) (ordered : List Request) (unordered more : List (Buffer Request)) (delivered : List ℕ)
    (lose : LoseLowest 0 (tile_count chip) w.posts unordered more) (accounted : IsAccounted chip copies w ordered unordered delivered) (some : 0 < tile_count chip) (count : length unordered ≡ tile_count chip) where
  -- the requests that the window orders
  abbrev pub added : List Request
  added = filter_map (lowest_of unordered) (expansion (tile_count chip) (length w.closed) w.posts)

  lowest_from : (u : ℕ) (q : Request) → lowest_of unordered u ≡ Some q → q.source ≡ u
  lowest_from u q is = elim (cases_lt u (tile_count chip)) [
    | inl inside ↦
        (accounted.made u inside (length (requests_of u ordered) + 0) q
        (slice_get-append_right (requests_of u ordered) (unordered_of unordered u) (length (requests_of u ordered) + 0) 0 refl ∙ is)).0
    | inr past ↦
        let none : unordered_at unordered u ≡ buffer [] 0 = get_or_past unordered u (buffer [] 0) (omega (arith, count)) in
        let nothing : lowest_of unordered u ≡ None = ap (λ (list : Buffer Request). slice_get list.items 0) none in
        cc
  ]

  lowest_there : (t : ℕ) → t < tile_count chip → has_tile w.posts t ≡ true → (q : Request) × (lowest_of unordered t ≡ Some q) × (q.source ≡ t)
  lowest_there t inside posts = let first = item_at (unordered_of unordered t) 0 (accounted.posted t inside posts) in (first.item, first.there, lowest_from t first.item first.there)

  added_of : (t : ℕ) → t < tile_count chip → requests_of t added ≡ requests_of t (ordered_in (lowest_of unordered) (has_tile w.posts) (t ∷ []))
  added_of t inside =
      let first : length w.closed % tile_count chip < tile_count chip = omega arith in
      requests_of-round (lowest_of unordered) (has_tile w.posts) lowest_from (tile_count chip) (length w.closed % tile_count chip) t (omega arith) inside

  -- each tile has made what it had made
  pub made_same : (t : ℕ) → t < tile_count chip → requests_of_tile (ordered ++ added) more t ≡ requests_of_tile ordered unordered t
  made_same t inside =
      let front = requests_of t ordered in
      let waiting = unordered_of unordered t in
      let left = unordered_of more t in
      ap (λ (rs : List Request). rs ++ left) (requests_of-append t ordered added)
      ∙ elim (cases_Bool (has_tile w.posts t)) [
        | inl posts ↦
            let (q, is, source) = lowest_there t inside posts in
            let one : requests_of t added ≡ q ∷ [] = added_of t inside ∙ ordered_taken (lowest_of unordered) (has_tile w.posts) t q posts is source in
            let lost : left ≡ drop 1 waiting = ap (λ (list : Buffer Request). list.items) (lose.lost t (omega arith) inside posts) in
            ap (λ (rs : List Request). (front ++ rs) ++ left) one ∙ append_assoc front (q ∷ []) left ∙ ap (λ (rs : List Request). front ++ q ∷ rs) lost
            ∙ ap (λ (rs : List Request). front ++ rs) (head_and_rest waiting q is)
        | inr not_there ↦
            let none : requests_of t added ≡ [] = added_of t inside ∙ ordered_passed (lowest_of unordered) (has_tile w.posts) t not_there in
            let same : left ≡ waiting = ap (λ (list : Buffer Request). list.items) (lose.left_out t not_there) in
            ap (λ (rs : List Request). (front ++ rs) ++ left) none ∙ ap (λ (rs : List Request). rs ++ left) (append-nil front) ∙ ap (λ (rs : List Request). front ++ rs) same
      ]

  -- the order grows by one request of each tile that posted
  pub count_same : (t : ℕ) → t < tile_count chip → count_by_tile t ordered + count_if (has_tile w.posts t) ≡ count_by_tile t (ordered ++ added) + count_if (has_tile 0 t)
  count_same t inside =
      let grows = count_by_tile-append t ordered added in
      let counted = length-requests_of t added in
      let none : count_if (has_tile 0 t) ≡ 0 = ap count_if (has_tile-none t) in
      elim (cases_Bool (has_tile w.posts t)) [
        | inl posts ↦
            let (q, is, source) = lowest_there t inside posts in
            let one : length (requests_of t added) ≡ 1 = ap length (added_of t inside ∙ ordered_taken (lowest_of unordered) (has_tile w.posts) t q posts is source) in
            let here : count_if (has_tile w.posts t) ≡ 1 = ap count_if posts in
            omega (arith, grows, counted, none, one, here)
        | inr not_there ↦
            let one : length (requests_of t added) ≡ 0 = ap length (added_of t inside ∙ ordered_passed (lowest_of unordered) (has_tile w.posts) t not_there) in
            let here : count_if (has_tile w.posts t) ≡ 0 = ap count_if not_there in
            omega (arith, grows, counted, none, one, here)
      ]

  -- the interfaces are as they were
  pub interfaces_same : interfaces_of (tile_count chip) w.posts ordered unordered delivered ≡ interfaces_of (tile_count chip) 0 (ordered ++ added) more delivered
  interfaces_same =
      same_tiles (interface_of w.posts ordered unordered delivered) (tile_count chip) (interface_of 0 (ordered ++ added) more delivered)
      (λ t inside.
      ap (λ (rs : List Request). as_interface rs (count_by_tile t ordered + cond (has_tile w.posts t) 1 0) (slice_index delivered t)) (sym (made_same t inside))
      ∙ ap (λ (k : ℕ). as_interface (requests_of_tile (ordered ++ added) more t) k (slice_index delivered t)) (count_same t inside))

-- the lowest request of a tile that is not ordered is the first of its list
lowest_is : (p : Parts) (t : ℕ) → t < tile_count p.chip → lowest_unordered (network_of p) t ≡ lowest_of p.unordered t
lowest_is p t inside =
    rw (interface_at p t inside)
    (slice_get-append_right (requests_of t p.ordered) (unordered_of p.unordered t) (times t (sources p.ordered)) 0 (omega (arith, length-requests_of t p.ordered)))

pub ordered_by_window_is : (p : Parts) → 0 < tile_count p.chip
    → ordered_by_window p.chip (network_of p) ≡ filter_map (lowest_of p.unordered) (expansion (tile_count p.chip) (length p.windows.windows.closed) p.windows.windows.posts)
ordered_by_window_is p some =
    same_expansion (tile_count p.chip) (length p.windows.windows.closed) p.windows.windows.posts (lowest_unordered (network_of p)) (lowest_of p.unordered) some (lowest_is p)
