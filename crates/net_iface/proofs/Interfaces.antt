-- The interfaces of all tiles, tile by tile.
use Rattle.std.proofs.Common.{◌≡◌, ◌≢◌, ℕ, ◌<◌, ◌≤◌, set, sym, ◌∙◌, ap, inl, inr, arith, map, List, Some, None}
use Rattle.std.specs.Prelude.{slice_get}
use Rattle.std.specs.List.{range_with_len}
use Rattle.std.proofs.lemmas.Bool.{cases_eq}
use Rattle.std.proofs.lemmas.List.{length-set, get_or-set_same, get_or-set_other}
use Rattle.std.proofs.lemmas.List.FromFn.{length-map-range_with_len, get_or-map-range_with_len, fill_by_all}
use Rattle.std.proofs.lemmas.Option.{slice_get-get_or, slice_get_within, slice_get_past}
use Rattle.mesh_gen.specs.declared.request.Request.{Request}
use Rattle.chip_model.specs.OrderedNetwork.{Interface}

-- an interface by its fields
abbrev pub as_interface : List Request → ℕ → ℕ → Interface
as_interface made posted delivered = record { made = made; posted = posted; delivered = delivered }

module _ {X : Type 0} (f : ℕ → X) (n : ℕ) where
  pub tile_at : (t : ℕ) → t < n → slice_get (map f (range_with_len 0 n)) t ≡ Some (f t)
  tile_at t inside =
      slice_get-get_or (map f (range_with_len 0 n)) t (f t) (omega (arith, length-map-range_with_len f 0 n))
      ∙ ap Some (get_or-map-range_with_len f 0 n t t (f t) inside (omega arith))

  pub no_tile : (t : ℕ) → n ≤ t → slice_get (map f (range_with_len 0 n)) t ≡ None
  no_tile t past = slice_get_past (map f (range_with_len 0 n)) t (omega (arith, length-map-range_with_len f 0 n))

  pub tile_within : (t : ℕ) (x : X) → slice_get (map f (range_with_len 0 n)) t ≡ Some x → t < n
  tile_within t x is = omega (arith, slice_get_within (map f (range_with_len 0 n)) t x is, length-map-range_with_len f 0 n)

  pub tile_is : (t : ℕ) (x : X) → slice_get (map f (range_with_len 0 n)) t ≡ Some x → f t ≡ x
  tile_is t x is = let there = tile_at t (tile_within t x is) in cc

  -- the same for each tile
  pub same_tiles : (g : ℕ → X) → ((t : ℕ) → t < n → f t ≡ g t) → map f (range_with_len 0 n) ≡ map g (range_with_len 0 n)
  same_tiles g same =
      fill_by_all g (map f (range_with_len 0 n)) n (f 0) (length-map-range_with_len f 0 n)
      (λ k inside. get_or-map-range_with_len f 0 n k k (f 0) inside (omega arith) ∙ same k inside)

  -- another value for one tile
  pub other_at : (g : ℕ → X) (t : ℕ) → t < n → ((u : ℕ) → u < n → u ≢ t → g u ≡ f u) → set (map f (range_with_len 0 n)) t (g t) ≡ map g (range_with_len 0 n)
  other_at g t inside others =
      let count = length-map-range_with_len f 0 n in
      fill_by_all g (set (map f (range_with_len 0 n)) t (g t)) n (f 0) (length-set (map f (range_with_len 0 n)) t (g t) ∙ count)
      (λ k within. elim (cases_eq k t) [
        | inl here ↦ rw here (get_or-set_same (map f (range_with_len 0 n)) t (g t) (f 0) (omega (arith, count)))
        | inr away ↦
            get_or-set_other (map f (range_with_len 0 n)) t k (g t) (f 0) away
            ∙ get_or-map-range_with_len f 0 n k k (f 0) within (omega arith) ∙ sym (others k within away)
      ])
