-- Where the order grows, the place of the get for which a tile waits stays, or a new get is ordered.
use Rattle.std.proofs.Common.{◌≡◌, ℕ, ◌≤◌, refl, sym, ◌∙◌, ap, subst, arith, inl, inr, ◌⊎◌, Option, Some, None, List, ◌++◌, length}
use Rattle.std.specs.Option.{option_or}
use Rattle.std.proofs.lemmas.Bool.{false≢true, cases_lt, cases_eq}
use Rattle.std.proofs.lemmas.Option.{slice_get_within}
use Rattle.mesh_gen.specs.declared.request.Request.{Request}
use Rattle.chip_model.specs.Node.{Node}
use Rattle.chip_model.specs.Suppliers.{place_of_ordered}
use Rattle.net_iface.proofs.Named.{slice_get-append_left, slice_get_grown}
use Rattle.supply_laws.proofs.GetPlaces.{FirstGet, FirstGetIs, first_get, first_get_is, open_place}

-- a new get is ordered where the tile waited for none
pub record IsOrderedNow (bound : ℕ) (old new : Option ℕ) : Type 0 where
  pub place : ℕ
  pub none : old ≡ None
  pub at : new ≡ Some place
  pub beyond : bound ≤ place

pub grown_place : (ordered more : List Request) (node : Node)
    → (open_place (ordered ++ more) node ≡ open_place ordered node) ⊎ IsOrderedNow (length ordered) (open_place ordered node) (open_place (ordered ++ more) node)
grown_place ordered more node =
    by (place_of_ordered node.side.misses.demand) refl (first_get ordered node.tile node.delivered) (first_get (ordered ++ more) node.tile node.delivered) refl refl
    (first_get_is ordered node.tile node.delivered) (first_get_is (ordered ++ more) node.tile node.delivered)
  where
    t : ℕ
    t = node.tile

    same_first : (k j : ℕ) → FirstGet ordered t node.delivered k → FirstGet (ordered ++ more) t node.delivered j → j ≡ k
    same_first k j was now = elim (cases_eq j k) [
      | inl same ↦ same
      | inr away ↦ elim (cases_lt j k) [
        | inl before ↦ (
            let within = slice_get_within ordered k was.get was.at in
            absurd (false≢true (sym (was.first j now.get now.beyond before (sym (slice_get-append_left ordered more j (omega (arith, before, within))) ∙ now.at)) ∙ now.gets)))
        | inr beyond ↦ absurd (false≢true (sym (now.first k was.get was.beyond (omega (arith, beyond, away)) (slice_get_grown ordered more k was.get was.at)) ∙ was.gets))
      ]
    ]

    Goal : Option ℕ → Option ℕ → Option ℕ → Type 0
    Goal o old new = (option_or o new ≡ option_or o old) ⊎ IsOrderedNow (length ordered) (option_or o old) (option_or o new)

    by : (o : Option ℕ) → place_of_ordered node.side.misses.demand ≡ o → (old new : Option ℕ) → first_get ordered t node.delivered ≡ old → first_get (ordered ++ more) t node.delivered ≡ new
        → FirstGetIs ordered t node.delivered (first_get ordered t node.delivered) → FirstGetIs (ordered ++ more) t node.delivered (first_get (ordered ++ more) t node.delivered)
        → (open_place (ordered ++ more) node ≡ open_place ordered node) ⊎ IsOrderedNow (length ordered) (open_place ordered node) (open_place (ordered ++ more) node)
    by o is old new old_is new_is was now =
        rw (is, old_is, new_is) (cases o old new (subst (FirstGetIs ordered t node.delivered) old_is was) (subst (FirstGetIs (ordered ++ more) t node.delivered) new_is now))
      where
        cases : (o old new : Option ℕ) → FirstGetIs ordered t node.delivered old → FirstGetIs (ordered ++ more) t node.delivered new → Goal o old new
        cases (Some p) old new was now = inl refl
        cases None None None was now = inl refl
        cases None None (Some j) was now = inr (record {
          place = j;
          none = refl;
          at = refl;
          beyond = elim (cases_lt j (length ordered)) [
            | inl before ↦ absurd (false≢true (sym (was j now.get now.beyond (sym (slice_get-append_left ordered more j before) ∙ now.at)) ∙ now.gets))
            | inr beyond ↦ beyond
          ];
        })
        cases None (Some k) None was now = absurd (false≢true (sym (now k was.get was.beyond (slice_get_grown ordered more k was.get was.at)) ∙ was.gets))
        cases None (Some k) (Some j) was now = inl (ap Some (same_first k j was now))
