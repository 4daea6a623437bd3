-- The faults of values out of their limits, in their order.
use Rattle.std.proofs.Common.{◌≡◌, ◌*◌, List, [], ◌∷◌, ◌++◌, Option, Some, None, Ok, Err, refl}
use Rattle.std.specs.List.{flat_map}
use Rattle.std.specs.Option.{ok_or}
use Rattle.std.proofs.lemmas.Grind.{flat_map-append}
use Rattle.toml.specs.Data.{Members}
use Rattle.doc_text.specs.declared.key.Key.TheVariants.{Posts, Cols, Rows, Window, Vcs, DataVcs, Lines, Sets, Ways, Controllers, Memory}
use Rattle.doc_text.specs.declared.fault.DocFault.{DocFault}
use Rattle.mesh_doc.specs.declared.end.DocEnd.{DocEnd}
use Rattle.mesh_doc.specs.declared.sizes.Extent.{Extent}
use Rattle.mesh_doc.specs.Tables.{cores_of}
use Rattle.mesh_doc.specs.Faults.{mesh_table, mesh_sizes, tiles_described, range_fault, range_faults, core_range_fault, out_of_range}
use Rattle.mesh_doc.specs.Reading.{first}
use Rattle.mesh_doc.specs.Seen.{IsFirst, IsExtentOf}
use Rattle.mesh_doc.proofs.Firsts.{first_front, first_rest, end_rest, both_empty}

pub ok_or-none : {A E : Type 0} (o : Option A) (e f : E) → Err f ≡ ok_or o e → (o ≡ None) × (f ≡ e)
ok_or-none None e f is = (refl, cc)
ok_or-none (Some x) e f is = cc

pub ok_or-some : {A E : Type 0} (o : Option A) (e : E) (x : A) → Ok x ≡ ok_or o e → o ≡ Some x
ok_or-some None e x is = cc
ok_or-some (Some y) e x is = cc

pub count_is : (top : Members) (extent : Extent) → IsExtentOf (mesh_table top) extent → tiles_described top ≡ extent.cols * extent.rows
count_is top extent is = rw (is.cols, is.rows) refl

-- ---- the parts of the list

abbrev pub of_size : Members → List DocFault
of_size top = range_faults (mesh_table top) (Cols ∷ Rows ∷ [])

abbrev pub of_posts : Members → List DocFault
of_posts top = range_fault (mesh_sizes top) top Posts

abbrev pub of_numbers : Members → List DocFault
of_numbers top = range_faults (mesh_table top) (Window ∷ Vcs ∷ DataVcs ∷ Lines ∷ Sets ∷ Ways ∷ [])

abbrev pub of_controllers : Members → List DocFault
of_controllers top = range_fault (mesh_sizes top) (mesh_table top) Controllers

abbrev pub of_words : Members → List DocFault
of_words top = range_fault (mesh_sizes top) (mesh_table top) Memory

abbrev pub of_tiles : Members → List DocFault
of_tiles top = flat_map (core_range_fault (tiles_described top)) (cores_of top)

abbrev joined : (a p b c w t : List DocFault) → List DocFault
joined a p b c w t = ((a ++ p) ++ (b ++ (c ++ (w ++ [])))) ++ t

arranged : (top : Members) → out_of_range top ≡ joined (of_size top) (of_posts top) (of_numbers top) (of_controllers top) (of_words top) (of_tiles top)
arranged top =
    rw (flat_map-append (range_fault (mesh_sizes top) (mesh_table top)) (Window ∷ Vcs ∷ DataVcs ∷ Lines ∷ Sets ∷ Ways ∷ []) (Controllers ∷ Memory ∷ [])) refl

-- ---- the first fault is in one of them

in_second : (a p r t : List DocFault) (f : DocFault) → a ≡ [] → first p ≡ Some f → first (((a ++ p) ++ r) ++ t) ≡ Some f
in_second a p r t f no_a is = rw no_a (first_front (p ++ r) t f (first_front p r f is))

in_rest : (a p r t : List DocFault) (f : DocFault) → a ≡ [] → p ≡ [] → first r ≡ Some f → first (((a ++ p) ++ r) ++ t) ≡ Some f
in_rest a p r t f no_a no_p is = rw (no_a, no_p) (first_front r t f is)

pub in_posts : (top : Members) (f : DocFault) → of_size top ≡ [] → first (of_posts top) ≡ Some f → first (out_of_range top) ≡ Some f
in_posts top f size is = rw (arranged top) (in_second (of_size top) (of_posts top) _ _ f size is)

pub in_numbers : (top : Members) (f : DocFault) → of_size top ≡ [] → of_posts top ≡ [] → first (of_numbers top) ≡ Some f → first (out_of_range top) ≡ Some f
in_numbers top f size posts is =
    rw (arranged top) (in_rest (of_size top) (of_posts top) (of_numbers top ++ (of_controllers top ++ (of_words top ++ []))) (of_tiles top) f size posts
    (first_front (of_numbers top) (of_controllers top ++ (of_words top ++ [])) f is))

pub in_controllers : (top : Members) (f : DocFault) → of_size top ≡ [] → of_posts top ≡ [] → of_numbers top ≡ [] → first (of_controllers top) ≡ Some f → first (out_of_range top) ≡ Some f
in_controllers top f size posts numbers is =
    rw (arranged top) (in_rest (of_size top) (of_posts top) (of_numbers top ++ (of_controllers top ++ (of_words top ++ []))) (of_tiles top) f size posts
    (first_rest (of_numbers top) (of_controllers top ++ (of_words top ++ [])) f numbers (first_front (of_controllers top) (of_words top ++ []) f is)))

pub in_words : (top : Members) (f : DocFault) → of_size top ≡ [] → of_posts top ≡ [] → of_numbers top ≡ [] → of_controllers top ≡ [] → first (of_words top) ≡ Some f
    → first (out_of_range top) ≡ Some f
in_words top f size posts numbers controllers is =
    rw (arranged top) (in_rest (of_size top) (of_posts top) (of_numbers top ++ (of_controllers top ++ (of_words top ++ []))) (of_tiles top) f size posts
    (first_rest (of_numbers top) (of_controllers top ++ (of_words top ++ [])) f numbers (first_rest (of_controllers top) (of_words top ++ []) f controllers (first_front (of_words top) [] f is))))

front_clear : (a p b c w : List DocFault) → a ≡ [] → p ≡ [] → b ≡ [] → c ≡ [] → w ≡ [] → (a ++ p) ++ (b ++ (c ++ (w ++ []))) ≡ []
front_clear a p b c w no_a no_p no_b no_c no_w = rw (no_a, no_p, no_b, no_c, no_w) refl

pub in_tiles : (top : Members) (end : DocEnd) → of_size top ≡ [] → of_posts top ≡ [] → of_numbers top ≡ [] → of_controllers top ≡ [] → of_words top ≡ [] → IsFirst (of_tiles top) end
    → IsFirst (out_of_range top) end
in_tiles top end size posts numbers controllers words is =
    rw (arranged top) (end_rest _ (of_tiles top) end (front_clear (of_size top) (of_posts top) (of_numbers top) (of_controllers top) (of_words top) size posts numbers controllers words) is)

pub nowhere : (top : Members) → of_size top ≡ [] → of_posts top ≡ [] → of_numbers top ≡ [] → of_controllers top ≡ [] → of_words top ≡ [] → of_tiles top ≡ [] → out_of_range top ≡ []
nowhere top size posts numbers controllers words tiles =
    rw (arranged top) (both_empty _ (of_tiles top) (front_clear (of_size top) (of_posts top) (of_numbers top) (of_controllers top) (of_words top) size posts numbers controllers words) tiles)
