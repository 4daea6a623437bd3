-- The tables of the cores, by the list of them.
use Rattle.std.proofs.Common.{◌≡◌, [], Some, None, refl}
use Rattle.std.specs.List.{filter_map, enumerate_from}
use Rattle.std.proofs.lemmas.Option.{same_Some}
use Rattle.toml.specs.Data.{Data, Items, Members, string, integer, float, boolean, datetime, array, table, as_array}
use Rattle.doc_text.specs.declared.key.Key.TheVariants.{Core}
use Rattle.mesh_doc.specs.Tables.{written_value, items, listed, core_part, cores_of}

items-list : (datum : Data) (list : Items) → Some list ≡ as_array datum → items datum ≡ listed list
items-list (string s) list is = cc
items-list (integer z) list is = cc
items-list (float x) list is = cc
items-list (boolean b) list is = cc
items-list (datetime d) list is = cc
items-list (array found) list is = rw (same_Some _ _ is) refl
items-list (table rows) list is = cc

items-none : (datum : Data) → None ≡ as_array datum → items datum ≡ []
items-none (string s) is = refl
items-none (integer z) is = refl
items-none (float x) is = refl
items-none (boolean b) is = refl
items-none (datetime d) is = refl
items-none (array found) is = cc
items-none (table rows) is = refl

pub cores-listed : (top : Members) (datum : Data) (list : Items) → Some datum ≡ written_value Core top → Some list ≡ as_array datum
    → cores_of top ≡ filter_map core_part (enumerate_from 0 (listed list))
unfolding cores_of
cores-listed top datum list is seen = rw (← is, items-list datum list seen) refl

pub cores-other : (top : Members) (datum : Data) → Some datum ≡ written_value Core top → None ≡ as_array datum → cores_of top ≡ []
unfolding cores_of
cores-other top datum is seen = rw (← is, items-none datum seen) refl

pub cores-none : (top : Members) → None ≡ written_value Core top → cores_of top ≡ []
unfolding cores_of
cores-none top is = rw (← is) refl
