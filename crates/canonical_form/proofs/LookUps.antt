-- What a look-up finds in the canonical table.
use Rattle.std.proofs.Common.{◌≡◌, ℕ, List, [], ◌∷◌, Some, refl}
use Rattle.toml.specs.Data.{array, table, Items, no_items, item, Members}
use Rattle.doc_text.specs.declared.key.Key.TheVariants.{Mesh, Posts, Core, Cols, Rows, Window, Vcs, DataVcs, Lines, Sets, Ways, Controllers, Memory}
use Rattle.doc_text.specs.Doc.{Doc}
use Rattle.doc_text.specs.Canonical.{shown_words}
use Rattle.mesh_doc.specs.Tables.{value, table_of_mesh}
use Rattle.mesh_doc.specs.Faults.{mesh_table}
use Rattle.canonical_form.specs.CanonicalTable.{entry, number, numbers, lists, mesh_showing, mesh_entries, core_entry, posts_entry}

-- the whole, by the list of cores, the table of the mesh and what is posted
abbrev pub whole : Items → Members → List (List ℕ) → Members
whole cores mesh posts = core_entry cores (entry Mesh (table mesh) (posts_entry posts))

-- ---- in the whole

pub table_of_mesh-whole : (cores : Items) (mesh : Members) (posts : List (List ℕ)) → table_of_mesh (whole cores mesh posts) ≡ Some mesh
table_of_mesh-whole no_items mesh posts = refl
table_of_mesh-whole (item first more) mesh posts = refl

pub mesh_table-whole : (cores : Items) (mesh : Members) (posts : List (List ℕ)) → mesh_table (whole cores mesh posts) ≡ mesh
mesh_table-whole no_items mesh posts = refl
mesh_table-whole (item first more) mesh posts = refl

pub posts-whole : (cores : Items) (mesh : Members) (posts : List (List ℕ)) → value Posts (whole cores mesh posts) ≡ array (lists posts)
posts-whole no_items mesh [] = refl
posts-whole no_items mesh (window ∷ windows) = refl
posts-whole (item first more) mesh [] = refl
posts-whole (item first more) mesh (window ∷ windows) = refl

pub core-whole : (cores : Items) (mesh : Members) (posts : List (List ℕ)) → value Core (whole cores mesh posts) ≡ array cores
core-whole no_items mesh [] = refl
core-whole no_items mesh (window ∷ windows) = refl
core-whole (item first more) mesh posts = refl

-- ---- in the table of the mesh

-- each key has its value
pub record IsMesh (doc : Doc) (mesh : Members) : Type 0 where
  pub cols : value Cols mesh ≡ number doc.cols
  pub rows : value Rows mesh ≡ number doc.rows
  pub window : value Window mesh ≡ number doc.window
  pub vcs : value Vcs mesh ≡ number doc.vcs
  pub data_vcs : value DataVcs mesh ≡ number doc.data_vcs
  pub lines : value Lines mesh ≡ number doc.lines
  pub sets : value Sets mesh ≡ number doc.sets
  pub ways : value Ways mesh ≡ number doc.ways
  pub controllers : value Controllers mesh ≡ array (numbers doc.controllers)
  pub memory : value Memory mesh ≡ array (numbers (shown_words doc.memory))

rows-mesh : (doc : Doc) (shown : List ℕ) → value Rows (mesh_showing shown doc) ≡ number doc.rows
rows-mesh doc [] = refl
rows-mesh doc (word ∷ words) = refl

window-mesh : (doc : Doc) (shown : List ℕ) → value Window (mesh_showing shown doc) ≡ number doc.window
window-mesh doc [] = refl
window-mesh doc (word ∷ words) = refl

vcs-mesh : (doc : Doc) (shown : List ℕ) → value Vcs (mesh_showing shown doc) ≡ number doc.vcs
vcs-mesh doc [] = refl
vcs-mesh doc (word ∷ words) = refl

sets-mesh : (doc : Doc) (shown : List ℕ) → value Sets (mesh_showing shown doc) ≡ number doc.sets
sets-mesh doc [] = refl
sets-mesh doc (word ∷ words) = refl

ways-mesh : (doc : Doc) (shown : List ℕ) → value Ways (mesh_showing shown doc) ≡ number doc.ways
ways-mesh doc [] = refl
ways-mesh doc (word ∷ words) = refl

memory-mesh : (doc : Doc) (shown : List ℕ) → value Memory (mesh_showing shown doc) ≡ array (numbers shown)
memory-mesh doc [] = refl
memory-mesh doc (word ∷ words) = refl

-- those of a document have the values that it says
pub mesh_entries-are : (doc : Doc) → IsMesh doc (mesh_entries doc)
mesh_entries-are doc = record {
  cols = refl;
  rows = rows-mesh doc (shown_words doc.memory);
  window = window-mesh doc (shown_words doc.memory);
  vcs = vcs-mesh doc (shown_words doc.memory);
  data_vcs = refl;
  lines = refl;
  sets = sets-mesh doc (shown_words doc.memory);
  ways = ways-mesh doc (shown_words doc.memory);
  controllers = refl;
  memory = memory-mesh doc (shown_words doc.memory);
}
