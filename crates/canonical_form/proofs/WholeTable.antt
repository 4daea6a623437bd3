-- What the canonical table says.
use Rattle.std.proofs.Common.{◌≡◌, ◌*◌, sym, subst}
use Rattle.toml.specs.Data.{array, Members}
use Rattle.doc_text.specs.declared.key.Key.TheVariants.{Posts}
use Rattle.doc_text.specs.Doc.{Doc}
use Rattle.mesh_doc.specs.Tables.{value, cores_of}
use Rattle.mesh_doc.specs.Faults.{mesh_table, tiles_described}
use Rattle.canonical_form.specs.CanonicalTable.{lists, core_items, mesh_entries, canonical_table}
use Rattle.canonical_form.proofs.LookUps.{IsMesh, mesh_table-whole, posts-whole, mesh_entries-are}
use Rattle.canonical_form.proofs.CoreParts.{placed_cores, canonical-cores}

-- each table has its values
pub record IsWhole (doc : Doc) (top : Members) : Type 0 where
  pub mesh : IsMesh doc (mesh_table top)
  pub posts : value Posts top ≡ array (lists doc.posts)
  pub cores : cores_of top ≡ placed_cores 0 0 doc.programs

pub canonical-whole : (doc : Doc) → IsWhole doc (canonical_table doc)
canonical-whole doc = record {
  mesh = subst (IsMesh doc) (sym (mesh_table-whole (core_items 0 doc.programs) (mesh_entries doc) doc.posts)) (mesh_entries-are doc);
  posts = posts-whole (core_items 0 doc.programs) (mesh_entries doc) doc.posts;
  cores = canonical-cores doc;
}

pub count_said : (doc : Doc) (top : Members) → IsMesh doc (mesh_table top) → tiles_described top ≡ doc.cols * doc.rows
count_said doc top said = rw (said.cols, said.rows)
