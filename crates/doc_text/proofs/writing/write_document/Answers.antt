-- The parts of a document's text, one after another.
use Rattle.std.proofs.Common.{◌≡◌, ℕ, List, ◌++◌, refl, ◌∙◌, append_assoc}
use Rattle.doc_text.specs.Doc.{Doc, doc_of}
use Rattle.doc_text.specs.Canonical.{posts_text, mesh_text, shown_words, memory_text, cores_text, canonical}
use Rattle.outside_io.proofs.Writes.{WritesAllBut-nothing, WritesAllBut-more, Writes-failed, Writes-last}
use Rattle.doc_text.proofs.writing.write_document.Goals as goal

-- what is left after the posts, and after the mesh
abbrev after_mesh : Doc → List ℕ
after_mesh doc = memory_text (shown_words doc.memory) ++ cores_text 0 doc.programs

abbrev after_posts : Doc → List ℕ
after_posts doc = mesh_text doc ++ after_mesh doc

four : (a b c d : List ℕ) → a ++ b ++ c ++ d ≡ a ++ (b ++ (c ++ d))
four a b c d = append_assoc (a ++ b) c d ∙ append_assoc a b (c ++ d)

parts : (doc : Doc) → canonical doc ≡ posts_text doc.posts ++ after_posts doc
parts doc = four (posts_text doc.posts) (mesh_text doc) (memory_text (shown_words doc.memory)) (cores_text 0 doc.programs)

pub returns-in_err-write_posts : goal.returns-in_err-write_posts
returns-in_err-write_posts g c =
    let doc = doc_of c.args.document.now in
    Writes-failed _ c.from_residual.result c.from_residual.ensures.0 (WritesAllBut-nothing (canonical doc)) (parts doc) c.in_err-write_posts.ensures

pub returns-in_err-write_mesh : goal.returns-in_err-write_mesh
returns-in_err-write_mesh g c =
    let doc = doc_of c.args.document.now in
    let posted = WritesAllBut-more (WritesAllBut-nothing (canonical doc)) (parts doc) c.in_ok-write_posts.ensures in
    Writes-failed (after_mesh doc) c.from_residual-in_err-write_mesh.result c.from_residual-in_err-write_mesh.ensures.0 posted refl c.in_err-write_mesh.ensures

pub returns-in_err-write_memory : goal.returns-in_err-write_memory
returns-in_err-write_memory g c =
    let doc = doc_of c.args.document.now in
    let posted = WritesAllBut-more (WritesAllBut-nothing (canonical doc)) (parts doc) c.in_ok-write_posts.ensures in
    let meshed = WritesAllBut-more {rest = after_mesh doc} posted refl c.in_ok-write_mesh.ensures in
    Writes-failed (cores_text 0 doc.programs) c.from_residual-in_err-write_memory.result c.from_residual-in_err-write_memory.ensures.0 meshed refl (rw c.as_slice.ensures at c.in_err-write_memory.ensures)

pub returns : goal.returns
returns g c =
    let doc = doc_of c.args.document.now in
    let posted = WritesAllBut-more (WritesAllBut-nothing (canonical doc)) (parts doc) c.in_ok-write_posts.ensures in
    let meshed = WritesAllBut-more {rest = after_mesh doc} posted refl c.in_ok-write_mesh.ensures in
    let remembered = WritesAllBut-more {rest = cores_text 0 doc.programs} meshed refl (rw c.as_slice.ensures at c.in_ok-write_memory.ensures) in
    Writes-last c.write_cores.result remembered refl c.write_cores.ensures
