use Rattle.std.proofs.Common.{◌≡◌, [], Some, None, sym, ◌∙◌}
use Rattle.std.proofs.lemmas.Result.{err_from_is_err_and}
use Rattle.toml.specs.View.{table_view}
use Rattle.doc_text.specs.declared.key.Key.TheVariants.{Posts, Controllers, Memory}
use Rattle.mesh_doc.specs.Tables.{value}
use Rattle.mesh_doc.specs.Values.{tiles, windows, words}
use Rattle.mesh_doc.specs.Faults.{mesh_table, mesh_sizes, tiles_described}
use Rattle.mesh_doc.specs.Seen.{IsExtentOf, AreSizesOf}
use Rattle.mesh_doc.proofs.Limits.{some_found, none_found, exceeds, fits}
use Rattle.mesh_doc.proofs.Ranges.{ok_or-none, ok_or-some, count_is, of_size, of_posts, of_numbers, of_controllers, of_words, in_posts, in_numbers, in_controllers, in_words, in_tiles, nowhere}
use Rattle.mesh_doc.proofs.building.read_limited.Goals as goal

pub returns-in_err-posts-clause-faults : goal.returns-in_err-posts-clause-faults
returns-in_err-posts-clause-faults c =
    let top = table_view c.args.top.now in
    let extent : IsExtentOf (mesh_table top) c.in_ok-extent.extent = rw c.table_of_mesh-mesh.ensures at c.in_ok-extent.ensures.said in
    let count : c.tiles-count.result ≡ tiles_described top = c.tiles-count.ensures.tiles ∙ sym (count_is top c.in_ok-extent.extent extent) in
    let size : of_size top ≡ [] = rw c.table_of_mesh-mesh.ensures at c.in_ok-extent.ensures.finds in
    let same = err_from_is_err_and c.from_residual-in_err-posts.result c.from_residual-in_err-posts.ensures.1 in
    let (none, is) = ok_or-none c.in_ok-read_posts.field-0 c.out_of_range.result c.in_err-posts.field-0.0 c.in_err-posts.ensures.value in
    let refused : windows (tiles_described top) (value Posts top) ≡ None = rw count at (sym c.in_ok-read_posts.ensures ∙ none) in
    rw (same.1, same.2, is, c.out_of_range.ensures) (in_posts top _ size (exceeds (mesh_sizes top) top Posts (none_found _ refused)))

pub returns-in_err-sizes-clause-faults : goal.returns-in_err-sizes-clause-faults
returns-in_err-sizes-clause-faults c =
    let top = table_view c.args.top.now in
    let extent : IsExtentOf (mesh_table top) c.in_ok-extent.extent = rw c.table_of_mesh-mesh.ensures at c.in_ok-extent.ensures.said in
    let count : c.tiles-count.result ≡ tiles_described top = c.tiles-count.ensures.tiles ∙ sym (count_is top c.in_ok-extent.extent extent) in
    let size : of_size top ≡ [] = rw c.table_of_mesh-mesh.ensures at c.in_ok-extent.ensures.finds in
    let posted : windows (tiles_described top) (value Posts top) ≡ Some c.in_ok-posts.posts = rw count at (sym c.in_ok-read_posts.ensures ∙ ok_or-some _ _ _ c.in_ok-posts.ensures.value) in
    let posts : of_posts top ≡ [] = fits (mesh_sizes top) top Posts (some_found _ _ posted) in
    let same = err_from_is_err_and c.from_residual-in_err-sizes.result c.from_residual-in_err-sizes.ensures.1 in
    rw (same.1, same.2) (in_numbers top c.in_err-sizes.field-0.0 size posts (rw c.table_of_mesh-mesh.ensures at c.in_err-sizes.ensures.finds))

pub returns-in_err-controllers-clause-faults : goal.returns-in_err-controllers-clause-faults
returns-in_err-controllers-clause-faults c =
    let top = table_view c.args.top.now in
    let extent : IsExtentOf (mesh_table top) c.in_ok-extent.extent = rw c.table_of_mesh-mesh.ensures at c.in_ok-extent.ensures.said in
    let count : c.tiles-count.result ≡ tiles_described top = c.tiles-count.ensures.tiles ∙ sym (count_is top c.in_ok-extent.extent extent) in
    let size : of_size top ≡ [] = rw c.table_of_mesh-mesh.ensures at c.in_ok-extent.ensures.finds in
    let posted : windows (tiles_described top) (value Posts top) ≡ Some c.in_ok-posts.posts = rw count at (sym c.in_ok-read_posts.ensures ∙ ok_or-some _ _ _ c.in_ok-posts.ensures.value) in
    let posts : of_posts top ≡ [] = fits (mesh_sizes top) top Posts (some_found _ _ posted) in
    let numbers : of_numbers top ≡ [] = rw c.table_of_mesh-mesh.ensures at c.in_ok-sizes.ensures.finds in
    let same = err_from_is_err_and c.from_residual-in_err-controllers.result c.from_residual-in_err-controllers.ensures.1 in
    let (none, is) = ok_or-none c.in_ok-read_controllers.field-0 c.out_of_range-2.result c.in_err-controllers.field-0.0 c.in_err-controllers.ensures.value in
    let refused : tiles (tiles_described top) (value Controllers (mesh_table top)) ≡ None = rw (c.table_of_mesh-mesh.ensures, count) at (sym (rw none at c.in_ok-read_controllers.ensures)) in
    rw (same.1, same.2, is, c.out_of_range-2.ensures) (in_controllers top _ size posts numbers (exceeds (mesh_sizes top) (mesh_table top) Controllers (none_found _ refused)))

pub returns-in_err-words-clause-faults : goal.returns-in_err-words-clause-faults
returns-in_err-words-clause-faults c =
    let top = table_view c.args.top.now in
    let extent : IsExtentOf (mesh_table top) c.in_ok-extent.extent = rw c.table_of_mesh-mesh.ensures at c.in_ok-extent.ensures.said in
    let count : c.tiles-count.result ≡ tiles_described top = c.tiles-count.ensures.tiles ∙ sym (count_is top c.in_ok-extent.extent extent) in
    let size : of_size top ≡ [] = rw c.table_of_mesh-mesh.ensures at c.in_ok-extent.ensures.finds in
    let posted : windows (tiles_described top) (value Posts top) ≡ Some c.in_ok-posts.posts = rw count at (sym c.in_ok-read_posts.ensures ∙ ok_or-some _ _ _ c.in_ok-posts.ensures.value) in
    let posts : of_posts top ≡ [] = fits (mesh_sizes top) top Posts (some_found _ _ posted) in
    let numbers : of_numbers top ≡ [] = rw c.table_of_mesh-mesh.ensures at c.in_ok-sizes.ensures.finds in
    let listed : tiles (tiles_described top) (value Controllers (mesh_table top)) ≡ Some c.in_ok-controllers.controllers.items = rw (c.table_of_mesh-mesh.ensures, count) at (sym (rw (ok_or-some _ _ _ c.in_ok-controllers.ensures.value) at c.in_ok-read_controllers.ensures)) in
    let controllers : of_controllers top ≡ [] = fits (mesh_sizes top) (mesh_table top) Controllers (some_found _ _ listed) in
    let sizes : AreSizesOf (mesh_table top) c.in_ok-sizes.sizes = rw c.table_of_mesh-mesh.ensures at c.in_ok-sizes.ensures.said in
    let same = err_from_is_err_and c.from_residual-in_err-words.result c.from_residual-in_err-words.ensures.1 in
    let (none, is) = ok_or-none c.in_ok-read_memory.field-0 c.out_of_range-3.result c.in_err-words.field-0.0 c.in_err-words.ensures.value in
    let refused : words (mesh_sizes top).lines (value Memory (mesh_table top)) ≡ None = rw (c.table_of_mesh-mesh.ensures, ← sizes.lines) at (sym (rw none at c.in_ok-read_memory.ensures)) in
    rw (same.1, same.2, is, c.out_of_range-3.ensures) (in_words top _ size posts numbers controllers (exceeds (mesh_sizes top) (mesh_table top) Memory (none_found _ refused)))

pub returns-in_err-core_tiles-clause-faults : goal.returns-in_err-core_tiles-clause-faults
returns-in_err-core_tiles-clause-faults c =
    let top = table_view c.args.top.now in
    let extent : IsExtentOf (mesh_table top) c.in_ok-extent.extent = rw c.table_of_mesh-mesh.ensures at c.in_ok-extent.ensures.said in
    let count : c.tiles-count.result ≡ tiles_described top = c.tiles-count.ensures.tiles ∙ sym (count_is top c.in_ok-extent.extent extent) in
    let size : of_size top ≡ [] = rw c.table_of_mesh-mesh.ensures at c.in_ok-extent.ensures.finds in
    let posted : windows (tiles_described top) (value Posts top) ≡ Some c.in_ok-posts.posts = rw count at (sym c.in_ok-read_posts.ensures ∙ ok_or-some _ _ _ c.in_ok-posts.ensures.value) in
    let posts : of_posts top ≡ [] = fits (mesh_sizes top) top Posts (some_found _ _ posted) in
    let numbers : of_numbers top ≡ [] = rw c.table_of_mesh-mesh.ensures at c.in_ok-sizes.ensures.finds in
    let listed : tiles (tiles_described top) (value Controllers (mesh_table top)) ≡ Some c.in_ok-controllers.controllers.items = rw (c.table_of_mesh-mesh.ensures, count) at (sym (rw (ok_or-some _ _ _ c.in_ok-controllers.ensures.value) at c.in_ok-read_controllers.ensures)) in
    let controllers : of_controllers top ≡ [] = fits (mesh_sizes top) (mesh_table top) Controllers (some_found _ _ listed) in
    let sizes : AreSizesOf (mesh_table top) c.in_ok-sizes.sizes = rw c.table_of_mesh-mesh.ensures at c.in_ok-sizes.ensures.said in
    let written : words (mesh_sizes top).lines (value Memory (mesh_table top)) ≡ Some c.in_ok-words.words.items = rw (c.table_of_mesh-mesh.ensures, ← sizes.lines) at (sym (rw (ok_or-some _ _ _ c.in_ok-words.ensures.value) at c.in_ok-read_memory.ensures)) in
    let in_memory : of_words top ≡ [] = fits (mesh_sizes top) (mesh_table top) Memory (some_found _ _ written) in
    let same = err_from_is_err_and c.from_residual-in_err-core_tiles.result c.from_residual-in_err-core_tiles.ensures.1 in
    rw (same.1, same.2) (in_tiles top c.in_err-core_tiles.field-0.0 size posts numbers controllers in_memory (rw (count, c.requires) at c.in_err-core_tiles.ensures.faults))

pub returns-clause-faults : goal.returns-clause-faults
returns-clause-faults c =
    let top = table_view c.args.top.now in
    let extent : IsExtentOf (mesh_table top) c.in_ok-extent.extent = rw c.table_of_mesh-mesh.ensures at c.in_ok-extent.ensures.said in
    let count : c.tiles-count.result ≡ tiles_described top = c.tiles-count.ensures.tiles ∙ sym (count_is top c.in_ok-extent.extent extent) in
    let size : of_size top ≡ [] = rw c.table_of_mesh-mesh.ensures at c.in_ok-extent.ensures.finds in
    let posted : windows (tiles_described top) (value Posts top) ≡ Some c.in_ok-posts.posts = rw count at (sym c.in_ok-read_posts.ensures ∙ ok_or-some _ _ _ c.in_ok-posts.ensures.value) in
    let posts : of_posts top ≡ [] = fits (mesh_sizes top) top Posts (some_found _ _ posted) in
    let numbers : of_numbers top ≡ [] = rw c.table_of_mesh-mesh.ensures at c.in_ok-sizes.ensures.finds in
    let listed : tiles (tiles_described top) (value Controllers (mesh_table top)) ≡ Some c.in_ok-controllers.controllers.items = rw (c.table_of_mesh-mesh.ensures, count) at (sym (rw (ok_or-some _ _ _ c.in_ok-controllers.ensures.value) at c.in_ok-read_controllers.ensures)) in
    let controllers : of_controllers top ≡ [] = fits (mesh_sizes top) (mesh_table top) Controllers (some_found _ _ listed) in
    let sizes : AreSizesOf (mesh_table top) c.in_ok-sizes.sizes = rw c.table_of_mesh-mesh.ensures at c.in_ok-sizes.ensures.said in
    let written : words (mesh_sizes top).lines (value Memory (mesh_table top)) ≡ Some c.in_ok-words.words.items = rw (c.table_of_mesh-mesh.ensures, ← sizes.lines) at (sym (rw (ok_or-some _ _ _ c.in_ok-words.ensures.value) at c.in_ok-read_memory.ensures)) in
    let in_memory : of_words top ≡ [] = fits (mesh_sizes top) (mesh_table top) Memory (some_found _ _ written) in
    nowhere top size posts numbers controllers in_memory (rw (count, c.requires) at c.in_ok-core_tiles.ensures.faults)
