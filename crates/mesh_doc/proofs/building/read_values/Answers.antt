use Rattle.std.specs.List.{range_with_len}
use Rattle.std.proofs.Common.{◌≡◌, ◌<◌, [], length, sym, ◌∙◌, ap, arith}
use Rattle.std.proofs.lemmas.List.{length-map}
use Rattle.std.proofs.lemmas.Result.{err_from_is_err_and}
use Rattle.toml.specs.View.{table_view}
use Rattle.doc_text.specs.declared.key.Key.TheVariants.{Posts, Controllers, Memory}
use Rattle.mesh_doc.specs.Tables.{value}
use Rattle.mesh_doc.specs.Values.{repeated}
use Rattle.mesh_doc.specs.Faults.{mesh_table, tiles_described, out_of_range, controllers_twice, cores_twice, bad_programs}
use Rattle.mesh_doc.specs.Said.{Says, count_of}
use Rattle.std.proofs.lemmas.List.FromFn.{length-range_with_len}
use Rattle.mesh_doc.proofs.Distinct.{AreTiles-tiles, ArePosts-windows, few_words}
use Rattle.mesh_doc.proofs.Described.{count_said, nothing_mapped, in_ranges, in_controllers, in_core_tiles, in_programs, no_fault, ended, read_is}
use Rattle.mesh_doc.proofs.building.read_values.Goals as goal

pub returns-in_err-said-clause-faults : goal.returns-in_err-said-clause-faults
returns-in_err-said-clause-faults c =
    let same = err_from_is_err_and c.from_residual.result c.from_residual.ensures.1 in
    rw (same.1, same.2) (in_ranges (table_view c.args.top.now) c.in_err-said.field-0.0 c.in_err-said.ensures.faults)

pub returns-in_err-check_controllers-clause-faults : goal.returns-in_err-check_controllers-clause-faults
returns-in_err-check_controllers-clause-faults c =
    let top = table_view c.args.top.now in
    let said = c.in_ok-said.said in
    let says : Says top said = c.in_ok-said.ensures.said in
    let ranges : out_of_range top ≡ [] = c.in_ok-said.ensures.faults in
    let same = err_from_is_err_and c.from_residual-in_err-check_controllers.result c.from_residual-in_err-check_controllers.ensures.1 in
    rw (same.1, same.2) (in_controllers top said c.in_err-check_controllers.field-0.0 says ranges (rw c.deref.ensures.value at c.in_err-check_controllers.ensures))

pub returns-in_err-check_core_tiles-clause-faults : goal.returns-in_err-check_core_tiles-clause-faults
returns-in_err-check_core_tiles-clause-faults c =
    let top = table_view c.args.top.now in
    let said = c.in_ok-said.said in
    let says : Says top said = c.in_ok-said.ensures.said in
    let ranges : out_of_range top ≡ [] = c.in_ok-said.ensures.faults in
    let none : controllers_twice said.controllers.items ≡ [] = rw c.deref.ensures.value at c.in_ok-check_controllers.ensures in
    let same = err_from_is_err_and c.from_residual-in_err-check_core_tiles.result c.from_residual-in_err-check_core_tiles.ensures.1 in
    rw (same.1, same.2) (in_core_tiles top said c.in_err-check_core_tiles.field-0.0 says ranges none (rw c.deref-2.ensures.value at c.in_err-check_core_tiles.ensures))

pub returns-in_err-programs-clause-faults : goal.returns-in_err-programs-clause-faults
returns-in_err-programs-clause-faults c =
    let top = table_view c.args.top.now in
    let said = c.in_ok-said.said in
    let says : Says top said = c.in_ok-said.ensures.said in
    let ranges : out_of_range top ≡ [] = c.in_ok-said.ensures.faults in
    let none : controllers_twice said.controllers.items ≡ [] = rw c.deref.ensures.value at c.in_ok-check_controllers.ensures in
    let single : cores_twice said.core_tiles.items ≡ [] = rw c.deref-2.ensures.value at c.in_ok-check_core_tiles.ensures in
    let count : c.tiles.result ≡ tiles_described top = c.tiles.ensures.tiles ∙ sym (count_said top said says) in
    let same = err_from_is_err_and c.from_residual-in_err-programs.result c.from_residual-in_err-programs.ensures.1 in
    rw (same.1, same.2) (in_programs top said c.in_err-programs.field-0.0 says ranges none single (rw (count, c.requires) at c.in_err-programs.ensures.faults))

pub document_of-requires-clause-controllers : goal.document_of-requires-clause-controllers
document_of-requires-clause-controllers c =
    let top = table_view c.args.top.now in
    let said = c.in_ok-said.said in
    let says : Says top said = c.in_ok-said.ensures.said in
    let ranges : out_of_range top ≡ [] = c.in_ok-said.ensures.faults in
    let none : controllers_twice said.controllers.items ≡ [] = rw c.deref.ensures.value at c.in_ok-check_controllers.ensures in
    let some : 0 < count_of said = omega (arith, c.tiles.ensures.tiles, c.tiles.ensures.limits.low) in
    ∣ AreTiles-tiles (count_of said) some (value Controllers (mesh_table top)) said.controllers.items says.controllers (nothing_mapped _ (repeated said.controllers.items) none) ∣₁

pub document_of-requires-clause-words : goal.document_of-requires-clause-words
document_of-requires-clause-words c =
    let top = table_view c.args.top.now in
    let said = c.in_ok-said.said in
    let says : Says top said = c.in_ok-said.ensures.said in
    few_words said.sizes.lines (value Memory (mesh_table top)) said.words.items says.words

pub document_of-requires-clause-programs : goal.document_of-requires-clause-programs
document_of-requires-clause-programs c =
    let count = c.tiles.result in
    ap length c.in_ok-programs.ensures.programs ∙ length-map (range_with_len 0 count) _ ∙ length-range_with_len 0 count ∙ c.tiles.ensures.tiles

pub document_of-requires-clause-posts : goal.document_of-requires-clause-posts
document_of-requires-clause-posts c =
    let top = table_view c.args.top.now in
    let said = c.in_ok-said.said in
    let says : Says top said = c.in_ok-said.ensures.said in
    let some : 0 < count_of said = omega (arith, c.tiles.ensures.tiles, c.tiles.ensures.limits.low) in
    ∣ ArePosts-windows (count_of said) some (value Posts top) said.posts says.posts ∣₁

pub returns-clause-faults : goal.returns-clause-faults
returns-clause-faults c =
    let top = table_view c.args.top.now in
    let said = c.in_ok-said.said in
    let says : Says top said = c.in_ok-said.ensures.said in
    let ranges : out_of_range top ≡ [] = c.in_ok-said.ensures.faults in
    let none : controllers_twice said.controllers.items ≡ [] = rw c.deref.ensures.value at c.in_ok-check_controllers.ensures in
    let single : cores_twice said.core_tiles.items ≡ [] = rw c.deref-2.ensures.value at c.in_ok-check_core_tiles.ensures in
    let count : c.tiles.result ≡ tiles_described top = c.tiles.ensures.tiles ∙ sym (count_said top said says) in
    let right : bad_programs top ≡ [] = rw (count, c.requires) at c.in_ok-programs.ensures.faults in
    ended _ c.document_of.result (no_fault top said says ranges none single right) c.document_of.ensures.memory

pub returns-clause-document : goal.returns-clause-document
returns-clause-document c =
    let top = table_view c.args.top.now in
    let said = c.in_ok-said.said in
    let says : Says top said = c.in_ok-said.ensures.said in
    let count : c.tiles.result ≡ tiles_described top = c.tiles.ensures.tiles ∙ sym (count_said top said says) in
    read_is top said c.in_ok-programs.programs.items c.document_of.result says (rw (count, c.requires) at c.in_ok-programs.ensures.programs) c.document_of.ensures.document
