use Rattle.std.proofs.Common.{◌≡◌, ◌++◌}
use Rattle.std.proofs.lemmas.Result.{err_from_is_err_and}
use Rattle.toml.specs.View.{table_view}
use Rattle.mesh_doc.specs.Tables.{parts_of}
use Rattle.mesh_doc.specs.Faults.{table_faults, unknown_keys, missing_keys, wrong_kinds}
use Rattle.mesh_doc.specs.Seen.{parts_seen}
use Rattle.mesh_doc.proofs.Firsts.{first_front, first_rest, both_empty, end_front}
use Rattle.mesh_doc.proofs.tables.check_tables.Goals as goal

pub returns-in_err-check_known : goal.returns-in_err-check_known
unfolding table_faults
returns-in_err-check_known c =
    let top = table_view c.args.top.now in
    let parts : parts_seen c.deref.result.now ≡ parts_of top = rw c.deref.ensures.value c.in_ok-parts.ensures in
    let same = err_from_is_err_and c.from_residual-in_err-check_known.result c.from_residual-in_err-check_known.ensures.1 in
    rw (same.1, same.2)
    (end_front (unknown_keys top ++ missing_keys top) (wrong_kinds top) c.in_err-check_known.field-0.0
    (end_front (unknown_keys top) (missing_keys top) c.in_err-check_known.field-0.0 (rw parts at c.in_err-check_known.ensures)))

pub returns-in_err-check_missing : goal.returns-in_err-check_missing
unfolding table_faults
returns-in_err-check_missing c =
    let top = table_view c.args.top.now in
    let parts : parts_seen c.deref.result.now ≡ parts_of top = rw c.deref.ensures.value c.in_ok-parts.ensures in
    let parts_2 : parts_seen c.deref-2.result.now ≡ parts_of top = rw c.deref-2.ensures.value c.in_ok-parts.ensures in
    let same = err_from_is_err_and c.from_residual-in_err-check_missing.result c.from_residual-in_err-check_missing.ensures.1 in
    rw (same.1, same.2)
    (first_front (unknown_keys top ++ missing_keys top) (wrong_kinds top) c.in_err-check_missing.field-0.0
    (first_rest (unknown_keys top) (missing_keys top) c.in_err-check_missing.field-0.0 (rw parts at c.in_ok-check_known.ensures) (rw parts_2 at c.in_err-check_missing.ensures)))

pub returns-in_err-check_kinds : goal.returns-in_err-check_kinds
unfolding table_faults
returns-in_err-check_kinds c =
    let top = table_view c.args.top.now in
    let parts : parts_seen c.deref.result.now ≡ parts_of top = rw c.deref.ensures.value c.in_ok-parts.ensures in
    let parts_2 : parts_seen c.deref-2.result.now ≡ parts_of top = rw c.deref-2.ensures.value c.in_ok-parts.ensures in
    let parts_3 : parts_seen c.deref-3.result.now ≡ parts_of top = rw c.deref-3.ensures.value c.in_ok-parts.ensures in
    let same = err_from_is_err_and c.from_residual-in_err-check_kinds.result c.from_residual-in_err-check_kinds.ensures.1 in
    rw (same.1, same.2)
    (first_rest (unknown_keys top ++ missing_keys top) (wrong_kinds top) c.in_err-check_kinds.field-0.0
    (both_empty (unknown_keys top) (missing_keys top) (rw parts at c.in_ok-check_known.ensures) (rw parts_2 at c.in_ok-check_missing.ensures))
    (rw parts_3 at c.in_err-check_kinds.ensures))

pub returns : goal.returns
unfolding table_faults
returns c =
    let top = table_view c.args.top.now in
    let parts : parts_seen c.deref.result.now ≡ parts_of top = rw c.deref.ensures.value c.in_ok-parts.ensures in
    let parts_2 : parts_seen c.deref-2.result.now ≡ parts_of top = rw c.deref-2.ensures.value c.in_ok-parts.ensures in
    let parts_3 : parts_seen c.deref-3.result.now ≡ parts_of top = rw c.deref-3.ensures.value c.in_ok-parts.ensures in
    both_empty (unknown_keys top ++ missing_keys top) (wrong_kinds top)
    (both_empty (unknown_keys top) (missing_keys top) (rw parts at c.in_ok-check_known.ensures) (rw parts_2 at c.in_ok-check_missing.ensures))
    (rw parts_3 at c.in_ok-check_kinds.ensures)
