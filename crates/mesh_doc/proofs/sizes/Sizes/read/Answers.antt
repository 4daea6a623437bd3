use Rattle.std.proofs.Common.{◌≡◌, ◌++◌, ◌+◌, ◌-◌, max, [], refl}
use Rattle.std.proofs.lemmas.Result.{err_from_is_err_and}
use Rattle.doc_text.specs.declared.key.Key.TheVariants.{Window, Vcs, DataVcs, Lines, Sets, Ways}
use Rattle.mesh_doc.specs.Tables.{value}
use Rattle.mesh_doc.specs.MeshSeen.{mesh_seen}
use Rattle.mesh_doc.specs.Values.{sizes_of}
use Rattle.mesh_doc.specs.Faults.{range_fault}
use Rattle.mesh_doc.proofs.Firsts.{first_front}
use Rattle.mesh_doc.proofs.Limits.{some_found, none_found, exceeds, fits}
use Rattle.mesh_doc.proofs.Numbers.{number_in-number}
use Rattle.mesh_doc.proofs.sizes.Sizes.read.Goals as goal

pub returns-in_err-window-clause-finds : goal.returns-in_err-window-clause-finds
returns-in_err-window-clause-finds c =
    let m = mesh_seen c.args.mesh in
    let s = sizes_of m in
    let least : c.least_window-least.result ≡ max 1 ((s.cols - 1) + (s.rows - 1)) = rw (c.requires.cols, c.requires.rows) c.least_window-least.ensures in
    let same = err_from_is_err_and c.from_residual.result c.from_residual.ensures.1 in
    rw (same.1, same.2, c.in_err-window.ensures.fault.0)
    (first_front (range_fault s m Window) (range_fault s m Vcs ++ (range_fault s m DataVcs ++ (range_fault s m Lines ++ (range_fault s m Sets ++ (range_fault s m Ways ++ []))))) _ (exceeds s m Window (none_found _ (rw least at c.in_err-window.ensures.fault.1))))

pub returns-in_err-vcs-clause-finds : goal.returns-in_err-vcs-clause-finds
returns-in_err-vcs-clause-finds c =
    let m = mesh_seen c.args.mesh in
    let s = sizes_of m in
    let least : c.least_window-least.result ≡ max 1 ((s.cols - 1) + (s.rows - 1)) = rw (c.requires.cols, c.requires.rows) c.least_window-least.ensures in
    let same = err_from_is_err_and c.from_residual-in_err-vcs.result c.from_residual-in_err-vcs.ensures.1 in
    rw (same.1, same.2, c.in_err-vcs.ensures.fault.0, fits s m Window (some_found _ _ (rw least at c.in_ok-window.ensures.said)))
    (first_front (range_fault s m Vcs) (range_fault s m DataVcs ++ (range_fault s m Lines ++ (range_fault s m Sets ++ (range_fault s m Ways ++ [])))) _ (exceeds s m Vcs (none_found _ c.in_err-vcs.ensures.fault.1)))

pub returns-in_err-data_vcs-clause-finds : goal.returns-in_err-data_vcs-clause-finds
returns-in_err-data_vcs-clause-finds c =
    let m = mesh_seen c.args.mesh in
    let s = sizes_of m in
    let least : c.least_window-least.result ≡ max 1 ((s.cols - 1) + (s.rows - 1)) = rw (c.requires.cols, c.requires.rows) c.least_window-least.ensures in
    let same = err_from_is_err_and c.from_residual-in_err-data_vcs.result c.from_residual-in_err-data_vcs.ensures.1 in
    rw (same.1, same.2, c.in_err-data_vcs.ensures.fault.0, fits s m Window (some_found _ _ (rw least at c.in_ok-window.ensures.said)), fits s m Vcs (some_found _ _ c.in_ok-vcs.ensures.said))
    (first_front (range_fault s m DataVcs) (range_fault s m Lines ++ (range_fault s m Sets ++ (range_fault s m Ways ++ []))) _ (exceeds s m DataVcs (none_found _ c.in_err-data_vcs.ensures.fault.1)))

pub returns-in_err-lines-clause-finds : goal.returns-in_err-lines-clause-finds
returns-in_err-lines-clause-finds c =
    let m = mesh_seen c.args.mesh in
    let s = sizes_of m in
    let least : c.least_window-least.result ≡ max 1 ((s.cols - 1) + (s.rows - 1)) = rw (c.requires.cols, c.requires.rows) c.least_window-least.ensures in
    let same = err_from_is_err_and c.from_residual-in_err-lines.result c.from_residual-in_err-lines.ensures.1 in
    rw (same.1, same.2, c.in_err-lines.ensures.fault.0, fits s m Window (some_found _ _ (rw least at c.in_ok-window.ensures.said)), fits s m Vcs (some_found _ _ c.in_ok-vcs.ensures.said), fits s m DataVcs (some_found _ _ c.in_ok-data_vcs.ensures.said))
    (first_front (range_fault s m Lines) (range_fault s m Sets ++ (range_fault s m Ways ++ [])) _ (exceeds s m Lines (none_found _ c.in_err-lines.ensures.fault.1)))

pub returns-in_err-sets-clause-finds : goal.returns-in_err-sets-clause-finds
returns-in_err-sets-clause-finds c =
    let m = mesh_seen c.args.mesh in
    let s = sizes_of m in
    let least : c.least_window-least.result ≡ max 1 ((s.cols - 1) + (s.rows - 1)) = rw (c.requires.cols, c.requires.rows) c.least_window-least.ensures in
    let same = err_from_is_err_and c.from_residual-in_err-sets.result c.from_residual-in_err-sets.ensures.1 in
    rw (same.1, same.2, c.in_err-sets.ensures.fault.0, fits s m Window (some_found _ _ (rw least at c.in_ok-window.ensures.said)), fits s m Vcs (some_found _ _ c.in_ok-vcs.ensures.said), fits s m DataVcs (some_found _ _ c.in_ok-data_vcs.ensures.said), fits s m Lines (some_found _ _ c.in_ok-lines.ensures.said))
    (first_front (range_fault s m Sets) (range_fault s m Ways ++ []) _ (exceeds s m Sets (none_found _ c.in_err-sets.ensures.fault.1)))

pub returns-in_err-ways-clause-finds : goal.returns-in_err-ways-clause-finds
returns-in_err-ways-clause-finds c =
    let m = mesh_seen c.args.mesh in
    let s = sizes_of m in
    let least : c.least_window-least.result ≡ max 1 ((s.cols - 1) + (s.rows - 1)) = rw (c.requires.cols, c.requires.rows) c.least_window-least.ensures in
    let same = err_from_is_err_and c.from_residual-in_err-ways.result c.from_residual-in_err-ways.ensures.1 in
    rw (same.1, same.2, c.in_err-ways.ensures.fault.0, fits s m Window (some_found _ _ (rw least at c.in_ok-window.ensures.said)), fits s m Vcs (some_found _ _ c.in_ok-vcs.ensures.said), fits s m DataVcs (some_found _ _ c.in_ok-data_vcs.ensures.said), fits s m Lines (some_found _ _ c.in_ok-lines.ensures.said), fits s m Sets (some_found _ _ c.in_ok-sets.ensures.said))
    (first_front (range_fault s m Ways) ([]) _ (exceeds s m Ways (none_found _ c.in_err-ways.ensures.fault.1)))

pub returns-clause-finds : goal.returns-clause-finds
returns-clause-finds c =
    let m = mesh_seen c.args.mesh in
    let s = sizes_of m in
    let least : c.least_window-least.result ≡ max 1 ((s.cols - 1) + (s.rows - 1)) = rw (c.requires.cols, c.requires.rows) c.least_window-least.ensures in
    rw (fits s m Window (some_found _ _ (rw least at c.in_ok-window.ensures.said)), fits s m Vcs (some_found _ _ c.in_ok-vcs.ensures.said), fits s m DataVcs (some_found _ _ c.in_ok-data_vcs.ensures.said), fits s m Lines (some_found _ _ c.in_ok-lines.ensures.said), fits s m Sets (some_found _ _ c.in_ok-sets.ensures.said), fits s m Ways (some_found _ _ c.in_ok-ways.ensures.said)) refl

pub returns-clause-said : goal.returns-clause-said
returns-clause-said c =
    let m = mesh_seen c.args.mesh in
    record {
      window = number_in-number c.least_window-least.result 64 (value Window m) _ c.in_ok-window.ensures.said;
      vcs = number_in-number 1 8 (value Vcs m) _ c.in_ok-vcs.ensures.said;
      data_vcs = number_in-number 1 4 (value DataVcs m) _ c.in_ok-data_vcs.ensures.said;
      lines = number_in-number 1 256 (value Lines m) _ c.in_ok-lines.ensures.said;
      sets = number_in-number 1 64 (value Sets m) _ c.in_ok-sets.ensures.said;
      ways = number_in-number 1 4 (value Ways m) _ c.in_ok-ways.ensures.said;
    }
