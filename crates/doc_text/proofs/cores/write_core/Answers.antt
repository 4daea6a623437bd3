use Rattle.std.proofs.Common.{◌≡◌, ◌==◌, ℕ, false, List, [], ◌∷◌, ◌++◌, length, codes, refl}
use Rattle.std.specs.Prelude.{decimal}
use Rattle.core_isa.specs.declared.instr.Instr.{Instr}
use Rattle.doc_text.specs.declared.key.Key.TheVariants.{Core, Tile}
use Rattle.doc_text.specs.Canonical.{value_line, tables_line, code_text, core_text}
use Rattle.outside_io.proofs.Writes.{WritesAllBut-nothing, WritesAllBut-more, Writes-failed, Writes-last}
use Rattle.doc_text.proofs.cores.write_core.Goals as goal

-- what is left after the empty line, and after the line of the table
abbrev after_empty : ℕ → List Instr → List ℕ
after_empty tile instrs = tables_line Core ++ (value_line Tile (decimal tile) ++ code_text instrs)

abbrev after_table : ℕ → List Instr → List ℕ
after_table tile instrs = value_line Tile (decimal tile) ++ code_text instrs

lines : (tile : ℕ) (instrs : List Instr) → false ≡ (length instrs == 0) → core_text tile instrs ≡ codes "\n" ++ after_empty tile instrs
lines tile [] some = cc
lines tile (instr ∷ instrs) some = refl

pub returns-in_err-write_piece : goal.returns-in_err-write_piece
returns-in_err-write_piece g c =
    let tile = c.args.tile in
    let instrs = c.args.instrs.now in
    Writes-failed _ c.from_residual.result c.from_residual.ensures.0 (WritesAllBut-nothing (core_text tile instrs)) (lines tile instrs c.if-is_empty.ensures) c.in_err-write_piece.ensures

pub returns-in_err-write_name : goal.returns-in_err-write_name
returns-in_err-write_name g c =
    let tile = c.args.tile in
    let instrs = c.args.instrs.now in
    let begun = WritesAllBut-more (WritesAllBut-nothing (core_text tile instrs)) (lines tile instrs c.if-is_empty.ensures) c.in_ok-write_piece.ensures in
    Writes-failed (after_table tile instrs) c.from_residual-in_err-write_name.result c.from_residual-in_err-write_name.ensures.0 begun refl c.in_err-write_name.ensures

pub returns-in_err-write_number_line : goal.returns-in_err-write_number_line
returns-in_err-write_number_line g c =
    let tile = c.args.tile in
    let instrs = c.args.instrs.now in
    let begun = WritesAllBut-more (WritesAllBut-nothing (core_text tile instrs)) (lines tile instrs c.if-is_empty.ensures) c.in_ok-write_piece.ensures in
    let headed = WritesAllBut-more {rest = after_table tile instrs} begun refl c.in_ok-write_name.ensures in
    Writes-failed (code_text instrs) c.from_residual-in_err-write_number_line.result c.from_residual-in_err-write_number_line.ensures.0 headed refl c.in_err-write_number_line.ensures

pub returns : goal.returns
returns g c =
    let tile = c.args.tile in
    let instrs = c.args.instrs.now in
    let begun = WritesAllBut-more (WritesAllBut-nothing (core_text tile instrs)) (lines tile instrs c.if-is_empty.ensures) c.in_ok-write_piece.ensures in
    let headed = WritesAllBut-more {rest = after_table tile instrs} begun refl c.in_ok-write_name.ensures in
    let numbered = WritesAllBut-more {rest = code_text instrs} headed refl c.in_ok-write_number_line.ensures in
    Writes-last c.write_code.result numbered refl c.write_code.ensures
