use Rattle.std.proofs.Common.{ℕ, List, ◌++◌, codes, refl}
use Rattle.core_isa.specs.Printing.{program_text}
use Rattle.doc_text.specs.declared.key.Key.TheVariants.{Code}
use Rattle.doc_text.specs.Canonical.{value_line, code_text}
use Rattle.outside_io.proofs.Writes.{WritesAllBut-nothing, WritesAllBut-more, Writes-failed, Writes-last}
use Rattle.doc_text.proofs.cores.write_code.Goals as goal

abbrev opening : List ℕ
opening = value_line Code (codes "'''")

abbrev closing : List ℕ
closing = codes "'''\n"

pub returns-in_err-write_name : goal.returns-in_err-write_name
returns-in_err-write_name g c =
    let instrs = c.args.instrs.now in
    Writes-failed (program_text instrs ++ closing) c.from_residual.result c.from_residual.ensures.0 (WritesAllBut-nothing (code_text instrs)) refl c.in_err-write_name.ensures

pub returns-in_err-write_instrs : goal.returns-in_err-write_instrs
returns-in_err-write_instrs g c =
    let instrs = c.args.instrs.now in
    let opened = WritesAllBut-more {rest = program_text instrs ++ closing} (WritesAllBut-nothing (code_text instrs)) refl c.in_ok-write_name.ensures in
    Writes-failed closing c.from_residual-in_err-write_instrs.result c.from_residual-in_err-write_instrs.ensures.0 opened refl c.in_err-write_instrs.ensures

pub returns : goal.returns
returns g c =
    let instrs = c.args.instrs.now in
    let opened = WritesAllBut-more {rest = program_text instrs ++ closing} (WritesAllBut-nothing (code_text instrs)) refl c.in_ok-write_name.ensures in
    let printed = WritesAllBut-more {rest = closing} opened refl c.in_ok-write_instrs.ensures in
    Writes-last c.write_piece.result printed refl c.write_piece.ensures
