use Rattle.std.proofs.Common.{sym, arith}
use Rattle.commands.proofs.Forms.{no_form}
use Rattle.commands.proofs.command.Command.of.Goals as goal

pub returns-in_default-2-clause-named : goal.returns-in_default-2-clause-named
returns-in_default-2-clause-named c =
    sym (no_form c.args.words.now (λ e. omega arith) (λ e. omega arith) (λ e. omega arith) (λ e. omega arith))
