use Rattle.std.proofs.Common.{rules}
use Rattle.commands.proofs.Numbers.{unread}
use Rattle.commands.proofs.options.number_within.Goals as goal

pub returns-in_err-number : goal.returns-in_err-number
returns-in_err-number c =
    let none = unread c.args.least c.args.most c.args.word.now c.parse.result c.ranges.most.fits (search rules) (search rules) (λ n e. search rules) in
    search (rules, none)
