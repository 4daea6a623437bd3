use Rattle.std.proofs.Common.{◌∙◌, sym, arith}
use Rattle.std.proofs.lemmas.Int.{ints}
use Rattle.mesh_doc.proofs.Numbers.{number_in-integer, number_in-other, within, below, above}
use Rattle.mesh_doc.proofs.values.number_in.Goals as goal

pub returns-in-Some-clause-value : goal.returns-in-Some-clause-value
returns-in-Some-clause-value c =
    sym (number_in-integer c.args.least c.args.most _ c.in-Some.number (rw c.in-Some.is at c.as_integer.ensures) ∙ within c.args.least c.args.most _ c.in-Some.number (omega (arith, ints)) (omega (arith, ints)) (omega (arith, ints)))

pub returns-in_default-clause-value : goal.returns-in_default-clause-value
returns-in_default-clause-value c =
    sym (number_in-integer c.args.least c.args.most _ c.in-Some.number (rw c.in-Some.is at c.as_integer.ensures) ∙ above c.args.least c.args.most c.in-Some.number (omega (arith, ints)))

pub returns-in_default-2-clause-value : goal.returns-in_default-2-clause-value
returns-in_default-2-clause-value c =
    sym (number_in-integer c.args.least c.args.most _ c.in-Some.number (rw c.in-Some.is at c.as_integer.ensures) ∙ below c.args.least c.args.most c.in-Some.number (omega (arith, ints)))

pub returns-in_default-3-clause-value : goal.returns-in_default-3-clause-value
returns-in_default-3-clause-value c = sym (number_in-other c.args.least c.args.most _ (rw c.in_default.is at c.as_integer.ensures))
