use Rattle.mesh_doc.specs.Values.{number_in}
use Rattle.mesh_doc.proofs.Numbers.{no_number}
use Rattle.mesh_doc.proofs.sizes.omitted_number.Goals as goal

pub returns-in-Default-clause-value : goal.returns-in-Default-clause-value
unfolding number_in
returns-in-Default-clause-value c = rw (← c.omitted.ensures, c.in-Default.is) (rw c.from.ensures at c.bounded.ensures.value)

pub returns-in_default : goal.returns-in_default
returns-in_default c = record { value = rw (← c.omitted.ensures) (no_number c.omitted.result c.in_default.not-Default c.args.least c.args.most); limits = tt }
