use Rattle.canonical_form.proofs.TableRead.{table_read}
use Rattle.canonical_form.proofs.table_laws.canonical_table_laws.Goals as goal

pub returns : goal.returns
returns c = record { read = table_read }
