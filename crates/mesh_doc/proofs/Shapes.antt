-- Values of the kind that is wanted.
use Rattle.std.proofs.Common.{◌≡◌, ℕ, true, false, [], Some, refl}
use Rattle.toml.specs.Data.{Data}
use Rattle.doc_text.specs.declared.key.Key.{Key}
use Rattle.doc_text.specs.declared.column.Shape.{Shape}
use Rattle.doc_text.specs.declared.column.Shape.TheVariants.{Table, Integer, Text, Integers, Lists, Tables}
use Rattle.doc_text.specs.declared.fault.DocFault.TheVariants.{WrongKind}
use Rattle.mesh_doc.specs.Faults.{is_of, no_tables, wrong_value}
use Rattle.mesh_doc.specs.Reading.{first}

pub wrong_kind : (shape : Shape) (key : Key) (at : ℕ) (datum : Data) → is_of shape datum ≡ false → first (wrong_value shape key at datum) ≡ Some (WrongKind key at)
unfolding wrong_value
wrong_kind shape key at datum is = rw is refl

pub right_kind : (shape : Shape) (key : Key) (at : ℕ) (datum : Data) → is_of shape datum ≡ true → wrong_value shape key at datum ≡ no_tables shape key datum
unfolding wrong_value
right_kind shape key at datum is = rw is refl

pub no_list : (shape : Shape) (key : Key) (datum : Data) → (shape ≡ Tables → ⊥) → no_tables shape key datum ≡ []
no_list Table key datum other = refl
no_list Integer key datum other = refl
no_list Text key datum other = refl
no_list Integers key datum other = refl
no_list Lists key datum other = refl
no_list Tables key datum other = absurd (other refl)
