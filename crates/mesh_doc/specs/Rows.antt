-- Worked documents: what is read, or the first fault.
use Rattle.std.specs.Prelude.{◌≡◌, ℕ, List, [], ◌∷◌, Result, Ok, Err, codes, refl}
use Rattle.toml.specs.Parse.{parse_document}
use Rattle.toml.proofs.OnLiterals.{toml_on_literals}
use Rattle.doc_text.specs.Doc.{Doc}
use Rattle.doc_text.specs.declared.key.Key.TheVariants as key
use Rattle.doc_text.specs.declared.fault.Place.TheVariants as place
use Rattle.doc_text.specs.declared.fault.DocFault.{DocFault}
use Rattle.doc_text.specs.declared.fault.DocFault.TheVariants.{UnknownKey, Missing, Range, Controllers}
use Rattle.mesh_doc.specs.Tables.{cores_of, parts_of}
use Rattle.mesh_doc.specs.Values.{number_in, each, items_in, list_in, repeated_after, window}
use Rattle.mesh_doc.specs.Faults.{unknown_in, missing_in, wrong_value, wrong_in, range_fault, core_range_fault, bad_program, table_faults, value_faults}
use Rattle.mesh_doc.specs.Reading.{program_of_tile, document, reading_of, reading_if}

-- what a text describes that is UTF-8
abbrev pub of_text : List ℕ → Result Doc DocFault
of_text text = reading_if (parse_document text)

empty_text : of_text [] ≡ Err (Missing key.Mesh 0)
unfolding toml_on_literals cores_of parts_of unknown_in missing_in wrong_value wrong_in table_faults value_faults reading_of
empty_text = refl

unknown_key : of_text (codes "colour = 1") ≡ Err (UnknownKey place.Top (codes "colour"))
unfolding toml_on_literals cores_of parts_of unknown_in missing_in wrong_value wrong_in table_faults value_faults reading_of
unknown_key = refl

-- three columns and two rows are three hops wide
short_window : of_text (codes "mesh = { cols = 3, rows = 2, window = 2 }") ≡ Err (Range key.Window 0)
unfolding toml_on_literals cores_of parts_of unknown_in missing_in wrong_value wrong_in number_in each items_in list_in window range_fault core_range_fault table_faults value_faults reading_of
short_window = refl

two_controllers : of_text (codes "mesh = { cols = 2, rows = 2, window = 2, controllers = [0,0] }") ≡ Err Controllers
unfolding toml_on_literals cores_of parts_of unknown_in missing_in wrong_value wrong_in number_in each items_in list_in repeated_after window range_fault core_range_fault table_faults value_faults reading_of
two_controllers = refl

defaults : of_text (codes "mesh = { cols = 1, rows = 1, window = 1, lines = 1 }") ≡ Ok (record {
  cols = 1;
  rows = 1;
  window = 1;
  vcs = 1;
  data_vcs = 1;
  lines = 1;
  sets = 4;
  ways = 1;
  controllers = 0 ∷ [];
  memory = 0 ∷ 0 ∷ 0 ∷ 0 ∷ [];
  programs = [] ∷ [];
  posts = [];
})
unfolding toml_on_literals cores_of parts_of unknown_in missing_in wrong_value wrong_in number_in each items_in list_in repeated_after window range_fault core_range_fault bad_program table_faults value_faults program_of_tile document reading_of
defaults = refl
