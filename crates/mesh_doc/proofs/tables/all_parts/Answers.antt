use Rattle.std.proofs.Common.{refl}
use Rattle.std.proofs.lemmas.List.{map-append}
use Rattle.mesh_doc.specs.Tables.{parts_of}
use Rattle.mesh_doc.proofs.tables.all_parts.Goals as goal

pub returns : goal.returns
unfolding parts_of
returns c = rw (c.in_ok-extend_from_slice.ensures.items, map-append, c.in_ok-parts.ensures, c.requires) refl
