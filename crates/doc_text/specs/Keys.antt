-- The table of a document's keys.
use Rattle.std.specs.Prelude.{ℕ, List, [], ◌∷◌, codes}
use Rattle.mesh_gen.specs.Limits.{most_side}
use Rattle.doc_text.specs.declared.key.Level.{Level}
use Rattle.doc_text.specs.declared.key.Level.TheVariants as level
use Rattle.doc_text.specs.declared.key.Key.{Key}
use Rattle.doc_text.specs.declared.key.Key.TheVariants.{Mesh, Posts, Core, Cols, Rows, Window, Vcs, DataVcs, Lines, Sets, Ways, Controllers, Memory, Tile, Code}
use Rattle.doc_text.specs.declared.column.Shape.{Shape}
use Rattle.doc_text.specs.declared.column.Shape.TheVariants as shape
use Rattle.doc_text.specs.declared.column.Omitted.{Omitted}
use Rattle.doc_text.specs.declared.column.Omitted.TheVariants as omitted
use Rattle.doc_text.specs.declared.column.Limit.{Limit}
use Rattle.doc_text.specs.declared.column.Limit.TheVariants as limit

-- the table that the key stands in, its name there, what its value is, what stands for it where it is left out, and
-- which values it takes
pub record Row : Type 0 where
  pub level : Level
  pub name : List ℕ
  pub shape : Shape
  pub omitted : Omitted
  pub limit : Limit

-- the table
abbrev pub row_of : Key → Row
row_of Mesh = record { level = level.Top; name = codes "mesh"; shape = shape.Table; omitted = omitted.Refused; limit = limit.Free }
row_of Posts = record { level = level.Top; name = codes "posts"; shape = shape.Lists; omitted = omitted.Empty; limit = limit.Windows }
row_of Core = record { level = level.Top; name = codes "core"; shape = shape.Tables; omitted = omitted.Empty; limit = limit.Free }
row_of Cols = record { level = level.Mesh; name = codes "cols"; shape = shape.Integer; omitted = omitted.Refused; limit = limit.Number 1 most_side }
row_of Rows = record { level = level.Mesh; name = codes "rows"; shape = shape.Integer; omitted = omitted.Refused; limit = limit.Number 1 most_side }
row_of Window = record { level = level.Mesh; name = codes "window"; shape = shape.Integer; omitted = omitted.Refused; limit = limit.Ticks }
row_of Vcs = record { level = level.Mesh; name = codes "vcs"; shape = shape.Integer; omitted = omitted.Default 1; limit = limit.Number 1 8 }
row_of DataVcs = record { level = level.Mesh; name = codes "data_vcs"; shape = shape.Integer; omitted = omitted.Default 1; limit = limit.Number 1 4 }
row_of Lines = record { level = level.Mesh; name = codes "lines"; shape = shape.Integer; omitted = omitted.Default 16; limit = limit.Number 1 256 }
row_of Sets = record { level = level.Mesh; name = codes "sets"; shape = shape.Integer; omitted = omitted.Default 4; limit = limit.Number 1 64 }
row_of Ways = record { level = level.Mesh; name = codes "ways"; shape = shape.Integer; omitted = omitted.Default 1; limit = limit.Number 1 4 }
row_of Controllers = record { level = level.Mesh; name = codes "controllers"; shape = shape.Integers; omitted = omitted.FirstTile; limit = limit.Tiles }
row_of Memory = record { level = level.Mesh; name = codes "memory"; shape = shape.Integers; omitted = omitted.Empty; limit = limit.Words }
row_of Tile = record { level = level.Core; name = codes "tile"; shape = shape.Integer; omitted = omitted.Refused; limit = limit.Tile }
row_of Code = record { level = level.Core; name = codes "code"; shape = shape.Text; omitted = omitted.Refused; limit = limit.Free }

-- the keys of each table, in the table's order
abbrev pub keys_at : Level → List Key
keys_at level.Top = Mesh ∷ Posts ∷ Core ∷ []
keys_at level.Mesh = Cols ∷ Rows ∷ Window ∷ Vcs ∷ DataVcs ∷ Lines ∷ Sets ∷ Ways ∷ Controllers ∷ Memory ∷ []
keys_at level.Core = Tile ∷ Code ∷ []
