-- The text of `order`: the sources of the requests in their order, on one line.
use Rattle.std.specs.Prelude.{ℕ, ◌*◌, ◌++◌, List, map, codes, decimal}
use Rattle.std.specs.List.{join_with_byte}
use Rattle.mesh_gen.specs.TileSet.{set_of}
use Rattle.order_tracker.specs.Order.{order}
use Rattle.doc_text.specs.Doc.{Doc}

-- numbers on a line, with a space between each two
abbrev pub numbers_line : List ℕ → List ℕ
numbers_line numbers = join_with_byte 32 (map decimal numbers) ++ codes "\n"

-- the order of what a document posts, where each window's vector is the set of the tiles that post in it
abbrev pub order_text : Doc → List ℕ
order_text doc = numbers_line (order (doc.cols * doc.rows) (map set_of doc.posts))
