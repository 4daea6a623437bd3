use Rattle.std.proofs.Common.{[], ◌∷◌, refl, lit<}
use Rattle.std.specs.List.{IsDistinct}
use Rattle.mesh_gen.specs.Limits.{AreTiles}
use Rattle.document_tests.proofs.canonical_texts.four_tile_mesh.Goals as goal

two_tiles : AreTiles 4 (3 ∷ 0 ∷ [])
unfolding IsDistinct
two_tiles = record { some = lit< tt; distinct = ((refl, tt), (tt, tt)); inside = (lit< tt, (lit< tt, tt)) }

pub invariant_of-mesh-clause-controllers_limit : goal.invariant_of-mesh-clause-controllers_limit
invariant_of-mesh-clause-controllers_limit c =
    let size = c.in_ok-mesh.ensures in ∣ rw (size.cols_is, size.rows_is, c.in_ok-mesh-2.ensures) two_tiles ∣₁
