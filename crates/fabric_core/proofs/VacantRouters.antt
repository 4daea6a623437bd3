-- What is true of each of the five ports is true of all.
use Rattle.std.proofs.Common.{◌≡◌, Bool, true, false}
use Rattle.std.specs.Prelude.{◌&&◌}
use Rattle.std.specs.Bool.{OnTrue}
use Rattle.mesh_gen.specs.declared.port.Port.{Port}
use Rattle.mesh_gen.specs.declared.port.Port.TheVariants.{L, E, W, N, S}

pub at_each : (P : Port → Type 0) (own east west north south answer : Bool) → answer ≡ (own && (east && (west && (north && (south && true)))))
    → OnTrue own (P L) → OnTrue east (P E) → OnTrue west (P W) → OnTrue north (P N) → OnTrue south (P S) → OnTrue answer ((port : Port) → P port)
at_each P own east west north south false is l e w n s = tt
at_each P false east west north south true is l e w n s = cc
at_each P true false west north south true is l e w n s = cc
at_each P true true false north south true is l e w n s = cc
at_each P true true true false south true is l e w n s = cc
at_each P true true true true false true is l e w n s = cc
at_each P true true true true true true is l e w n s = each
  where
    each : (port : Port) → P port
    each L = l
    each E = e
    each W = w
    each N = n
    each S = s
