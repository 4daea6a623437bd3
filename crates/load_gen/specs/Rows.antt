-- The programs of two tiles of the load 42.
use Rattle.std.specs.Prelude.{◌≡◌, [], ◌∷◌, ◌++◌, refl}
use Rattle.core_isa.specs.declared.instr.Instr.TheVariants.{Ld, St, Tid}
use Rattle.rand_core.specs.Steps.{first_words}
use Rattle.rand_pcg.specs.Lcg.{state_after}
use Rattle.load_gen.specs.Load.{guarded, program_at}

-- the first tile
tile_0 : program_at 42 0 ≡ Tid 1 ∷ St 1 0 57 ∷ St 1 0 50 ∷ Ld 2 0 56 ∷ St 1 0 25 ∷ St 1 0 36 ∷ Ld 2 0 48 ∷ Ld 2 0 38 ∷ Ld 2 0 16 ∷ [] ++ guarded
unfolding first_words state_after
tile_0 = refl

-- the last one
tile_15 : program_at 42 15 ≡ Tid 1 ∷ Ld 2 0 52 ∷ St 1 0 47 ∷ Ld 2 0 31 ∷ St 1 0 19 ∷ St 1 0 33 ∷ Ld 2 0 17 ∷ St 1 0 33 ∷ Ld 2 0 58 ∷ [] ++ guarded
unfolding first_words state_after
tile_15 = refl
