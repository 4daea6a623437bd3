-- Loads keep every limit.
use Rattle.std.proofs.Common.{◌≡◌, ℕ, zero, suc, ◌+◌, ◌*◌, ◌/◌, ◌%◌, ◌==◌, ◌<◌, ◌^◌, Bool, true, false, List, [], ◌∷◌, ◌++◌, length, map, refl, sym, ap, subst, arith, length-append, lit<, lit≤}
use Rattle.std.specs.Prelude.{replicate, if◌then◌else◌}
use Rattle.std.specs.List.{AllByRecursion, IsDistinct}
use Rattle.std.proofs.lemmas.List.{length-map}
use Rattle.mesh_gen.specs.Limits.{IsFrom, AreTiles}
use Rattle.core_isa.specs.declared.instr.Instr.TheVariants.{Ld, St, Tid}
use Rattle.core_isa.specs.Program.{IsWithin, IsProgram}
use Rattle.mesh_doc.specs.Laws.{KeepsLimits}
use Rattle.rand_core.specs.Steps.{first_words}
use Rattle.rand_pcg.specs.Lcg.{Lcg, advance}
use Rattle.rand_pcg.specs.Pcg.{multiplier_64, pcg32}
use Rattle.load_gen.specs.Load.{access, guarded, program, program_at, generator, load}

drawn_address : (word : ℕ) → 8 + word % 56 < 2 ^ 32
drawn_address word = omega arith

access_by : (len word : ℕ) (even : Bool) → IsWithin len (if even then Ld 2 0 (8 + word % 56) else St 1 0 (8 + word % 56))
access_by len word true = (lit< tt, lit< tt, drawn_address word)
access_by len word false = (lit< tt, lit< tt, drawn_address word)

-- the access of a word may stand in every program
pub access_within : (len word : ℕ) → IsWithin len (access word)
access_within len word = access_by len word (word / 64 % 2 == 0)

-- so may accesses, and what a tile does after them
within_program : (words : List ℕ) → AllByRecursion (IsWithin 16) (map access words ++ guarded)
within_program [] = (
  (lit< tt, lit< tt, lit< tt),
  (
    (lit< tt, lit< tt, lit≤ tt),
    (
      (lit< tt, lit< tt, lit< tt),
      (
        (lit< tt, lit< tt, lit< tt),
        (
          (lit< tt, lit< tt, lit< tt),
          ((lit< tt, lit< tt, lit< tt), ((lit< tt, lit< tt, lit< tt), tt)),
        ),
      ),
    ),
  ),
)
within_program (word ∷ words) = (access_within 16 word, within_program words)

drawn_count : (count : ℕ) (words : Lcg) → length (first_words pcg32 count words) ≡ count
unfolding first_words
drawn_count zero words = refl
drawn_count (suc count) words = ap suc (drawn_count count (pcg32 words).1)

program_count : (words : List ℕ) → length words ≡ 8 → length (Tid 1 ∷ map access words ++ guarded) ≡ 16
program_count words eight = omega (arith, eight, length-map words access, length-append (Tid 1 ∷ map access words) guarded)

-- what is drawn is a program
pub drawn_program : (words : Lcg) → IsProgram (program words)
drawn_program words =
    let drawn : List ℕ = first_words pcg32 8 words in
    let count : length (program words) ≡ 16 = program_count drawn (drawn_count 8 words) in
    record {
      limited = omega (arith, count);
      within = subst (λ (n : ℕ). AllByRecursion (IsWithin n) (program words)) (sym count) (lit< tt, within_program drawn);
    }

-- so is each of several
pub drawn_programs : (number : ℕ) (tiles : List ℕ) → AllByRecursion IsProgram (map (program_at number) tiles)
drawn_programs number [] = tt
drawn_programs number (tile ∷ tiles) = (drawn_program (advance 64 multiplier_64 (8 * tile) (generator number)), drawn_programs number tiles)

-- words that are 0 keep the limit of words
pub zeros : (count : ℕ) → AllByRecursion (IsFrom 0 4294967295) (replicate count 0)
zeros zero = tt
zeros (suc count) = (record { low = lit≤ tt; high = lit≤ tt }, zeros count)

-- the controllers are two of the tiles
pub two_controllers : AreTiles 16 (0 ∷ 15 ∷ [])
unfolding IsDistinct
two_controllers = record { some = lit< tt; distinct = ((refl, tt), (tt, tt)); inside = (lit< tt, (lit< tt, tt)) }

-- each load keeps every limit of a document
pub load_limits : (number : ℕ) → KeepsLimits (load number)
load_limits number = record {
  cols = record { low = lit≤ tt; high = lit≤ tt };
  rows = record { low = lit≤ tt; high = lit≤ tt };
  window = record { low = lit≤ tt; high = lit≤ tt };
  vcs = record { low = lit≤ tt; high = lit≤ tt };
  data_vcs = record { low = lit≤ tt; high = lit≤ tt };
  lines = record { low = lit≤ tt; high = lit≤ tt };
  sets = record { low = lit≤ tt; high = lit≤ tt };
  ways = record { low = lit≤ tt; high = lit≤ tt };
  controllers = two_controllers;
  memory = refl;
  words = zeros 64;
  programs = refl;
  posts = record { few = lit≤ tt; each = tt };
}
