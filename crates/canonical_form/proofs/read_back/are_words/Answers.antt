use Rattle.std.proofs.Common.{ℕ, suc, List, [], ◌∷◌, get_or, Fits, w32, arith}
use Rattle.std.specs.List.{AllByRecursion}
use Rattle.mesh_gen.specs.Limits.{IsFrom}
use Rattle.canonical_form.proofs.read_back.are_words.Goals as goal

all_fit : (words : List ℕ) → ((i : ℕ) → Fits w32 (get_or words i 0)) → AllByRecursion (IsFrom 0 4294967295) words
all_fit [] fit = tt
all_fit (word ∷ words) fit =
    let here : Fits w32 word = fit 0 in
    (record { low = omega arith; high = omega arith }, all_fit words (λ i. fit (suc i)))

pub returns : goal.returns
returns c = all_fit c.args.words.now c.type_inv.words
