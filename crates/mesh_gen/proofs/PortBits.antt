-- Sets of ports, bit by bit: what holds of each set below 32 is computed for all of them.
use Rattle.std.proofs.Common.{◌≡◌, ℕ, ◌<◌, Bool, true, false, refl, arith}
use Rattle.std.specs.Prelude.{◌==◌, ◌&&◌, ◌||◌, not, nat_lt}
use Rattle.std.proofs.lemmas.Bool.{agree_below, agree_below_at, ltb-true, ne_eqb}
use Rattle.mesh_gen.specs.declared.port.Port.{Port}
use Rattle.mesh_gen.specs.declared.port.Port.TheVariants.{L, E, W, N, S}
use Rattle.mesh_gen.specs.Ports.{has, without_port, same_port}

-- ---- a set without a port
has_after : Port → Port → ℕ → Bool
unfolding has without_port
has_after p q ports = has (without_port ports q) p

has_before : Port → Port → ℕ → Bool
unfolding has
has_before p q ports = has ports p && not (same_port p q)

agree : (p q : Port) → agree_below (has_after p q) (has_before p q) 32 ≡ true
unfolding has_after has_before has without_port
agree L L = refl
agree L E = refl
agree L W = refl
agree L N = refl
agree L S = refl
agree E L = refl
agree E E = refl
agree E W = refl
agree E N = refl
agree E S = refl
agree W L = refl
agree W E = refl
agree W W = refl
agree W N = refl
agree W S = refl
agree N L = refl
agree N E = refl
agree N W = refl
agree N N = refl
agree N S = refl
agree S L = refl
agree S E = refl
agree S W = refl
agree S N = refl
agree S S = refl

pub has-without_port : (ports : ℕ) (p q : Port) → ports < 32 → has (without_port ports q) p ≡ (has ports p && not (same_port p q))
unfolding has_after has_before
has-without_port ports p q below = agree_below_at (has_after p q) (has_before p q) 32 ports (agree p q) below

is_small : Port → ℕ → Bool
unfolding without_port
is_small q ports = nat_lt (without_port ports q) 32

all_small : (q : Port) → agree_below (is_small q) (λ ports. true) 32 ≡ true
unfolding is_small without_port
all_small L = refl
all_small E = refl
all_small W = refl
all_small N = refl
all_small S = refl

pub without_port_below : (ports : ℕ) (q : Port) → ports < 32 → without_port ports q < 32
unfolding is_small
without_port_below ports q below = ltb-true _ _ (agree_below_at (is_small q) (λ p. true) 32 ports (all_small q) below)

-- ---- a set that is empty, and one that is not
pub has-empty : (p : Port) → has 0 p ≡ false
unfolding has
has-empty L = refl
has-empty E = refl
has-empty W = refl
has-empty N = refl
has-empty S = refl

has_some : ℕ → Bool
unfolding has
has_some ports = (ports == 0) || (has ports L || (has ports E || (has ports W || (has ports N || has ports S))))

all_have_some : agree_below has_some (λ ports. true) 32 ≡ true
unfolding has_some has
all_have_some = refl

pub some_port : (ports : ℕ) → ports < 32 → 0 < ports → (p : Port) × (has ports p ≡ true)
unfolding has_some
some_port ports below some =
    pick (ports == 0) (has ports L) (has ports E) (has ports W) (has ports N) (has ports S) (ne_eqb ports 0 (λ none. omega arith)) refl refl refl refl refl (agree_below_at has_some (λ p. true) 32 ports all_have_some below)
  where
    pick : (z l e w n s : Bool) → z ≡ false → has ports L ≡ l → has ports E ≡ e → has ports W ≡ w → has ports N ≡ n → has ports S ≡ s → (z || (l || (e || (w || (n || s))))) ≡ true → (p : Port) × (has ports p ≡ true)
    pick true l e w n s none is_l is_e is_w is_n is_s one = cc
    pick false true e w n s none is_l is_e is_w is_n is_s one = (L, is_l)
    pick false false true w n s none is_l is_e is_w is_n is_s one = (E, is_e)
    pick false false false true n s none is_l is_e is_w is_n is_s one = (W, is_w)
    pick false false false false true s none is_l is_e is_w is_n is_s one = (N, is_n)
    pick false false false false false true none is_l is_e is_w is_n is_s one = (S, is_s)
    pick false false false false false false none is_l is_e is_w is_n is_s one = cc
