-- Documents, and the text of each.
use Rattle.std.specs.Prelude.{◌≡◌, ℕ, List, [], ◌∷◌, ◌++◌, map, codes, refl}
use Rattle.std.specs.Fmt.{digits}
use Rattle.core_isa.specs.declared.instr.Instr.TheVariants.{Li, Ld, St, Jmp, Halt}
use Rattle.doc_text.specs.Doc.{Doc}
use Rattle.doc_text.specs.declared.key.Key.TheVariants.{Controllers, Memory}
use Rattle.doc_text.specs.declared.key.Level.TheVariants as level
use Rattle.doc_text.specs.Keys.{keys_at}
use Rattle.doc_text.specs.Canonical.{canonical, sizes}

-- a line
abbrev line : List ℕ → List ℕ
line text = text ++ codes "\n"

-- the lines of the mesh stand in the order of its keys
in_order : (doc : Doc) → map (λ size. size.0) (sizes doc) ++ Controllers ∷ Memory ∷ [] ≡ keys_at level.Mesh
in_order doc = refl

-- one tile that stores a word and loads it
abbrev one_tile : Doc
one_tile = record {
  cols = 1;
  rows = 1;
  window = 1;
  vcs = 1;
  data_vcs = 1;
  lines = 1;
  sets = 1;
  ways = 1;
  controllers = 0 ∷ [];
  memory = 0 ∷ 0 ∷ 0 ∷ 0 ∷ [];
  programs = (Li 1 7 ∷ St 1 0 2 ∷ Ld 2 0 2 ∷ Halt ∷ []) ∷ [];
  posts = [];
}

one_tile_text : canonical one_tile ≡ line (codes "[mesh]") ++ line (codes "cols = 1") ++ line (codes "rows = 1") ++ line (codes "window = 1") ++ line (codes "vcs = 1")
    ++ line (codes "data_vcs = 1") ++ line (codes "lines = 1") ++ line (codes "sets = 1") ++ line (codes "ways = 1") ++ line (codes "controllers = [0]")
    ++ line [] ++ line (codes "[[core]]") ++ line (codes "tile = 0") ++ line (codes "code = '''")
    ++ line (codes "li r1 7") ++ line (codes "st r1 r0 2") ++ line (codes "ld r2 r0 2") ++ line (codes "halt") ++ line (codes "'''")
unfolding digits
one_tile_text = refl

-- four tiles with posts, two controllers out of order, zeros between words and after them, and two programs
abbrev four_tiles : Doc
four_tiles = record {
  cols = 2;
  rows = 2;
  window = 64;
  vcs = 8;
  data_vcs = 4;
  lines = 2;
  sets = 64;
  ways = 4;
  controllers = 3 ∷ 0 ∷ [];
  memory = 0 ∷ 7 ∷ 0 ∷ 4294967295 ∷ 0 ∷ 0 ∷ 0 ∷ 0 ∷ [];
  programs = [] ∷ (Halt ∷ []) ∷ [] ∷ (Jmp 0 ∷ []) ∷ [];
  posts = (0 ∷ 3 ∷ []) ∷ (1 ∷ []) ∷ [];
}

four_tiles_text : canonical four_tiles ≡ line (codes "posts = [[0,3],[1]]") ++ line [] ++ line (codes "[mesh]") ++ line (codes "cols = 2") ++ line (codes "rows = 2")
    ++ line (codes "window = 64") ++ line (codes "vcs = 8") ++ line (codes "data_vcs = 4") ++ line (codes "lines = 2") ++ line (codes "sets = 64")
    ++ line (codes "ways = 4") ++ line (codes "controllers = [3,0]") ++ line (codes "memory = [0,7,0,4294967295]")
    ++ line [] ++ line (codes "[[core]]") ++ line (codes "tile = 1") ++ line (codes "code = '''") ++ line (codes "halt") ++ line (codes "'''")
    ++ line [] ++ line (codes "[[core]]") ++ line (codes "tile = 3") ++ line (codes "code = '''") ++ line (codes "jmp @0") ++ line (codes "'''")
unfolding digits
four_tiles_text = refl
