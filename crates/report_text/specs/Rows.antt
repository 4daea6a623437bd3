-- The words of each kind of line of a report, but for the lines of events.
use Rattle.std.specs.Prelude.{ℕ, List, [], ◌∷◌, if◌then◌else◌, map, codes, decimal}
use Rattle.mesh_gen.specs.declared.kind.Kind.{Kind}
use Rattle.mesh_gen.specs.declared.kind.Kind.TheVariants.{GetS, GetM, PutM}
use Rattle.mesh_gen.specs.declared.request.Request.{Request}
use Rattle.report_text.specs.declared.access.Access.{Access}
use Rattle.report_text.specs.declared.access.AccessKind.{AccessKind}
use Rattle.report_text.specs.declared.access.AccessKind.TheVariants.{Load, Store, Swap, Add}
use Rattle.report_text.specs.declared.finish.Finish.{Finish}
use Rattle.report_text.specs.Accesses.{is_read_modify_write}
use Rattle.report_text.specs.declared.finish.Finish.TheVariants.{Finished, Budget}

-- a word and how many lines, windows or hops there are
abbrev pub count_words : List ℕ → ℕ → List (List ℕ)
count_words word count = word ∷ decimal count ∷ []

-- the word of a kind of request
abbrev pub kind_word : Kind → List ℕ
kind_word GetS = codes "GetS"
kind_word GetM = codes "GetM"
kind_word PutM = codes "PutM"

-- a request, by its place in the order
abbrev pub request_words : ℕ → Request → List (List ℕ)
request_words place q = codes "q" ∷ decimal place ∷ decimal q.source ∷ decimal q.number ∷ kind_word q.kind ∷ decimal q.line ∷ []

-- a tile, how many requests it has seen, and how many steps its core did
abbrev pub tile_words : ℕ → ℕ → ℕ → List (List ℕ)
tile_words tile seen steps = codes "s" ∷ decimal tile ∷ decimal seen ∷ decimal steps ∷ []

-- the word of a kind of access
abbrev pub access_kind_word : AccessKind → List ℕ
access_kind_word Load = codes "ld"
access_kind_word Store = codes "st"
access_kind_word Swap = codes "sw"
access_kind_word Add = codes "fa"

-- the old word of an access that both reads and writes
abbrev pub old_words : Access → List (List ℕ)
old_words a = if is_read_modify_write a.kind then decimal a.old ∷ [] else []

-- an access: its tile, its number there, what it does, at which address, the word, its time, and for a swap or an
-- add the old word
abbrev pub access_words : Access → List (List ℕ)
access_words a = codes "a" ∷ decimal a.tile ∷ decimal a.number ∷ access_kind_word a.kind ∷ decimal a.address ∷ decimal a.value ∷ decimal a.time ∷ old_words a

-- a line of memory and its words
abbrev pub memory_words : ℕ → List ℕ → List (List ℕ)
memory_words line words = codes "m" ∷ decimal line ∷ map decimal words

-- how the run ended
abbrev pub finish_words : Finish → List (List ℕ)
finish_words Finished = codes "ended" ∷ codes "finished" ∷ []
finish_words Budget = codes "ended" ∷ codes "budget" ∷ []
