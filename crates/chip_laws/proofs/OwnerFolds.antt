-- Who owns a line, and who may write it, along the order: after one request more, and after those that follow a place.
use Rattle.std.proofs.Common.{◌≡◌, ℕ, zero, suc, ◌+◌, ◌<◌, ◌≤◌, Bool, true, false, cond, refl, sym, ◌∙◌, ap, arith, inl, inr, ◌⊎◌, Some, List, [], ◌∷◌, ◌++◌, take}
use Rattle.std.specs.Prelude.{◌==◌, ◌&&◌, ◌||◌, not, slice_get, filter}
use Rattle.std.specs.List.{fold, list_any}
use Rattle.std.proofs.lemmas.Bool.{false≢true, eq-eqb}
use Rattle.std.proofs.lemmas.Bool.Decides.{nat_tests}
use Rattle.std.proofs.lemmas.List.{take-append-drop}
use Rattle.std.proofs.lemmas.List.Sums.{fold-append, fold_push}
use Rattle.mesh_gen.specs.declared.kind.Kind.{Kind}
use Rattle.mesh_gen.specs.declared.kind.Kind.TheVariants.{GetS, GetM, PutM}
use Rattle.mesh_gen.specs.declared.request.Request.{Request}
use Rattle.chip_model.specs.declared.owner.Owner.{Owner}
use Rattle.chip_model.specs.declared.owner.Owner.TheVariants.{Memory, Tile}
use Rattle.chip_model.specs.declared.waiting.Waiting.{Waiting}
use Rattle.chip_model.specs.Misses.{is_getm, ends_in_getm}
use Rattle.chip_model.specs.Ownership.{written_back, owner_by, owner_after, owner, writer_by, writer_after, writer}
use Rattle.chip_model.specs.Bookkeeping.{is_get, is_get_of, between, gets_of_others, up_to_getm, waiting_for}
use Rattle.chip_laws.proofs.OrderLists.{take_next}

-- ---- one request more
pub owner_next : (line n : ℕ) (ordered : List Request) (q : Request) → slice_get ordered n ≡ Some q
    → owner line (take (n + 1) ordered) ≡ owner_after line (owner line (take n ordered)) q
unfolding owner
owner_next line n ordered q at = ap (λ (requests : List Request). fold (owner_after line) Memory requests) (take_next ordered n q at)
    ∙ fold_push (owner_after line) Memory (take n ordered) q

pub writer_next : (line n : ℕ) (ordered : List Request) (q : Request) → slice_get ordered n ≡ Some q
    → writer line (take (n + 1) ordered) ≡ writer_after line (writer line (take n ordered)) q
unfolding writer
writer_next line n ordered q at = ap (λ (requests : List Request). fold (writer_after line) Memory requests) (take_next ordered n q at)
    ∙ fold_push (writer_after line) Memory (take n ordered) q

pub writer_of_kind : (line n : ℕ) (ordered : List Request) (q : Request) (kind : Kind) → slice_get ordered n ≡ Some q → q.kind ≡ kind → q.line ≡ line
    → writer line (take (n + 1) ordered) ≡ writer_by q.source kind (writer line (take n ordered))
unfolding writer_after
writer_of_kind line n ordered q kind at is same =
    writer_next line n ordered q at
    ∙ ap (λ (b : Bool). cond b (writer_by q.source q.kind (writer line (take n ordered))) (writer line (take n ordered))) (eq-eqb q.line line same)
    ∙ ap (λ (k : Kind). writer_by q.source k (writer line (take n ordered))) is

pub owner_of_getm : (line n : ℕ) (ordered : List Request) (q : Request) → slice_get ordered n ≡ Some q → q.kind ≡ GetM → q.line ≡ line
    → owner line (take (n + 1) ordered) ≡ Tile q.source
unfolding owner_after
owner_of_getm line n ordered q at is same =
    owner_next line n ordered q at
    ∙ ap (λ (b : Bool). cond b (owner_by q.source q.kind (owner line (take n ordered))) (owner line (take n ordered))) (eq-eqb q.line line same)
    ∙ ap (λ (k : Kind). owner_by q.source k (owner line (take n ordered))) is

-- ---- who may write is nobody, or the owner
abbrev pub WriterOwns : Owner → Owner → Type 0
WriterOwns writer owner = (writer ≡ Memory) ⊎ (writer ≡ owner)

writer_owns_by : (t : ℕ) (kind : Kind) (writer owner : Owner) → WriterOwns writer owner → WriterOwns (writer_by t kind writer) (owner_by t kind owner)
writer_owns_by t GetS writer owner is = inl refl
writer_owns_by t GetM writer owner is = inr refl
writer_owns_by t PutM writer owner is = elim is [
  | inl none ↦ inl (ap (written_back t) none)
  | inr same ↦ inr (ap (written_back t) same)
]

writer_owns_after : (line : ℕ) (q : Request) (writer owner : Owner) → WriterOwns writer owner → WriterOwns (writer_after line writer q) (owner_after line owner q)
unfolding writer_after owner_after
writer_owns_after line q writer owner is = by (q.line == line) where
  by : (b : Bool) → WriterOwns (cond b (writer_by q.source q.kind writer) writer) (cond b (owner_by q.source q.kind owner) owner)
  by true = writer_owns_by q.source q.kind writer owner is
  by false = is

writer_owns_fold : (line : ℕ) (requests : List Request) (writer owner : Owner) → WriterOwns writer owner
    → WriterOwns (fold (writer_after line) writer requests) (fold (owner_after line) owner requests)
writer_owns_fold line [] writer owner is = is
writer_owns_fold line (q ∷ requests) writer owner is =
    writer_owns_fold line requests (writer_after line writer q) (owner_after line owner q) (writer_owns_after line q writer owner is)

pub writer_owns : (line : ℕ) (requests : List Request) → WriterOwns (writer line requests) (owner line requests)
unfolding writer owner
writer_owns line requests = writer_owns_fold line requests Memory Memory (inl refl)

-- ---- after the requests that follow a place
take_shorter : {X : Type 0} (k n : ℕ) (xs : List X) → k ≤ n → take k (take n xs) ≡ take k xs
take_shorter {X} zero n xs less = refl
take_shorter {X} (suc k) zero xs less = absurd (omega arith)
take_shorter {X} (suc k) (suc n) [] less = refl
take_shorter {X} (suc k) (suc n) (x ∷ xs) less = ap (λ (ys : List X). x ∷ ys) (take_shorter k n xs (omega arith))

split_at : (ordered : List Request) (place n : ℕ) → place < n → take n ordered ≡ take (place + 1) ordered ++ between place n ordered
split_at ordered place n before =
    sym (take-append-drop (place + 1) (take n ordered))
    ∙ ap (λ (requests : List Request). requests ++ between place n ordered) (take_shorter (place + 1) n ordered (omega arith))

pub writer_from : (line place n : ℕ) (ordered : List Request) → place < n
    → writer line (take n ordered) ≡ fold (writer_after line) (writer line (take (place + 1) ordered)) (between place n ordered)
unfolding writer
writer_from line place n ordered before =
    ap (λ (requests : List Request). fold (writer_after line) Memory requests) (split_at ordered place n before)
    ∙ fold-append (writer_after line) Memory (take (place + 1) ordered) (between place n ordered)

pub owner_from : (line place n : ℕ) (ordered : List Request) → place < n
    → owner line (take n ordered) ≡ fold (owner_after line) (owner line (take (place + 1) ordered)) (between place n ordered)
unfolding owner
owner_from line place n ordered before =
    ap (λ (requests : List Request). fold (owner_after line) Memory requests) (split_at ordered place n before)
    ∙ fold-append (owner_after line) Memory (take (place + 1) ordered) (between place n ordered)

-- ---- what is filtered
record NotKept (b : Bool) (rest : List Request) : Type 0 where
  pub test : b ≡ false
  pub after : rest ≡ []

none_kept : (b : Bool) (q : Request) (rest : List Request) → cond b (q ∷ rest) rest ≡ [] → NotKept b rest
none_kept true q rest is = cc
none_kept false q rest is = record { test = refl; after = is }

-- no request asks for a copy to write
abbrev pub reads_only : List Request → Bool
reads_only requests = not (list_any (λ (q : Request). is_getm q.kind) requests)

record ReadOnly (b : Bool) (q : Request) (rest : List Request) : Type 0 where
  pub first : b ≡ true → is_getm q.kind ≡ false
  pub after : reads_only rest ≡ true

only_first : (q : Request) (rest : List Request) → reads_only (q ∷ rest) ≡ true → ReadOnly true q rest
only_first q rest is = by (is_getm q.kind) refl is where
  by : (b : Bool) → is_getm q.kind ≡ b → not (b || list_any (λ (r : Request). is_getm r.kind) rest) ≡ true → ReadOnly true q rest
  by true e i = absurd (false≢true i)
  by false e i = record { first = λ test. e; after = i }

only_kept : (b : Bool) (q : Request) (rest : List Request) → reads_only (cond b (q ∷ rest) rest) ≡ true → ReadOnly b q rest
only_kept true q rest is = only_first q rest is
only_kept false q rest is = record { first = λ test. absurd (false≢true test); after = is }

-- ---- a request that is no get of the tile, and of others no get to write
abbrev is_get_of_other : ℕ → ℕ → Request → Bool
is_get_of_other t line q = is_get q.kind && (q.line == line) && not (q.source == t)

memory_stays : (t line : ℕ) (q : Request) → is_get_of t q ≡ false → (is_get_of_other t line q ≡ true → is_getm q.kind ≡ false) → writer_after line Memory q ≡ Memory
unfolding writer_after
memory_stays t line q own others = grind (arith, nat_tests, own, others)

-- among gets of others that read, and none of its own, nobody may write who could not before
pub none_writes : (t line : ℕ) (requests : List Request) → reads_only (gets_of_others t line requests) ≡ true → filter (is_get_of t) requests ≡ []
    → fold (writer_after line) Memory requests ≡ Memory
none_writes t line [] others own = refl
none_writes t line (q ∷ requests) others own =
    let alone = none_kept (is_get_of t q) q (filter (is_get_of t) requests) own in
    let reads = only_kept (is_get_of_other t line q) q (gets_of_others t line requests) others in
    ap (λ (w : Owner). fold (writer_after line) w requests) (memory_stays t line q alone.test reads.first)
    ∙ none_writes t line requests reads.after alone.after

read_stops : (t line : ℕ) (q : Request) (writer : Owner) → is_get_of_other t line q ≡ true → is_getm q.kind ≡ false → writer_after line writer q ≡ Memory
unfolding writer_after
read_stops t line q writer get reads = grind (arith, nat_tests, get, reads)

-- one of them that reads takes it from everyone
pub reads_stop : (t line : ℕ) (requests : List Request) (writer : Owner) (first : Request) (more : List Request)
    → gets_of_others t line requests ≡ first ∷ more → reads_only (gets_of_others t line requests) ≡ true → filter (is_get_of t) requests ≡ []
    → fold (writer_after line) writer requests ≡ Memory
reads_stop t line [] writer first more some others own = cc
reads_stop t line (q ∷ requests) writer first more some others own =
    let alone = none_kept (is_get_of t q) q (filter (is_get_of t) requests) own in
    let reads = only_kept (is_get_of_other t line q) q (gets_of_others t line requests) others in
    by (is_get_of_other t line q) refl reads alone.after some
    (λ is reads_after. reads_stop t line requests (writer_after line writer q) first more is reads_after alone.after) where
      by : (b : Bool) → is_get_of_other t line q ≡ b → ReadOnly b q (gets_of_others t line requests) → filter (is_get_of t) requests ≡ []
          → cond b (q ∷ gets_of_others t line requests) (gets_of_others t line requests) ≡ first ∷ more
          → (gets_of_others t line requests ≡ first ∷ more → reads_only (gets_of_others t line requests) ≡ true → fold (writer_after line) (writer_after line writer q) requests ≡ Memory)
          → fold (writer_after line) (writer_after line writer q) requests ≡ Memory
      by true get reads alone is later =
          ap (λ (w : Owner). fold (writer_after line) w requests) (read_stops t line q writer get (reads.first refl))
          ∙ none_writes t line requests reads.after alone
      by false get reads alone is later = later is reads.after

-- where nobody asks, who may write stays the owner
same_given : (t line : ℕ) (q : Request) (who : Owner) → is_get_of t q ≡ false → is_get_of_other t line q ≡ false → writer_after line who q ≡ owner_after line who q
unfolding writer_after owner_after
same_given t line q who own other = grind (arith, nat_tests, own, other)

pub stays_owner : (t line : ℕ) (requests : List Request) (who : Owner) → gets_of_others t line requests ≡ [] → filter (is_get_of t) requests ≡ []
    → fold (writer_after line) who requests ≡ fold (owner_after line) who requests
stays_owner t line [] who others own = refl
stays_owner t line (q ∷ requests) who others own =
    let alone = none_kept (is_get_of t q) q (filter (is_get_of t) requests) own in
    let other = none_kept (is_get_of_other t line q) q (gets_of_others t line requests) others in
    ap (λ (w : Owner). fold (writer_after line) w requests) (same_given t line q who alone.test other.test)
    ∙ stays_owner t line requests (owner_after line who q) other.after alone.after

-- ---- who waits for a demand to write
pub nobody_asks : (requests : List Request) → waiting_for (up_to_getm requests) ≡ [] → requests ≡ []
nobody_asks [] is = refl
nobody_asks (q ∷ requests) is = by (is_getm q.kind) is where
  by : (b : Bool) → waiting_for (cond b (q ∷ []) (q ∷ up_to_getm requests)) ≡ [] → q ∷ requests ≡ []
  by true e = cc
  by false e = cc

ends_after : (q : Request) (list : List Waiting) → is_getm q.kind ≡ false → ends_in_getm ((record { tile = q.source; kind = q.kind }) ∷ list) ≡ ends_in_getm list
ends_after q [] reads = reads
ends_after q (next ∷ list) reads = refl

-- where the line does not go on to one that writes, all that wait read
pub all_read : (requests : List Request) → ends_in_getm (waiting_for (up_to_getm requests)) ≡ false → reads_only requests ≡ true
all_read [] is = refl
all_read (q ∷ requests) is = by (is_getm q.kind) refl is (all_read requests) where
  by : (b : Bool) → is_getm q.kind ≡ b → ends_in_getm (waiting_for (cond b (q ∷ []) (q ∷ up_to_getm requests))) ≡ false
      → (ends_in_getm (waiting_for (up_to_getm requests)) ≡ false → reads_only requests ≡ true)
      → not (b || list_any (λ (r : Request). is_getm r.kind) requests) ≡ true
  by true e i later = absurd (false≢true (sym i ∙ e))
  by false e i later = later (sym (ends_after q (waiting_for (up_to_getm requests)) e) ∙ i)
