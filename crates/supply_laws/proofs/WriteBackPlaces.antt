-- Which requests write a line back: along an order that grows, in its prefixes, and who owns the line since the last one.
use Rattle.std.proofs.Common.{◌≡◌, ℕ, zero, suc, ◌+◌, ◌<◌, ◌≤◌, Bool, true, false, cond, List, [], ◌∷◌, ◌++◌, length, take, drop, refl, sym, ◌∙◌, ap, subst, arith, Some}
use Rattle.std.specs.Prelude.{◌==◌, ◌&&◌, ◌||◌, not, filter, slice_get}
use Rattle.std.specs.List.{list_any}
use Rattle.std.proofs.lemmas.Bool.{eq-eqb}
use Rattle.std.proofs.lemmas.List.{take-append-le, take-append-drop, length-take-le}
use Rattle.std.proofs.lemmas.List.Elements.{filter-append}
use Rattle.std.proofs.lemmas.Option.{slice_get_within}
use Rattle.mesh_gen.specs.declared.kind.Kind.{Kind}
use Rattle.mesh_gen.specs.declared.kind.Kind.TheVariants.{GetS, GetM, PutM}
use Rattle.mesh_gen.specs.declared.request.Request.{Request}
use Rattle.chip_model.specs.declared.owner.Owner.{Owner}
use Rattle.chip_model.specs.declared.owner.Owner.TheVariants.{Memory, Tile}
use Rattle.chip_model.specs.declared.waiting.Waiting.{Waiting}
use Rattle.chip_model.specs.Misses.{is_getm}
use Rattle.chip_model.specs.Ownership.{owner, owner_by, owner_after, written_back, is_tile}
use Rattle.chip_model.specs.Bookkeeping.{is_get, between, up_to_getm, waiting_for}
use Rattle.chip_model.specs.Suppliers.{writes_back_as, writes_back, places_written_back, last_written_back, next_from}
use Rattle.net_iface.proofs.Named.{slice_get-append_left}
use Rattle.chip_laws.proofs.OrderLists.{between_next, between_none}
use Rattle.chip_laws.proofs.OwnerFolds.{owner_next}
use Rattle.chip_laws.proofs.SupplyAccounts.{is_memory}
use Rattle.supply_laws.proofs.OwnerGets.{back_of}
use Rattle.supply_laws.proofs.LastPlaces.{LastIs, NextIs, last_is, last_agrees, next_is}

-- ---- the order grows, and its prefixes
pub writes_back_grown : (line : ℕ) (ordered more : List Request) (k : ℕ) → k < length ordered → writes_back line (ordered ++ more) k ≡ writes_back line ordered k
writes_back_grown line ordered more k below =
    ap (λ (rs : List Request). writes_back_as line (owner line rs) (slice_get (ordered ++ more) k)) (take-append-le k ordered more (omega (arith, below)))
    ∙ ap (writes_back_as line (owner line (take k ordered))) (slice_get-append_left ordered more k below)

pub writes_back_take : (line n : ℕ) (ordered : List Request) (k : ℕ) → n ≤ length ordered → k < n → writes_back line (take n ordered) k ≡ writes_back line ordered k
writes_back_take line n ordered k within below =
    let whole : take n ordered ++ drop n ordered ≡ ordered = take-append-drop n ordered in
    let inside : k < length (take n ordered) = omega (arith, length-take-le n ordered within, below) in
    sym (writes_back_grown line (take n ordered) (drop n ordered) k inside) ∙ ap (λ (rs : List Request). writes_back line rs k) whole

-- the last one of all, the last one before a place, and the next one from a place on
pub last_of_all : (line : ℕ) (ordered : List Request) → LastIs (writes_back line ordered) 0 (length ordered) (last_written_back line ordered)
last_of_all line ordered = last_is (writes_back line ordered) 0 (length ordered)

pub last_before : (line n : ℕ) (ordered : List Request) → n ≤ length ordered → LastIs (writes_back line ordered) 0 n (last_written_back line (take n ordered))
last_before line n ordered within =
    last_agrees (writes_back line (take n ordered)) (writes_back line ordered) 0 n (last_written_back line (take n ordered))
    (λ k above below. writes_back_take line n ordered k within (omega (arith, below)))
    (subst (λ (m : ℕ). LastIs (writes_back line (take n ordered)) 0 m (last_written_back line (take n ordered))) (length-take-le n ordered within)
    (last_of_all line (take n ordered)))

pub next_after : (line n : ℕ) (ordered : List Request) → NextIs (writes_back line ordered) (length ordered) n (next_from n (places_written_back line ordered))
next_after line n ordered = next_is (writes_back line ordered) (length ordered) n

-- ---- what a request that writes back is
pub writes_back_within : (line : ℕ) (ordered : List Request) (place : ℕ) → writes_back line ordered place ≡ true → place < length ordered
writes_back_within line ordered place is = let w = back_of line place ordered is in slice_get_within ordered place w.put w.at

-- ---- who owns the line since the last one: the memory until a GetM
-- the gets for a line
abbrev pub gets_for : ℕ → List Request → List Request
gets_for line requests = filter (λ (q : Request). is_get q.kind && (q.line == line)) requests

-- one of them is to write
abbrev pub any_writes : List Request → Bool
any_writes requests = list_any (λ (q : Request). is_getm q.kind) requests

pub any_writes-append : (xs ys : List Request) → any_writes (xs ++ ys) ≡ (any_writes xs || any_writes ys)
any_writes-append [] ys = refl
any_writes-append (x ∷ xs) ys = by (is_getm x.kind) (any_writes-append xs ys) where
  by : (b : Bool) → any_writes (xs ++ ys) ≡ (any_writes xs || any_writes ys) → (b || any_writes (xs ++ ys)) ≡ ((b || any_writes xs) || any_writes ys)
  by true is = refl
  by false is = is

-- the gets for a line after a place, with one request more
pub gets_more : (line place n : ℕ) (ordered : List Request) (q : Request) → place < n → slice_get ordered n ≡ Some q
    → gets_for line (between place (n + 1) ordered) ≡ gets_for line (between place n ordered) ++ gets_for line (q ∷ [])
gets_more line place n ordered q before at =
    ap (gets_for line) (between_next ordered place n q before at) ∙ filter-append (λ (r : Request). is_get r.kind && (r.line == line)) (between place n ordered) (q ∷ [])

owner_of_memory : (o : Owner) → is_memory o ≡ true → o ≡ Memory
owner_of_memory Memory is = refl
owner_of_memory (Tile t) is = cc

-- a request more: the owner stays the memory as long as no get is to write, and no owner writes the line back
one_more : (line : ℕ) (q : Request) (o : Owner) (xs : List Request) (kind : Kind) → q.kind ≡ kind → writes_back_as line o (Some q) ≡ false → is_memory o ≡ not (any_writes xs)
    → is_memory (owner_after line o q) ≡ not (any_writes (xs ++ gets_for line (q ∷ [])))
unfolding owner_after
one_more line q o xs kind is other holds =
    by kind is (q.line == line) refl ∙ sym (ap not (any_writes-append xs (gets_for line (q ∷ []))))
  where
    or_none : (a b : Bool) → b ≡ false → a ≡ (a || b)
    or_none true b none = refl
    or_none false b none = sym none

    or_one : (a b : Bool) → b ≡ true → (a || b) ≡ true
    or_one true b one = refl
    or_one false b one = one

    same : (b : Bool) → (is_get q.kind && (q.line == line)) ≡ false → any_writes xs ≡ (any_writes xs || any_writes (gets_for line (q ∷ [])))
    same b none = or_none (any_writes xs) (any_writes (gets_for line (q ∷ []))) (ap (λ (c : Bool). any_writes (cond {A = List Request} c (q ∷ []) [])) none)

    stays : (t : ℕ) (p : Owner) → is_tile t p ≡ false → written_back t p ≡ p
    stays t p none = ap (λ (b : Bool). cond b Memory p) none

    by : (k : Kind) → q.kind ≡ k → (here : Bool) → (q.line == line) ≡ here
        → is_memory (cond here (owner_by q.source q.kind o) o) ≡ not (any_writes xs || any_writes (gets_for line (q ∷ [])))
    by k kind_is false away =
        holds ∙ ap not (same false (ap (λ (b : Bool). is_get q.kind && b) away ∙ none (is_get q.kind)))
      where
        none : (b : Bool) → (b && false) ≡ false
        none true = refl
        none false = refl
    by GetS kind_is true here =
        ap (λ (c : Kind). is_memory (owner_by q.source c o)) kind_is
        ∙ holds
        ∙ ap not (or_none (any_writes xs) (any_writes (gets_for line (q ∷ [])))
        (ap (λ (b : Bool). any_writes (cond {A = List Request} (is_get q.kind && b) (q ∷ []) [])) here
        ∙ ap (λ (c : Kind). any_writes (cond {A = List Request} (is_get c && true) (q ∷ []) [])) kind_is
        ∙ ap (λ (c : Kind). is_getm c || false) kind_is))
    by GetM kind_is true here =
        ap (λ (c : Kind). is_memory (owner_by q.source c o)) kind_is
        ∙ sym (ap not (or_one (any_writes xs) (any_writes (gets_for line (q ∷ [])))
        (ap (λ (b : Bool). any_writes (cond {A = List Request} (is_get q.kind && b) (q ∷ []) [])) here
        ∙ ap (λ (c : Kind). any_writes (cond {A = List Request} (is_get c && true) (q ∷ []) [])) kind_is
        ∙ ap (λ (c : Kind). is_getm c || false) kind_is)))
    by PutM kind_is true here =
        let apart : is_tile q.source o ≡ false =
        sym (ap (λ (b : Bool). not (is_get q.kind) && b && is_tile q.source o) here ∙ ap (λ (c : Kind). not (is_get c) && true && is_tile q.source o) kind_is) ∙ other in
        ap (λ (c : Kind). is_memory (owner_by q.source c o)) kind_is
        ∙ ap is_memory (stays q.source o apart)
        ∙ holds
        ∙ ap not (or_none (any_writes xs) (any_writes (gets_for line (q ∷ [])))
        (ap (λ (b : Bool). any_writes (cond {A = List Request} (is_get q.kind && b) (q ∷ []) [])) here
        ∙ ap (λ (c : Kind). any_writes (cond {A = List Request} (is_get c && true) (q ∷ []) [])) kind_is))

some_at : (ordered : List Request) (n : ℕ) → n < length ordered → (q : Request) × (slice_get ordered n ≡ Some q)
some_at [] n below = absurd (omega (arith, below))
some_at (x ∷ xs) zero below = (x, refl)
some_at (x ∷ xs) (suc n) below = some_at xs n (omega (arith, below))

-- just after a request that writes back, the memory owns the line
owner_after_back : (line : ℕ) (ordered : List Request) (place : ℕ) → writes_back line ordered place ≡ true → owner line (take (place + 1) ordered) ≡ Memory
unfolding owner_after
owner_after_back line ordered place is =
    let w = back_of line place ordered is in
    owner_next line place ordered w.put w.at
    ∙ ap (λ (b : Bool). cond b (owner_by w.put.source w.put.kind (owner line (take place ordered))) (owner line (take place ordered))) (eq-eqb w.put.line line w.same)
    ∙ ap (λ (k : Kind). owner_by w.put.source k (owner line (take place ordered))) w.kind
    ∙ ap (written_back w.put.source) w.owned
    ∙ ap (λ (b : Bool). cond b Memory (Tile w.put.source)) (eq-eqb w.put.source w.put.source refl)

-- since a request that wrote back, the memory owns the line where no get since then is to write
pub owner_since : (line place gap : ℕ) (ordered : List Request) → writes_back line ordered place ≡ true → place + 1 + gap ≤ length ordered
    → ((k : ℕ) → place < k → k < place + 1 + gap → writes_back line ordered k ≡ false)
    → is_memory (owner line (take (place + 1 + gap) ordered)) ≡ not (any_writes (gets_for line (between place (place + 1 + gap) ordered)))
owner_since line place zero ordered is within none =
    let same : place + 1 ≡ place + 1 + 0 = omega arith in
    subst (λ (n : ℕ). is_memory (owner line (take n ordered)) ≡ not (any_writes (gets_for line (between place n ordered)))) same
    (ap is_memory (owner_after_back line ordered place is)
    ∙ sym (ap (λ (rs : List Request). not (any_writes (gets_for line rs))) (between_none ordered place (writes_back_within line ordered place is))))
owner_since line place (suc gap) ordered is within none =
    let n = place + 1 + gap in
    let same : n + 1 ≡ place + 1 + suc gap = omega arith in
    let next = some_at ordered n (omega (arith, within)) in
    let q = next.0 in
    let before = owner_since line place gap ordered is (omega (arith, within)) (λ k above below. none k above (omega (arith, below))) in
    let not_here : writes_back_as line (owner line (take n ordered)) (Some q) ≡ false =
    ap (writes_back_as line (owner line (take n ordered))) (sym next.1) ∙ none n (omega arith) (omega arith) in
    subst (λ (m : ℕ). is_memory (owner line (take m ordered)) ≡ not (any_writes (gets_for line (between place m ordered)))) same
    (ap is_memory (owner_next line n ordered q next.1)
    ∙ one_more line q (owner line (take n ordered)) (gets_for line (between place n ordered)) q.kind refl not_here before
    ∙ sym (ap (λ (rs : List Request). not (any_writes rs)) (gets_more line place n ordered q (omega arith) next.1)))

-- ---- those that wait: up to the first that is to write
pub up_to_none : (xs : List Request) → any_writes xs ≡ false → up_to_getm xs ≡ xs
up_to_none [] none = refl
up_to_none (x ∷ xs) none = by (is_getm x.kind) none (up_to_none xs) where
  by : (b : Bool) → (b || any_writes xs) ≡ false → (any_writes xs ≡ false → up_to_getm xs ≡ xs) → cond {A = List Request} b (x ∷ []) (x ∷ up_to_getm xs) ≡ x ∷ xs
  by true wrong rest = cc
  by false none rest = ap (λ (ys : List Request). x ∷ ys) (rest none)

pub up_to_one : (xs ys : List Request) → any_writes xs ≡ true → up_to_getm (xs ++ ys) ≡ up_to_getm xs
up_to_one [] ys one = cc
up_to_one (x ∷ xs) ys one = by (is_getm x.kind) one (up_to_one xs ys) where
  by : (b : Bool) → (b || any_writes xs) ≡ true → (any_writes xs ≡ true → up_to_getm (xs ++ ys) ≡ up_to_getm xs)
      → cond {A = List Request} b (x ∷ []) (x ∷ up_to_getm (xs ++ ys)) ≡ cond b (x ∷ []) (x ∷ up_to_getm xs)
  by true some rest = refl
  by false some rest = ap (λ (zs : List Request). x ∷ zs) (rest some)

-- one of those that wait is to write where one of the requests is
pub any_waits : (xs : List Request) → list_any (λ (w : Waiting). is_getm w.kind) (waiting_for (up_to_getm xs)) ≡ any_writes xs
any_waits [] = refl
any_waits (x ∷ xs) = by (is_getm x.kind) refl (any_waits xs) where
  by : (b : Bool) → is_getm x.kind ≡ b → list_any (λ (w : Waiting). is_getm w.kind) (waiting_for (up_to_getm xs)) ≡ any_writes xs
      → list_any (λ (w : Waiting). is_getm w.kind) (waiting_for (cond {A = List Request} b (x ∷ []) (x ∷ up_to_getm xs))) ≡ (b || any_writes xs)
  by true is rest = ap (λ (b : Bool). b || false) is
  by false is rest = ap (λ (b : Bool). b || list_any (λ (w : Waiting). is_getm w.kind) (waiting_for (up_to_getm xs))) is ∙ rest
