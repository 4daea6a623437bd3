-- What a call of the controller does to the records, and to the owners that they name.
use Rattle.std.proofs.Common.{◌≡◌, ◌≢◌, ◌⊎◌, ℕ, ◌<◌, ◌≤◌, Bool, true, false, refl, sym, ◌∙◌, ap, subst, arith, inl, inr, Option, Some, None, List, ◌++◌, length, set, get_or, get_or-set_same, get_or-set_other, length-append, ◌+◌}
use Rattle.std.specs.Prelude.{◌==◌, option_map, if◌then◌else◌}
use Rattle.std.proofs.lemmas.Bool.{cases_eq, eq-eqb, ne_eqb}
use Rattle.std.proofs.lemmas.List.{get_or_read_under, get_or_past, set-get_or, append-nil, length-map}
use Rattle.mesh_gen.specs.declared.kind.Kind.{Kind}
use Rattle.mesh_gen.specs.declared.kind.Kind.TheVariants.{GetS, GetM, PutM}
use Rattle.mesh_gen.specs.declared.msg.Msg.{Msg}
use Rattle.mesh_gen.specs.declared.request.Request.{Request}
use Rattle.chip_model.specs.declared.owner.Owner.{Owner}
use Rattle.chip_model.specs.declared.owner.Owner.TheVariants.{Memory, Tile}
use Rattle.chip_model.specs.Snoop.{data_to, data_to_all}
use Rattle.chip_model.specs.declared.waiting.Waiting.{Waiting}
use Rattle.chip_model.specs.Ownership.{owner_by, owner_after}
use Rattle.chip_model.specs.Records.{LineRecord, Records, Answers, from_memory, awaiting_write_back, owned_by_tile, answered_by, answered_at, answered, returned, returned_at, back_arrived}
use Rattle.mem_ctrl.specs.Owners.{record_of, owner_in, next_owner}

-- ---- the record that a call reached, in the words of what the call knows
pub here_is : (old items : Records) (line i : ℕ) (o : Option LineRecord) → items ≡ old → i ≡ line → i < length items
    → o ≡ get_or items i o → record_of old line ≡ o
here_is old items line i o same number there read =
    ap (λ (rs : Records). get_or rs line None) (sym same)
    ∙ ap (λ (n : ℕ). get_or items n None) (sym number)
    ∙ sym (get_or_read_under items i (length items) o None read there refl)

pub past_is : (old : Records) (line : ℕ) → length old ≤ line → record_of old line ≡ None
past_is old line past = get_or_past old line None past

-- a place that keeps its record
pub same_kept : (old items : Records) (i : ℕ) (o : Option LineRecord) → items ≡ old → i < length items → o ≡ get_or items i o
    → set items i o ≡ old
same_kept old items i o same there read = ap (λ (x : Option LineRecord). set items i x) read ∙ set-get_or items i o ∙ same

-- ---- a request
pub answered-at : (q : Request) (old : Records) (o : Option LineRecord) → record_of old q.line ≡ o → answered q old ≡ answered_at q old o
unfolding answered
answered-at q old o here = ap (answered_at q old) here

pub room_for : (q : Request) (old : Records) (r : LineRecord) (out : List Msg) (room : ℕ) → record_of old q.line ≡ Some r
    → length (out ++ (answered q old).sends) ≤ room → length (out ++ (answered_by q r r.owner).sends) ≤ room
room_for q old r out room here fits = subst (λ (a : Answers). length (out ++ a.sends) ≤ room) (answered-at q old (Some r) here) fits

pub answers : (q : Request) (old items : Records) (i : ℕ) (r new : LineRecord) → items ≡ old → i ≡ q.line → record_of old q.line ≡ Some r
    → new ≡ (answered_by q r r.owner).left → set items i (Some new) ≡ (answered q old).records
answers q old items i r new same number here left =
    ap (λ (rs : Records). set rs i (Some new)) same
    ∙ ap (λ (n : ℕ). set old n (Some new)) number
    ∙ ap (λ (x : LineRecord). set old q.line (Some x)) left
    ∙ ap (λ (a : Answers). a.records) (sym (answered-at q old (Some r) here))

pub sends : (q : Request) (old : Records) (r : LineRecord) (out now : List Msg) → record_of old q.line ≡ Some r
    → now ≡ out ++ (answered_by q r r.owner).sends → now ≡ out ++ (answered q old).sends
sends q old r out now here is = is ∙ ap (λ (a : Answers). out ++ a.sends) (sym (answered-at q old (Some r) here))

pub unanswered : (q : Request) (old : Records) → record_of old q.line ≡ None → old ≡ (answered q old).records
unanswered q old here = ap (λ (a : Answers). a.records) (sym (answered-at q old None here))

pub unsent : (q : Request) (old : Records) (out : List Msg) → record_of old q.line ≡ None → out ≡ out ++ (answered q old).sends
unsent q old out here = sym (append-nil out) ∙ ap (λ (a : Answers). out ++ a.sends) (sym (answered-at q old None here))

-- ---- the owner after a request
given_by : (r : LineRecord) (t : ℕ) (b : Bool) → r.owner ≡ Tile t
    → (if b then record r { owner = Memory } else r).owner ≡ (if b then Memory else Tile t)
given_by r t true is = refl
given_by r t false is = is

from_memory-owner : (q : Request) (r : LineRecord) (k : Kind) → r.owner ≡ Memory
    → (from_memory q r k).left.owner ≡ owner_by q.source k Memory
from_memory-owner q r GetS is = is
from_memory-owner q r GetM is = refl
from_memory-owner q r PutM is = is

awaiting_write_back-owner : (q : Request) (r : LineRecord) (k : Kind) → r.owner ≡ Memory
    → (awaiting_write_back q r k).left.owner ≡ owner_by q.source k Memory
awaiting_write_back-owner q r GetS is = is
awaiting_write_back-owner q r GetM is = refl
awaiting_write_back-owner q r PutM is = is

by_tile-owner : (q : Request) (r : LineRecord) (t : ℕ) (k : Kind) → r.owner ≡ Tile t
    → (owned_by_tile q r t k).left.owner ≡ owner_by q.source k (Tile t)
by_tile-owner q r t GetS is = is
by_tile-owner q r t GetM is = refl
by_tile-owner q r t PutM is = given_by r t (t == q.source) is

memory-owner : (q : Request) (r : LineRecord) (b : Bool) → r.owner ≡ Memory
    → (if b then from_memory q r q.kind else awaiting_write_back q r q.kind).left.owner ≡ owner_by q.source q.kind Memory
memory-owner q r true is = from_memory-owner q r q.kind is
memory-owner q r false is = awaiting_write_back-owner q r q.kind is

answered_by-owner : (q : Request) (r : LineRecord) (o : Owner) → r.owner ≡ o → (answered_by q r o).left.owner ≡ owner_by q.source q.kind o
answered_by-owner q r Memory is = memory-owner q r r.fresh is
answered_by-owner q r (Tile t) is = by_tile-owner q r t q.kind is

after_same : (line : ℕ) (o : Owner) (q : Request) → q.line ≡ line → owner_after line o q ≡ owner_by q.source q.kind o
unfolding owner_after
after_same line o q same = ap (λ (b : Bool). if b then owner_by q.source q.kind o else o) (eq-eqb q.line line same)

after_apart : (line : ℕ) (o : Owner) (q : Request) → q.line ≢ line → owner_after line o q ≡ o
unfolding owner_after
after_apart line o q apart = ap (λ (b : Bool). if b then owner_by q.source q.kind o else o) (ne_eqb q.line line apart)

-- a request for another line
keeps_by : (line : ℕ) (o : Option Owner) (q : Request) → q.line ≢ line → o ≡ next_owner line q o
keeps_by line None q apart = refl
keeps_by line (Some o) q apart = ap (λ (x : Owner). Some x) (sym (after_apart line o q apart))

owners_at : (q : Request) (old : Records) (r : LineRecord) (line : ℕ) → q.line < length old → record_of old q.line ≡ Some r
    → (q.line ≡ line) ⊎ (q.line ≢ line)
    → owner_in (set old q.line (Some (answered_by q r r.owner).left)) line ≡ next_owner line q (owner_in old line)
owners_at q old r line there here (inl same) =
    ap (λ (n : ℕ). owner_in (set old q.line (Some (answered_by q r r.owner).left)) n) (sym same)
    ∙ ap (option_map (λ (x : LineRecord). x.owner)) (get_or-set_same old q.line (Some (answered_by q r r.owner).left) None there)
    ∙ ap (λ (x : Owner). Some x) (answered_by-owner q r r.owner refl ∙ sym (after_same line r.owner q same))
    ∙ ap (λ (o : Option LineRecord). next_owner line q (option_map (λ (x : LineRecord). x.owner) o)) (sym here)
    ∙ ap (λ (n : ℕ). next_owner line q (owner_in old n)) same
owners_at q old r line there here (inr apart) =
    ap (option_map (λ (x : LineRecord). x.owner)) (get_or-set_other old q.line line (Some (answered_by q r r.owner).left) None (λ same. apart (sym same)))
    ∙ keeps_by line (owner_in old line) q apart

owners_none : (q : Request) (old : Records) (line : ℕ) → record_of old q.line ≡ None → (q.line ≡ line) ⊎ (q.line ≢ line)
    → owner_in old line ≡ next_owner line q (owner_in old line)
owners_none q old line here (inl same) =
    let none : record_of old line ≡ None = ap (λ (n : ℕ). record_of old n) (sym same) ∙ here in
    ap (option_map (λ (x : LineRecord). x.owner)) none
    ∙ ap (λ (o : Option LineRecord). next_owner line q (option_map (λ (x : LineRecord). x.owner) o)) (sym none)
owners_none q old line here (inr apart) = keeps_by line (owner_in old line) q apart

pub steps : (q : Request) (old now : Records) (r : LineRecord) → q.line < length old → record_of old q.line ≡ Some r
    → now ≡ (answered q old).records
    → (line : ℕ) → owner_in now line ≡ next_owner line q (owner_in old line)
steps q old now r there here is line =
    ap (λ (rs : Records). owner_in rs line) (is ∙ ap (λ (a : Answers). a.records) (answered-at q old (Some r) here))
    ∙ owners_at q old r line there here (cases_eq q.line line)

pub stays : (q : Request) (old now : Records) → record_of old q.line ≡ None → now ≡ old
    → (line : ℕ) → owner_in now line ≡ next_owner line q (owner_in old line)
stays q old now here is line = ap (λ (rs : Records). owner_in rs line) is ∙ owners_none q old line here (cases_eq q.line line)

-- ---- words that come back
pub back-at : (line : ℕ) (words : List ℕ) (old : Records) (o : Option LineRecord) → record_of old line ≡ o
    → back_arrived line words old ≡ returned_at line words old o
unfolding back_arrived
back-at line words old o here = ap (returned_at line words old) here

pub room_back : (line : ℕ) (words : List ℕ) (old : Records) (r : LineRecord) (out : List Msg) (room : ℕ) → record_of old line ≡ Some r
    → length (out ++ (back_arrived line words old).sends) ≤ room → length out + length r.waiters ≤ room
room_back line words old r out room here fits =
    let all : length (out ++ data_to_all line words r.waiters) ≤ room =
    subst (λ (a : Answers). length (out ++ a.sends) ≤ room) (back-at line words old (Some r) here) fits in
    omega (
      arith,
      all,
      length-append out (data_to_all line words r.waiters),
      length-map r.waiters (λ (w : Waiting). data_to w.tile line words),
    )

pub returns_to : (line : ℕ) (words : List ℕ) (old items : Records) (i : ℕ) (r new : LineRecord) → items ≡ old → i ≡ line
    → record_of old line ≡ Some r
    → new ≡ returned words r → set items i (Some new) ≡ (back_arrived line words old).records
returns_to line words old items i r new same number here left =
    ap (λ (rs : Records). set rs i (Some new)) same
    ∙ ap (λ (n : ℕ). set old n (Some new)) number
    ∙ ap (λ (x : LineRecord). set old line (Some x)) left
    ∙ ap (λ (a : Answers). a.records) (sym (back-at line words old (Some r) here))

pub sends_back : (line : ℕ) (words : List ℕ) (old : Records) (r : LineRecord) (out now : List Msg) → record_of old line ≡ Some r
    → now ≡ out ++ data_to_all line words r.waiters → now ≡ out ++ (back_arrived line words old).sends
sends_back line words old r out now here is = is ∙ ap (λ (a : Answers). out ++ a.sends) (sym (back-at line words old (Some r) here))

pub unreturned : (line : ℕ) (words : List ℕ) (old : Records) → record_of old line ≡ None → old ≡ (back_arrived line words old).records
unreturned line words old here = ap (λ (a : Answers). a.records) (sym (back-at line words old None here))

pub unsent_back : (line : ℕ) (words : List ℕ) (old : Records) (out : List Msg) → record_of old line ≡ None
    → out ≡ out ++ (back_arrived line words old).sends
unsent_back line words old out here = sym (append-nil out) ∙ ap (λ (a : Answers). out ++ a.sends) (sym (back-at line words old None here))
