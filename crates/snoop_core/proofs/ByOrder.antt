-- The law of ownership of a node against the global order: it holds at the start, and every step keeps it.
use Rattle.std.proofs.Common.{◌≡◌, ℕ, zero, suc, ◌+◌, ◌<◌, ◌≤◌, Bool, true, false, refl, sym, ◌∙◌, ap, subst, arith, Option, Some, None, List, [], ◌∷◌, ◌++◌, map, take, length, set}
use Rattle.std.specs.Prelude.{◌==◌, option_map, slice_get, slice_index_or, if◌then◌else◌}
use Rattle.std.specs.List.{fold}
use Rattle.std.proofs.lemmas.List.{take_more, take-append-le}
use Rattle.std.proofs.lemmas.List.Sums.{fold-append}
use Rattle.std.proofs.lemmas.Option.{same_Some, get_or_from_slice_get, slice_get_within}
use Rattle.mesh_gen.specs.declared.request.Request.{Request}
use Rattle.mesh_gen.specs.declared.msg.Msg.{Msg}
use Rattle.mesh_gen.specs.declared.msg_kind.MsgKind.{MsgKind}
use Rattle.mesh_gen.specs.declared.msg_kind.MsgKind.TheVariants.{Data, Back}
use Rattle.chip_model.specs.declared.pending.Pending.{Pending}
use Rattle.chip_model.specs.declared.owner.Owner.{Owner}
use Rattle.chip_model.specs.declared.owner.Owner.TheVariants.{Memory}
use Rattle.chip_model.specs.Chip.{Chip, home}
use Rattle.chip_model.specs.Records.{LineRecord, Records, opening_record, answered, returned_at, back_arrived}
use Rattle.chip_model.specs.Node.{Node, Performed, words_at, record_at, opening_node, node_after_request, arrived_as, node_after_message, after_request_sent, after_message_sent, node_after_access}
use Rattle.chip_model.specs.Ownership.{is_tile, owner, owner_after, owns, OwnsByOrder}
use Rattle.chip_model.specs.NodeShape.{SideFits}
use Rattle.mem_ctrl.specs.Owners.{record_of, owner_in, next_owner}
use Rattle.mem_ctrl.proofs.Steps.{steps, stays, unanswered}
use Rattle.snoop_core.specs.Requests.{OwnRequestFits}
use Rattle.snoop_core.proofs.Accesses.{accessed_frame}
use Rattle.snoop_core.specs.ChipSides.{opening_side}
use Rattle.snoop_core.proofs.Opened.{lookup-empty}
use Rattle.snoop_core.proofs.OwnershipSteps.{owns-after_snoop, owns-after_data, owns-node_after_access, owns-marked_sent}

-- ---- one more request of the order
owner-more : (line : ℕ) (ordered : List Request) (delivered : ℕ) (q : Request) → slice_get ordered delivered ≡ Some q
    → owner line (take (delivered + 1) ordered) ≡ owner_after line (owner line (take delivered ordered)) q
unfolding owner
owner-more line ordered delivered q next =
    let last : take (delivered + 1) ordered ≡ take delivered ordered ++ q ∷ [] =
    take_more ordered delivered q (slice_get_within ordered delivered q next)
    ∙ ap (λ (x : Request). take delivered ordered ++ x ∷ []) (get_or_from_slice_get ordered delivered q q next)
    in
    ap (λ (requests : List Request). fold (owner_after line) Memory requests) last
    ∙ fold-append (owner_after line) Memory (take delivered ordered) (q ∷ [])

-- ---- the owners that the records name
record_within : (records : Records) (line : ℕ) (r : LineRecord) → record_of records line ≡ Some r → line < length records
record_within [] line r is = cc
record_within (first ∷ records) zero r is = omega arith
record_within (first ∷ records) (suc line) r is = let below : line < length records = record_within records line r is in omega arith

owners_by : (q : Request) (records : Records) (o : Option LineRecord) (line : ℕ) → record_of records q.line ≡ o
    → owner_in (answered q records).records line ≡ next_owner line q (owner_in records line)
owners_by q records None line here = stays q records (answered q records).records here (sym (unanswered q records here)) line
owners_by q records (Some r) line here = steps q records (answered q records).records r (record_within records q.line r here) here refl line

pub owners-answered : (q : Request) (records : Records) (line : ℕ)
    → owner_in (answered q records).records line ≡ next_owner line q (owner_in records line)
owners-answered q records line = owners_by q records (record_of records q.line) line refl

named_by : (line : ℕ) (q : Request) (before after : Option LineRecord) (old : Owner) (r : LineRecord)
    → ((b : LineRecord) → before ≡ Some b → b.owner ≡ old)
    → option_map (λ (x : LineRecord). x.owner) after ≡ next_owner line q (option_map (λ (x : LineRecord). x.owner) before) → after ≡ Some r
    → r.owner ≡ owner_after line old q
named_by line q None after old r named steps is = absurd (nowhere (sym (ap (option_map (λ (x : LineRecord). x.owner)) is) ∙ steps)) where
  nowhere : Some r.owner ≡ None → ⊥
  nowhere none = cc
named_by line q (Some b) after old r named steps is =
    same_Some r.owner (owner_after line b.owner q) (sym (ap (option_map (λ (x : LineRecord). x.owner)) is) ∙ steps)
    ∙ ap (λ (o : Owner). owner_after line o q) (named b refl)

-- a request that is the next one of the order
pub OwnsByOrder-node_after_request : (ordered : List Request) (q : Request) (node : Node) → slice_get ordered node.delivered ≡ Some q
    → OwnRequestFits node.tile node.side q → SideFits node.chip node.side
    → OwnsByOrder ordered node → OwnsByOrder ordered (node_after_request q node).0
unfolding node_after_request
OwnsByOrder-node_after_request ordered q node next own fits law = record {
  lines = λ line. owns-after_snoop node.chip node.tile node.side node.delivered q fits own line (owner line (take node.delivered ordered))
      (law.lines line)
      ∙ ap (is_tile node.tile) (sym (owner-more line ordered node.delivered q next));
  records = λ line r is. named_by line q (record_of node.records line) (record_of (answered q node.records).records line)
      (owner line (take node.delivered ordered)) r
      (law.records line) (owners-answered q node.records line) is ∙ sym (owner-more line ordered node.delivered q next);
}

-- ---- words that come
-- a record that is replaced by one with its owner
record Was (records : Records) (line : ℕ) (r : LineRecord) : Type 0 where
  pub old : LineRecord
  pub there : slice_index_or records line None ≡ Some old
  pub same : r.owner ≡ old.owner

was-set : (records : Records) (i line : ℕ) (before new r : LineRecord) → slice_index_or records i None ≡ Some before
    → new.owner ≡ before.owner → slice_index_or (set records i (Some new)) line None ≡ Some r → Was records line r
was-set [] i line before new r there same is = cc
was-set (first ∷ records) zero zero before new r there same is =
    record { old = before; there = there; same = ap (λ (x : LineRecord). x.owner) (sym (same_Some new r is)) ∙ same }
was-set (first ∷ records) zero (suc line) before new r there same is = record { old = r; there = is; same = refl }
was-set (first ∷ records) (suc i) zero before new r there same is = record { old = r; there = is; same = refl }
was-set (first ∷ records) (suc i) (suc line) before new r there same is =
    let was = was-set records i line before new r there same is in
    record { old = was.old; there = was.there; same = was.same }

was-returned : (at : ℕ) (words : List ℕ) (records : Records) (o : Option LineRecord) (line : ℕ) (r : LineRecord)
    → slice_index_or records at None ≡ o
    → slice_index_or (returned_at at words records o).records line None ≡ Some r → Was records line r
was-returned at words records None line r here is = record { old = r; there = is; same = refl }
was-returned at words records (Some before) line r here is = was-set records at line before _ r here refl is

was-back_arrived : (at : ℕ) (words : List ℕ) (records : Records) (line : ℕ) (r : LineRecord)
    → slice_index_or (back_arrived at words records).records line None ≡ Some r → Was records line r
unfolding back_arrived
was-back_arrived at words records line r is = was-returned at words records (slice_index_or records at None) line r refl is

by_order_arrived : (ordered : List Request) (msg : Msg) (node : Node) (kind : MsgKind) → SideFits node.chip node.side
    → OwnsByOrder ordered node → OwnsByOrder ordered (arrived_as msg node kind).0
by_order_arrived ordered msg node Data fits law = record {
  lines = λ line. owns-after_data node.chip node.side msg.words line fits ∙ law.lines line;
  records = law.records;
}
by_order_arrived ordered msg node Back fits law = record {
  lines = law.lines;
  records = λ line r is. let was = was-back_arrived msg.line msg.words node.records line r is in was.same
      ∙ law.records line was.old was.there;
}

pub OwnsByOrder-node_after_message : (ordered : List Request) (msg : Msg) (node : Node) → SideFits node.chip node.side
    → OwnsByOrder ordered node → OwnsByOrder ordered (node_after_message msg node).0
unfolding node_after_message
OwnsByOrder-node_after_message ordered msg node fits law = by_order_arrived ordered msg node msg.kind fits law

-- ---- an access, a request and a message that are sent
pub OwnsByOrder-node_after_access : (ordered : List Request) (access : Pending) (node : Node) (performed : Performed)
    → node_after_access access node ≡ Some performed
    → SideFits node.chip node.side → OwnsByOrder ordered node → OwnsByOrder ordered performed.0
OwnsByOrder-node_after_access ordered access node performed done fits law =
    let same = accessed_frame access node performed done fits.cache in
    subst (λ (n : Node). OwnsByOrder ordered n) (sym same) (record {
      lines = λ line. subst (λ (n : Node). owns n.chip n.side line ≡ owns node.chip node.side line) same
          (owns-node_after_access access node performed done fits line) ∙ law.lines line;
      records = law.records;
    })

pub OwnsByOrder-after_request_sent : (ordered : List Request) (node : Node) → OwnsByOrder ordered node → OwnsByOrder ordered (after_request_sent node)
unfolding after_request_sent
OwnsByOrder-after_request_sent ordered node law =
    record { lines = λ line. owns-marked_sent node.chip node.side line ∙ law.lines line; records = law.records }

pub OwnsByOrder-after_message_sent : (ordered : List Request) (node : Node) → OwnsByOrder ordered node → OwnsByOrder ordered (after_message_sent node)
unfolding after_message_sent
OwnsByOrder-after_message_sent ordered node law = record { lines = law.lines; records = law.records }

-- ---- the order grows, and the start
pub OwnsByOrder-append : (ordered more : List Request) (node : Node) → node.delivered ≤ length ordered → OwnsByOrder ordered node
    → OwnsByOrder (ordered ++ more) node
OwnsByOrder-append ordered more node inside law =
    let same : take node.delivered (ordered ++ more) ≡ take node.delivered ordered = take-append-le node.delivered ordered more inside in
    record {
      lines = λ line. law.lines line ∙ ap (λ (requests : List Request). is_tile node.tile (owner line requests)) (sym same);
      records = λ line r is. law.records line r is ∙ ap (λ (requests : List Request). owner line requests) (sym same);
    }

owns-opening_side : (chip : Chip) (line : ℕ) → owns chip (opening_side chip).side line ≡ false
unfolding owns
owns-opening_side chip line = let none = lookup-empty chip line in grind (arith, none)

owner-none : (line : ℕ) → owner line [] ≡ Memory
unfolding owner
owner-none line = refl

opened_owner : (b : Bool) (words : List ℕ) (r : LineRecord) → (if b then Some (opening_record words) else None) ≡ Some r → r.owner ≡ Memory
opened_owner true words r is = ap (λ (x : LineRecord). x.owner) (sym (same_Some (opening_record words) r is))
opened_owner false words r is = cc

opened_owners : (chip : Chip) (tile : ℕ) (memory : List ℕ) (lines : List ℕ) (line : ℕ) (r : LineRecord)
    → slice_index_or (map (record_at chip tile memory) lines) line None ≡ Some r → r.owner ≡ Memory
opened_owners chip tile memory [] line r is = cc
opened_owners chip tile memory (first ∷ lines) zero r is = opened_owner (home chip first == tile) (words_at memory first) r is
opened_owners chip tile memory (first ∷ lines) (suc line) r is = opened_owners chip tile memory lines line r is

pub OwnsByOrder-opening_node : (ordered : List Request) (chip : Chip) (tile : ℕ) (memory : List ℕ)
    → OwnsByOrder ordered (opening_node chip tile memory)
OwnsByOrder-opening_node ordered chip tile memory = record {
  lines = λ line. owns-opening_side chip line ∙ ap (is_tile tile) (sym (owner-none line));
  records = λ line r is. opened_owners chip tile memory _ line r is ∙ sym (owner-none line);
}
