-- Every line that a node has to do with stays a line of memory, and its records stay those of the lines whose home it is.
use Rattle.std.proofs.Common.{◌≡◌, ℕ, zero, suc, ◌<◌, ◌*◌, Bool, true, false, refl, sym, ◌∙◌, ap, subst, arith, Option, Some, None, List, [], ◌∷◌, set}
use Rattle.std.specs.Prelude.{◌==◌, is_some, slice_index_or, if◌then◌else◌}
use Rattle.std.proofs.lemmas.Bool.{cond_both, eqb-true}
use Rattle.std.proofs.lemmas.Bool.Decides.{nat_tests}
use Rattle.mesh_gen.specs.declared.kind.Kind.{Kind}
use Rattle.mesh_gen.specs.declared.kind.Kind.TheVariants.{GetS, GetM, PutM}
use Rattle.mesh_gen.specs.declared.request.Request.{Request}
use Rattle.mesh_gen.specs.declared.msg.Msg.{Msg}
use Rattle.mesh_gen.specs.declared.msg_kind.MsgKind.{MsgKind}
use Rattle.mesh_gen.specs.declared.msg_kind.MsgKind.TheVariants.{Data, Back}
use Rattle.chip_model.specs.declared.pending.Pending.{Pending}
use Rattle.chip_model.specs.declared.line_state.State.TheVariants.{O, S}
use Rattle.chip_model.specs.Chip.{Chip, line_of}
use Rattle.chip_model.specs.Cache.{Held, Cache, lookup, fits, installed, without_line}
use Rattle.chip_model.specs.Misses.{Demand, WriteBack, new_back, sent_demand, marked_sent}
use Rattle.chip_model.specs.Snoop.{CacheSide, with_demand, with_back, with_cache, line_gone, made_owned, made_stale, ordered_with, own_get, own_put, own_request, snooped_with, after_snoop, holding, completed, data_at, data_for, after_data}
use Rattle.chip_model.specs.Records.{LineRecord, Records, answered_at, answered, returned_at, back_arrived}
use Rattle.chip_model.specs.Node.{Node, Performed, with_side, node_after_request, arrived_as, node_after_message, after_request_sent, after_message_sent, node_after_access}
use Rattle.chip_model.specs.NodeShape.{SideFits, LinesFit}
use Rattle.snoop_core.specs.Lines.{LinesBelow}
use Rattle.snoop_core.proofs.CacheMaps.{DropsShared, lookup-line, lookup-without_line, lookup-installed, fits_held}
use Rattle.snoop_core.proofs.Sides.{stale_some}
use Rattle.snoop_core.proofs.SnoopSteps.{snoop_forms}
use Rattle.snoop_core.proofs.Completions.{completed_forms}
use Rattle.snoop_core.proofs.Accesses.{started_by, access_forms, accessed_frame, sent_was, with_misses}
use Rattle.snoop_core.proofs.Sending.{sent_forms}

-- ---- one change
pub LinesBelow-without_line : (chip : Chip) (side : CacheSide) (line : ℕ) → LinesBelow chip side
    → LinesBelow chip (line_gone chip line side)
LinesBelow-without_line chip side line is = record {
  cached = λ m there. is.cached m (grind (arith, nat_tests, lookup-without_line chip side.cache line m, there));
  demand = is.demand;
  back = is.back;
}

inside_by : (m line lines : ℕ) (b : Bool) (copy : Option Held) (new : Held) → (m == line) ≡ b → line < lines
    → (is_some copy ≡ true → m < lines) → is_some (if b then Some new else copy) ≡ true → m < lines
inside_by m line lines true copy new is inside before there = subst (λ (l : ℕ). l < lines) (sym (eqb-true m line is)) inside
inside_by m line lines false copy new is inside before there = before there

pub LinesBelow-installed : (chip : Chip) (side : CacheSide) (new : Held) → fits chip side.cache new.line ≡ true → new.line < chip.lines
    → LinesBelow chip side → LinesBelow chip (with_cache (installed chip new side.cache) side)
LinesBelow-installed chip side new fit inside is = record {
  cached = λ m there. inside_by m new.line chip.lines (m == new.line) (lookup chip side.cache m) new refl inside (is.cached m)
      (ap is_some (sym (lookup-installed chip side.cache new m fit)) ∙ there);
  demand = is.demand;
  back = is.back;
}

pub LinesBelow-demand : (chip : Chip) (side : CacheSide) (new : Demand) → new.line < chip.lines → LinesBelow chip side
    → LinesBelow chip (with_demand (Some new) side)
LinesBelow-demand chip side new inside is = record {
  cached = is.cached;
  demand = λ demand stands. let same : new ≡ demand = cc in subst (λ (d : Demand). d.line < chip.lines) same inside;
  back = is.back;
}

LinesBelow-served : (chip : Chip) (side : CacheSide) → LinesBelow chip side → LinesBelow chip (with_demand None side)
LinesBelow-served chip side is = record { cached = is.cached; demand = λ demand stands. cc; back = is.back }

LinesBelow-given : (chip : Chip) (side : CacheSide) → LinesBelow chip side → LinesBelow chip (with_back None side)
LinesBelow-given chip side is = record { cached = is.cached; demand = is.demand; back = λ back stands. cc }

LinesBelow-stale : (chip : Chip) (side : CacheSide) → LinesBelow chip side → LinesBelow chip (made_stale side)
LinesBelow-stale chip side is = record {
  cached = is.cached;
  demand = is.demand;
  back = λ back stands. let was = stale_some side.misses.back back stands in
      subst (λ (l : ℕ). l < chip.lines) (sym was.2) (is.back was.0 was.1);
}

LinesBelow-owned : (chip : Chip) (side : CacheSide) (line : ℕ) (held : Held) (words : List ℕ) → lookup chip side.cache line ≡ Some held
    → LinesBelow chip side → LinesBelow chip (made_owned chip line words side)
LinesBelow-owned chip side line held words there is =
    LinesBelow-installed chip side (record { line = line; state = O; words = words }) (fits_held chip side.cache line (ap is_some there))
    (is.cached line (ap is_some there)) is

-- ---- a request
other_inside : (chip : Chip) (side : CacheSide) (q : Request) → LinesBelow chip side
    → LinesBelow chip (snooped_with chip q side (holding chip side q.line) q.kind).side
other_inside chip side q is = snoop_forms chip side q (λ outcome. LinesBelow chip outcome.side) (record {
  put = λ kind. is;
  copy_read = λ kind held there owned. LinesBelow-owned chip side q.line held held.words there is;
  copy_written = λ kind held there owned. LinesBelow-without_line chip side q.line is;
  back_read = λ kind back. is;
  back_written = λ kind copy back stands line. LinesBelow-stale chip side is;
  list_read = λ kind demand meets writes goes_on. LinesBelow-demand chip side _ (is.demand demand meets.stands) is;
  list_written = λ kind demand meets writes goes_on. LinesBelow-demand chip (line_gone chip q.line side) _ (is.demand demand meets.stands)
      (LinesBelow-without_line chip side q.line is);
  read = λ kind. is;
  once = λ kind demand meets reads. LinesBelow-demand chip side _ (is.demand demand meets.stands) is;
  shared_written = λ kind unowned. LinesBelow-without_line chip side q.line is;
  nothing_written = λ kind unowned. is;
})

completed_inside : (chip : Chip) (side : CacheSide) (demand : Demand) (place : ℕ) (words : List ℕ) → side.misses.demand ≡ Some demand
    → SideFits chip side → LinesBelow chip side
    → LinesBelow chip (completed chip demand place words side).side
completed_inside chip side demand place words stands fits is = completed_forms chip demand place words side (λ after. LinesBelow chip after)
    (record {
      served = λ reads once. LinesBelow-served chip side is;
      loaded = λ reads kept new. LinesBelow-served chip
          (with_cache (installed chip (record { line = demand.line; state = S; words = new }) side.cache) side)
          (LinesBelow-installed chip side (record { line = demand.line; state = S; words = new }) (fits.demand demand stands).room
          (is.demand demand stands) is);
      gone = λ writes ends. LinesBelow-served chip (line_gone chip demand.line side) (LinesBelow-without_line chip side demand.line is);
      stored = λ writes goes_on state owned new. LinesBelow-served chip
          (with_cache (installed chip (record { line = demand.line; state = state; words = new }) side.cache) side)
          (LinesBelow-installed chip side (record { line = demand.line; state = state; words = new }) (fits.demand demand stands).room
          (is.demand demand stands) is);
    })

ordered_inside : (chip : Chip) (side : CacheSide) (place : ℕ) (demand : Demand) (words : Option (List ℕ)) → side.misses.demand ≡ Some demand
    → SideFits chip side → LinesBelow chip side
    → LinesBelow chip (ordered_with chip side place demand words).side
ordered_inside chip side place demand (Some words) stands fits is = completed_inside chip side demand place words stands fits is
ordered_inside chip side place demand None stands fits is = LinesBelow-demand chip side _ (is.demand demand stands) is

get_inside : (chip : Chip) (side : CacheSide) (place : ℕ) (entry : Option Demand) → side.misses.demand ≡ entry → SideFits chip side
    → LinesBelow chip side → LinesBelow chip (own_get chip side place entry).side
get_inside chip side place None stands fits is = is
get_inside chip side place (Some demand) stands fits is = ordered_inside chip side place demand _ stands fits is

put_inside : (chip : Chip) (side : CacheSide) (entry : Option WriteBack) → LinesBelow chip side
    → LinesBelow chip (own_put chip side entry).side
put_inside chip side None is = is
put_inside chip side (Some back) is = LinesBelow-given chip side is

own_inside : (chip : Chip) (side : CacheSide) (place : ℕ) (kind : Kind) → SideFits chip side → LinesBelow chip side
    → LinesBelow chip (own_request chip side place kind).side
own_inside chip side place GetS fits is = get_inside chip side place side.misses.demand refl fits is
own_inside chip side place GetM fits is = get_inside chip side place side.misses.demand refl fits is
own_inside chip side place PutM fits is = put_inside chip side side.misses.back is

pub LinesBelow-after_snoop : (chip : Chip) (tile : ℕ) (side : CacheSide) (place : ℕ) (q : Request) → SideFits chip side → LinesBelow chip side
    → LinesBelow chip (after_snoop chip tile side place q).side
unfolding after_snoop
LinesBelow-after_snoop chip tile side place q fits is =
    cond_both (q.source == tile) (own_request chip side place q.kind) (snooped_with chip q side (holding chip side q.line) q.kind)
    (λ outcome. LinesBelow chip outcome.side)
    (λ same. own_inside chip side place q.kind fits is)
    (λ other. other_inside chip side q is)

-- ---- words that come
at_inside : (chip : Chip) (side : CacheSide) (words : List ℕ) (demand : Demand) (place : Option ℕ) → side.misses.demand ≡ Some demand
    → SideFits chip side → LinesBelow chip side
    → LinesBelow chip (data_at chip side words demand place).side
at_inside chip side words demand (Some place) stands fits is = completed_inside chip side demand place words stands fits is
at_inside chip side words demand None stands fits is = LinesBelow-demand chip side _ (is.demand demand stands) is

for_inside : (chip : Chip) (side : CacheSide) (words : List ℕ) (entry : Option Demand) → side.misses.demand ≡ entry → SideFits chip side
    → LinesBelow chip side → LinesBelow chip (data_for chip side words entry).side
for_inside chip side words None stands fits is = is
for_inside chip side words (Some demand) stands fits is = at_inside chip side words demand demand.ordered stands fits is

pub LinesBelow-after_data : (chip : Chip) (side : CacheSide) (words : List ℕ) → SideFits chip side → LinesBelow chip side
    → LinesBelow chip (after_data chip side words).side
unfolding after_data
LinesBelow-after_data chip side words fits is = for_inside chip side words side.misses.demand refl fits is

-- ---- the request is sent
get_sent_inside : (chip : Chip) (side : CacheSide) → LinesBelow chip side
    → LinesBelow chip (with_misses (record { demand = sent_demand side.misses.demand; back = side.misses.back }) side)
get_sent_inside chip side is = record {
  cached = is.cached;
  demand = λ d now. let was = sent_was side.misses.demand d now in
      subst (λ (x : Demand). x.line < chip.lines) (sym was.2) (is.demand was.0 was.1);
  back = is.back;
}

put_sent_inside : (chip : Chip) (side : CacheSide) (back : WriteBack) → side.misses.back ≡ Some back → LinesBelow chip side
    → LinesBelow chip (with_misses (record { demand = side.misses.demand; back = Some (record back { sent = true }) }) side)
put_sent_inside chip side back stands is = record {
  cached = is.cached;
  demand = is.demand;
  back = λ b now. let same : record back { sent = true } ≡ b = cc in subst (λ (x : WriteBack). x.line < chip.lines) same (is.back back stands);
}

pub LinesBelow-marked_sent : (chip : Chip) (side : CacheSide) → LinesBelow chip side
    → LinesBelow chip (with_misses (marked_sent side.misses) side)
unfolding marked_sent
LinesBelow-marked_sent chip side is = sent_forms side.misses.demand side.misses.back (λ m. LinesBelow chip (with_misses m side)) (record {
  get = get_sent_inside chip side is;
  put = λ back stands. put_sent_inside chip side back stands is;
})

-- ---- an access
line_inside : (address lines : ℕ) → address < 4 * lines → line_of address < lines
line_inside address lines inside = omega arith

put_lines : (chip : Chip) (side : CacheSide) (held : Held) → lookup chip side.cache held.line ≡ Some held → LinesBelow chip side
    → LinesBelow chip (with_back (Some (new_back held.line held.words)) (with_cache (without_line chip held.line side.cache) side))
put_lines chip side held there is = record {
  cached = (LinesBelow-without_line chip side held.line is).cached;
  demand = is.demand;
  back = λ back stands. let same : new_back held.line held.words ≡ back = cc in
      subst (λ (b : WriteBack). b.line < chip.lines) same (is.cached held.line (ap is_some there));
}

dropped_inside : (chip : Chip) (side : CacheSide) (line : ℕ) (cache : Cache) → DropsShared chip line side.cache cache → LinesBelow chip side
    → LinesBelow chip (with_cache cache side)
dropped_inside chip side line cache drops is =
    subst (λ (c : Cache). LinesBelow chip (with_cache c side)) (sym drops.dropped) (LinesBelow-without_line chip side drops.was.line is)

wrote_inside : (chip : Chip) (side : CacheSide) (line : ℕ) (held : Held) (words : List ℕ) → lookup chip side.cache line ≡ Some held
    → LinesBelow chip side
    → LinesBelow chip (with_cache (installed chip (record held { words = words }) side.cache) side)
wrote_inside chip side line held words there is =
    let same : held.line ≡ line = lookup-line chip side.cache line held there in
    let some : is_some (lookup chip side.cache held.line) ≡ true = ap (λ (l : ℕ). is_some (lookup chip side.cache l)) same
    ∙ ap is_some there in
    LinesBelow-installed chip side (record held { words = words }) (fits_held chip side.cache held.line some) (is.cached held.line some) is

pub LinesBelow-node_after_access : (access : Pending) (node : Node) (performed : Performed)
    → node_after_access access node ≡ Some performed → access.address < 4 * node.chip.lines
    → SideFits node.chip node.side → LinesBelow node.chip node.side → LinesBelow performed.0.chip performed.0.side
LinesBelow-node_after_access access node performed done inside fits is =
    let here : line_of access.address < node.chip.lines = line_inside access.address node.chip.lines inside in
    let at : (a : Pending) → line_of a.address ≡ line_of access.address → line_of a.address < node.chip.lines = λ a same. subst (λ (l : ℕ). l < node.chip.lines)
    (sym same) here in
    access_forms access node performed (λ after. LinesBelow after.chip after.side) fits.cache (record {
      hit = is;
      wrote = λ held there modified words. wrote_inside node.chip node.side (line_of access.address) held words there is;
      missed = λ a same apart absent room. LinesBelow-demand node.chip node.side (started_by a) (at a same) is;
      upgraded = λ a same apart changes held there unmodified. LinesBelow-demand node.chip node.side _ (at a same) is;
      made_room = λ a same apart absent cache drops. LinesBelow-demand node.chip (with_cache cache node.side) (started_by a) (at a same)
          (dropped_inside node.chip node.side (line_of access.address) cache drops is);
      put_back = λ held puts queue alone. put_lines node.chip node.side held puts.there is;
    }) done

-- ---- the records stay those of the same lines
set_some : (records : Records) (i line : ℕ) (r new : LineRecord) → slice_index_or records i None ≡ Some r
    → is_some (slice_index_or (set records i (Some new)) line None) ≡ is_some (slice_index_or records line None)
set_some [] i line r new is = refl
set_some (first ∷ records) zero zero r new is = sym (ap is_some is)
set_some (first ∷ records) zero (suc line) r new is = refl
set_some (first ∷ records) (suc i) zero r new is = refl
set_some (first ∷ records) (suc i) (suc line) r new is = set_some records i line r new is

answered_some : (q : Request) (records : Records) (o : Option LineRecord) (line : ℕ) → slice_index_or records q.line None ≡ o
    → is_some (slice_index_or (answered_at q records o).records line None) ≡ is_some (slice_index_or records line None)
answered_some q records None line is = refl
answered_some q records (Some r) line is = set_some records q.line line r _ is

pub records-answered : (q : Request) (records : Records) (line : ℕ)
    → is_some (slice_index_or (answered q records).records line None) ≡ is_some (slice_index_or records line None)
unfolding answered
records-answered q records line = answered_some q records (slice_index_or records q.line None) line refl

returned_some : (at : ℕ) (words : List ℕ) (records : Records) (o : Option LineRecord) (line : ℕ) → slice_index_or records at None ≡ o
    → is_some (slice_index_or (returned_at at words records o).records line None) ≡ is_some (slice_index_or records line None)
returned_some at words records None line is = refl
returned_some at words records (Some r) line is = set_some records at line r _ is

pub records-back_arrived : (at : ℕ) (words : List ℕ) (records : Records) (line : ℕ)
    → is_some (slice_index_or (back_arrived at words records).records line None) ≡ is_some (slice_index_or records line None)
unfolding back_arrived
records-back_arrived at words records line = returned_some at words records (slice_index_or records at None) line refl

-- ---- the node as a whole
pub lines_below : (node : Node) → LinesFit node → LinesBelow node.chip node.side
lines_below node is = record { cached = is.cached; demand = is.demand; back = is.back }

pub LinesFit-node_after_request : (q : Request) (node : Node) → SideFits node.chip node.side → LinesFit node
    → LinesFit (node_after_request q node).0
unfolding node_after_request
LinesFit-node_after_request q node fits is =
    let now = LinesBelow-after_snoop node.chip node.tile node.side node.delivered q fits (lines_below node is) in
    record {
      cached = now.cached;
      demand = now.demand;
      back = now.back;
      records = λ line inside. records-answered q node.records line ∙ is.records line inside;
    }

arrived_lines : (msg : Msg) (node : Node) (kind : MsgKind) → SideFits node.chip node.side → LinesFit node
    → LinesFit (arrived_as msg node kind).0
arrived_lines msg node Data fits is =
    let now = LinesBelow-after_data node.chip node.side msg.words fits (lines_below node is) in
    record { cached = now.cached; demand = now.demand; back = now.back; records = is.records }
arrived_lines msg node Back fits is = record {
  cached = is.cached;
  demand = is.demand;
  back = is.back;
  records = λ line inside. records-back_arrived msg.line msg.words node.records line ∙ is.records line inside;
}

pub LinesFit-node_after_message : (msg : Msg) (node : Node) → SideFits node.chip node.side → LinesFit node
    → LinesFit (node_after_message msg node).0
unfolding node_after_message
LinesFit-node_after_message msg node fits is = arrived_lines msg node msg.kind fits is

pub LinesFit-after_request_sent : (node : Node) → LinesFit node → LinesFit (after_request_sent node)
unfolding after_request_sent
LinesFit-after_request_sent node is =
    let now = LinesBelow-marked_sent node.chip node.side (lines_below node is) in
    record { cached = now.cached; demand = now.demand; back = now.back; records = is.records }

pub LinesFit-after_message_sent : (node : Node) → LinesFit node → LinesFit (after_message_sent node)
unfolding after_message_sent
LinesFit-after_message_sent node is = record { cached = is.cached; demand = is.demand; back = is.back; records = is.records }

lines_with : (node : Node) (side : CacheSide) → LinesFit node → LinesBelow node.chip side → LinesFit (with_side side node)
lines_with node side is now = record { cached = now.cached; demand = now.demand; back = now.back; records = is.records }

pub LinesFit-node_after_access : (access : Pending) (node : Node) (performed : Performed)
    → node_after_access access node ≡ Some performed → access.address < 4 * node.chip.lines
    → SideFits node.chip node.side → LinesFit node → LinesFit performed.0
LinesFit-node_after_access access node performed done inside fits is =
    let now = LinesBelow-node_after_access access node performed done inside fits (lines_below node is) in
    let same = accessed_frame access node performed done fits.cache in
    subst (λ (n : Node). LinesFit n) (sym same)
    (lines_with node performed.0.side is (subst (λ (n : Node). LinesBelow n.chip n.side) same now))
