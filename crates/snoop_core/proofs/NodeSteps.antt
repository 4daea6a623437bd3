-- What the calls do to the parts of a node is what the step does to the node.
use Rattle.std.proofs.Common.{◌≡◌, ℕ, ◌+◌, ◌≤◌, refl, sym, ◌∙◌, ap, subst, arith, None, List, ◌++◌, length, length-append, drop}
use Rattle.mesh_gen.specs.declared.request.Request.{Request}
use Rattle.mesh_gen.specs.declared.msg.Msg.{Msg}
use Rattle.mesh_gen.specs.declared.msg_kind.MsgKind.{MsgKind}
use Rattle.mesh_gen.specs.declared.msg_kind.MsgKind.TheVariants.{Data, Back}
use Rattle.chip_model.specs.Misses.{marked_sent}
use Rattle.chip_model.specs.Snoop.{after_snoop, after_data}
use Rattle.chip_model.specs.Records.{Records, answered, back_arrived}
use Rattle.chip_model.specs.Node.{Node, Performed, node_after_request, arrived_as, node_after_message, after_request_sent, after_message_sent}
use Rattle.snoop_core.specs.ChipSides.{ChipSide, after_outcome}

-- a node of these parts
abbrev pub node_of : ChipSide → ℕ → Records → List Msg → ℕ → Node
node_of site tile records out delivered = record {
  chip = site.chip;
  tile = tile;
  side = site.side;
  records = records;
  out = out;
  delivered = delivered;
}

pub sent_is : (site new : ChipSide) (tile : ℕ) (records : Records) (out : List Msg) (delivered : ℕ) → new ≡ record site { side = record site.side { misses = marked_sent site.side.misses } }
    → node_of new tile records out delivered ≡ after_request_sent (node_of site tile records out delivered)
unfolding after_request_sent
sent_is site new tile records out delivered is = ap (λ (s : ChipSide). node_of s tile records out delivered) is

pub dropped_is : (site : ChipSide) (tile : ℕ) (records : Records) (out rest : List Msg) (delivered : ℕ) → rest ≡ drop 1 out
    → node_of site tile records rest delivered ≡ after_message_sent (node_of site tile records out delivered)
unfolding after_message_sent
dropped_is site tile records out rest delivered is = ap (λ (o : List Msg). node_of site tile records o delivered) is

-- ---- a request is delivered
pub delivered_is : (q : Request) (site new : ChipSide) (tile : ℕ) (records answers : Records) (out between now : List Msg) (delivered : ℕ)
    → new ≡ after_outcome (after_snoop site.chip tile site.side delivered q) site → between ≡ out ++ (after_snoop site.chip tile site.side delivered q).sends
    → answers ≡ (answered q records).records → now ≡ between ++ (answered q records).sends
    → node_of new tile answers now (delivered + 1) ≡ (node_after_request q (node_of site tile records out delivered)).0
unfolding node_after_request
delivered_is q site new tile records answers out between now delivered side sent kept queued =
    ap (λ (s : ChipSide). node_of s tile answers now (delivered + 1)) side
    ∙ ap (λ (r : Records). node_of (after_outcome (after_snoop site.chip tile site.side delivered q) site) tile r now (delivered + 1)) kept
    ∙ ap (λ (o : List Msg). node_of (after_outcome (after_snoop site.chip tile site.side delivered q) site) tile (answered q records).records o (delivered + 1))
    (queued ∙ ap (λ (o : List Msg). o ++ (answered q records).sends) sent)

pub delivered_done : (q : Request) (site : ChipSide) (tile : ℕ) (records : Records) (out : List Msg) (delivered : ℕ)
    → (after_snoop site.chip tile site.side delivered q).done ≡ (node_after_request q (node_of site tile records out delivered)).1
unfolding node_after_request
delivered_done q site tile records out delivered = refl

pub snoop_room : (q : Request) (site : ChipSide) (tile : ℕ) (records : Records) (out : List Msg) (delivered room : ℕ) → length (node_after_request q (node_of site tile records out delivered)).0.out ≤ room
    → length (out ++ (after_snoop site.chip tile site.side delivered q).sends) ≤ room
unfolding node_after_request
snoop_room q site tile records out delivered room fits =
    let all : length (out ++ (after_snoop site.chip tile site.side delivered q).sends ++ (answered q records).sends) ≤ room = fits in
    omega (arith, all, length-append (out ++ (after_snoop site.chip tile site.side delivered q).sends) (answered q records).sends)

pub answer_room : (q : Request) (site : ChipSide) (tile : ℕ) (records : Records) (out between : List Msg) (delivered room : ℕ) → length (node_after_request q (node_of site tile records out delivered)).0.out ≤ room
    → between ≡ out ++ (after_snoop site.chip tile site.side delivered q).sends → length (between ++ (answered q records).sends) ≤ room
unfolding node_after_request
answer_room q site tile records out between delivered room fits sent =
    subst (λ (o : List Msg). length (o ++ (answered q records).sends) ≤ room) (sym sent) fits

-- ---- a message comes
pub arrival_as : (msg : Msg) (node : Node) (kind : MsgKind) → msg.kind ≡ kind → node_after_message msg node ≡ arrived_as msg node kind
unfolding node_after_message
arrival_as msg node kind is = ap (arrived_as msg node) is

pub words_are : (msg : Msg) (site new : ChipSide) (tile : ℕ) (records : Records) (out now : List Msg) (delivered : ℕ) → msg.kind ≡ Data
    → new ≡ after_outcome (after_data site.chip site.side msg.words) site → now ≡ out ++ (after_data site.chip site.side msg.words).sends
    → node_of new tile records now delivered ≡ (node_after_message msg (node_of site tile records out delivered)).0
words_are msg site new tile records out now delivered kind side sent =
    ap (λ (s : ChipSide). node_of s tile records now delivered) side
    ∙ ap (λ (o : List Msg). node_of (after_outcome (after_data site.chip site.side msg.words) site) tile records o delivered) sent
    ∙ ap (λ (p : Performed). p.0) (sym (arrival_as msg (node_of site tile records out delivered) Data kind))

pub words_done : (msg : Msg) (site : ChipSide) (tile : ℕ) (records : Records) (out : List Msg) (delivered : ℕ) → msg.kind ≡ Data
    → (after_data site.chip site.side msg.words).done ≡ (node_after_message msg (node_of site tile records out delivered)).1
words_done msg site tile records out delivered kind = ap (λ (p : Performed). p.1) (sym (arrival_as msg (node_of site tile records out delivered) Data kind))

pub words_room : (msg : Msg) (site : ChipSide) (tile : ℕ) (records : Records) (out : List Msg) (delivered room : ℕ) → msg.kind ≡ Data
    → length (node_after_message msg (node_of site tile records out delivered)).0.out ≤ room → length (out ++ (after_data site.chip site.side msg.words).sends) ≤ room
words_room msg site tile records out delivered room kind fits =
    subst (λ (p : Performed). length p.0.out ≤ room) (arrival_as msg (node_of site tile records out delivered) Data kind) fits

pub home_is : (msg : Msg) (site : ChipSide) (tile : ℕ) (records new : Records) (out now : List Msg) (delivered : ℕ) → msg.kind ≡ Back
    → new ≡ (back_arrived msg.line msg.words records).records → now ≡ out ++ (back_arrived msg.line msg.words records).sends
    → node_of site tile new now delivered ≡ (node_after_message msg (node_of site tile records out delivered)).0
home_is msg site tile records new out now delivered kind kept sent =
    ap (λ (r : Records). node_of site tile r now delivered) kept
    ∙ ap (λ (o : List Msg). node_of site tile (back_arrived msg.line msg.words records).records o delivered) sent
    ∙ ap (λ (p : Performed). p.0) (sym (arrival_as msg (node_of site tile records out delivered) Back kind))

pub home_done : (msg : Msg) (node : Node) → msg.kind ≡ Back → None ≡ (node_after_message msg node).1
home_done msg node kind = ap (λ (p : Performed). p.1) (sym (arrival_as msg node Back kind))

pub home_room : (msg : Msg) (site : ChipSide) (tile : ℕ) (records : Records) (out : List Msg) (delivered room : ℕ) → msg.kind ≡ Back
    → length (node_after_message msg (node_of site tile records out delivered)).0.out ≤ room → length (out ++ (back_arrived msg.line msg.words records).sends) ≤ room
home_room msg site tile records out delivered room kind fits =
    subst (λ (p : Performed). length p.0.out ≤ room) (arrival_as msg (node_of site tile records out delivered) Back kind) fits
