-- The last of a list, and the words queued for one more of a list.
use Rattle.std.proofs.Common.{◌≡◌, ℕ, zero, suc, ◌+◌, ◌<◌, ◌≤◌, sym, ◌∙◌, ap, arith, List, [], ◌∷◌, ◌++◌, length, take, map, get_or, length-append}
use Rattle.std.proofs.lemmas.List.{take_more, take_all, map-append, append_assoc, length-map, length-take}
use Rattle.mesh_gen.specs.declared.msg.Msg.{Msg}
use Rattle.chip_model.specs.declared.waiting.Waiting.{Waiting}
use Rattle.chip_model.specs.Misses.{is_getm, ends_in_getm}
use Rattle.chip_model.specs.Snoop.{data_to, data_to_all}

-- a list ends as its last tile asked
pub ends_in_getm-last : (list : List Waiting) (n : ℕ) (last : Waiting) → length list ≡ suc n → last ≡ get_or list n last → is_getm last.kind ≡ ends_in_getm list
ends_in_getm-last [] n last e is = absurd (omega arith)
ends_in_getm-last (w ∷ []) zero last e is = ap (λ (x : Waiting). is_getm x.kind) is
ends_in_getm-last (w ∷ []) (suc n) last e is = absurd (omega arith)
ends_in_getm-last (w ∷ v ∷ list) zero last e is = absurd (omega arith)
ends_in_getm-last (w ∷ v ∷ list) (suc n) last e is = ends_in_getm-last (v ∷ list) n last (omega arith) is

-- after the words for the first k of a list, those for the next
pub data_to_all-more : (out : List Msg) (line : ℕ) (words : List ℕ) (list : List Waiting) (k : ℕ) (next : Waiting) → k < length list → next ≡ get_or list k next
    → (out ++ data_to_all line words (take k list)) ++ data_to next.tile line words ∷ [] ≡ out ++ data_to_all line words (take (k + 1) list)
data_to_all-more out line words list k next below is =
    append_assoc out (data_to_all line words (take k list)) (data_to next.tile line words ∷ [])
    ∙ ap (λ (sent : List Msg). out ++ sent)
    (ap (λ (w : Waiting). data_to_all line words (take k list) ++ data_to w.tile line words ∷ []) is
    ∙ sym (map-append (λ (w : Waiting). data_to w.tile line words) (take k list) (get_or list k next ∷ []))
    ∙ ap (data_to_all line words) (sym (take_more list k next below)))

-- while not all of a list is queued, there is room for the next
pub length-queued : (out now : List Msg) (line : ℕ) (words : List ℕ) (list : List Waiting) (k room : ℕ) → now ≡ out ++ data_to_all line words (take k list)
    → length out + length list ≤ room → k < length list → length now < room
length-queued out now line words list k room is fits below =
    omega (arith, ap length is, length-append out (data_to_all line words (take k list)), length-map (take k list) (λ (w : Waiting). data_to w.tile line words), length-take k list)

-- all of a list is queued
pub data_to_all-whole : (out now : List Msg) (line : ℕ) (words : List ℕ) (list : List Waiting) (k : ℕ) → now ≡ out ++ data_to_all line words (take k list)
    → length list ≤ k → now ≡ out ++ data_to_all line words list
data_to_all-whole out now line words list k is whole = is ∙ ap (λ (queued : List Waiting). out ++ data_to_all line words queued) (take_all k list whole)
