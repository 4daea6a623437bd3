-- As many requests as a tile is owed, so many channels there are at least.
use Rattle.std.proofs.Common.{◌≡◌, ◌≢◌, ℕ, suc, ◌+◌, ◌*◌, ◌<◌, ◌≤◌, true, refl, sym, ◌∙◌, ap, arith, ⊎_elim, Option, Some, None, List, [], ◌∷◌, length, get_or}
use Rattle.std.specs.Prelude.{slice_get}
use Rattle.std.specs.List.{sum_by, All, AllPairs}
use Rattle.std.proofs.lemmas.Bool.{cases_Bool, false_from_ne_true}
use Rattle.std.proofs.lemmas.List.{length-replicate}
use Rattle.std.proofs.lemmas.List.Sums.{sum_by-cons, sum_by-le}
use Rattle.mesh_gen.specs.declared.request.Request.{Request}
use Rattle.mesh_gen.specs.Grid.{Grid, tiles}
use Rattle.mesh_gen.specs.PortSets.{bits_of}
use Rattle.vc_bank.specs.Channels.{Channels, slots_at, empty_channels}
use Rattle.vc_bank.specs.Places.{Network, sum_from, slot_count, weigh}
use Rattle.vc_bank.proofs.PlaceLaws.{weigh-sum_by, weigh-slot_count}
use Rattle.chip_model.specs.declared.net_copy.NetCopy.{NetCopy}
use Rattle.chip_model.specs.Copies.{Name, is_named}
use Rattle.chip_model.specs.CopiesOwed.{owing, outputs_owed}
use Rattle.chip_model.specs.NetworkShape.{HasChannels}
use Rattle.router_xy.proofs.CopyOutputs.{ways-le, outputs_to-le, for_name, for_name-no, name_is, owed_by}

-- ---- how many channels the routers have
bank_size : (vcs : ℕ) (bank : Channels NetCopy) → length bank ≡ 5 → ((port : ℕ) → length (slots_at bank port) ≡ length (slots_at (empty_channels {P = NetCopy} vcs true) port)) → sum_from (λ port slots. length slots) 0 bank ≡ 5 * vcs + 4
bank_size vcs [] five same = absurd (omega arith)
bank_size vcs (l ∷ []) five same = absurd (omega arith)
bank_size vcs (l ∷ e ∷ []) five same = absurd (omega arith)
bank_size vcs (l ∷ e ∷ w ∷ []) five same = absurd (omega arith)
bank_size vcs (l ∷ e ∷ w ∷ n ∷ []) five same = absurd (omega arith)
bank_size vcs (l ∷ e ∷ w ∷ n ∷ s ∷ []) five same =
    let own = length-replicate {A = Option NetCopy} vcs None in
    let side = length-replicate {A = Option NetCopy} (vcs + 1) None in
    let at_l = same 0 in
    let at_e = same 1 in
    let at_w = same 2 in
    let at_n = same 3 in
    let at_s = same 4 in
    omega arith
bank_size vcs (l ∷ e ∷ w ∷ n ∷ s ∷ more ∷ bank) five same = absurd (omega arith)

sum_of_equal : {X : Type 0} (f : X → ℕ) (size n : ℕ) (xs : List X) → ((k : ℕ) (x : X) → slice_get xs k ≡ Some x → f x ≡ size) → sum_from (λ k x. f x) n xs ≡ length xs * size
sum_of_equal f size n [] each = omega arith
sum_of_equal f size n (x ∷ xs) each =
    let first = each 0 x refl in
    let rest = sum_of_equal f size (suc n) xs (λ k y there. each (suc k) y there) in
    omega arith

pub network_size : (g : Grid) (vcs : ℕ) (net : Network NetCopy) → HasChannels g vcs true net → slot_count net ≡ tiles g * (5 * vcs + 4)
network_size g vcs net have =
    sum_of_equal (λ (bank : Channels NetCopy). sum_from (λ port slots. length slots) 0 bank) (5 * vcs + 4) 0 net
    (λ r bank there. bank_size vcs bank (have.ports r bank there) (λ port. have.slots r port bank there))
    ∙ ap (λ (count : ℕ). count * (5 * vcs + 4)) have.routers

-- ---- a copy counts for one name of a list of different ones
sum_for_names : (q : Request) (count : ℕ) (names : List Name) → count ≤ 1 → AllPairs (λ a b. a ≢ b) names → sum_by (λ name. for_name name q count) names ≤ 1
sum_for_names q count [] few differ = omega arith
sum_for_names q count (name ∷ names) few differ = ⊎_elim
    (λ named. let none = sum_by-le (λ other. for_name other q count) 0 names (others named) in
    let first = own named in
    let all = sum_by-cons (λ other. for_name other q count) name names in
    omega arith)
    (λ other. let none = for_name-no name q count other in
    let rest = sum_for_names q count names few (λ i j d below inside. differ (suc i) (suc j) d (omega arith) (omega arith)) in
    let all = sum_by-cons (λ other. for_name other q count) name names in
    omega arith)
    (cases_Bool (is_named name q))
  where
    own : is_named name q ≡ true → for_name name q count ≤ 1
    own named = rw named few

    others : is_named name q ≡ true → All (λ other. for_name other q count ≤ 0) names
    others named k d inside =
        let apart = differ 0 (suc k) d (omega arith) (omega arith) in
        let none = for_name-no (get_or names k d) q count (false_from_ne_true _ (λ same. apart (sym (name_is name q named) ∙ name_is (get_or names k d) q same))) in
        omega arith

-- ---- the names of what a tile is owed
sum_of_some : {X : Type 0} (f : X → ℕ) (xs : List X) → All (λ x. 0 < f x) xs → length xs ≤ sum_by f xs
sum_of_some f [] each = omega arith
sum_of_some f (x ∷ xs) each =
    let first = each 0 x (omega arith) in
    let rest = sum_of_some f xs (λ k d inside. each (suc k) d (omega arith)) in
    let all = sum_by-cons f x xs in
    omega arith

pub names_fit : (g : Grid) (vcs : ℕ) (net : Network NetCopy) (tile : ℕ) (names : List Name) → HasChannels g vcs true net → AllPairs (λ a b. a ≢ b) names → All (λ name. 0 < owing g net name tile) names → length names ≤ tiles g * (5 * vcs + 4)
unfolding owing
names_fit g vcs net tile names have differ owed =
    let some = sum_of_some (λ name. weigh (owed_by g name tile) net) names owed in
    let whole = weigh-sum_by (λ name. owed_by g name tile) net names in
    let few = weigh-slot_count (λ r p slot copy. sum_by (λ name. owed_by g name tile r p slot copy) names)
    (λ r p slot copy. sum_for_names copy.request (outputs_owed g copy r tile) names (one copy r) differ) net in
    let size = network_size g vcs net have in
    omega arith
  where
    one : (copy : NetCopy) (r : ℕ) → outputs_owed g copy r tile ≤ 1
    one copy r = let few = ways-le g copy.request.source r tile (bits_of copy.owed) in let least = outputs_to-le g copy.request.source r tile in omega arith
