-- Window after window of a broadcast.
use Rattle.std.proofs.Common.{◌≡◌, ℕ, ◌+◌, ◌*◌, ◌<◌, ◌≤◌, refl, sym, ◌∙◌, ap, subst, arith, List, [], ◌∷◌, ◌++◌, map, take, length, get_or}
use Rattle.std.proofs.Math.Nat.{mul-le-mul_right}
use Rattle.std.proofs.lemmas.List.{take_more}
use Rattle.std.proofs.lemmas.List.Sums.{fold-append}
use Rattle.chip_model.specs.Chip.{Chip, tile_count}
use Rattle.chip_model.specs.OrderedNetwork.{OrderedNetwork, opening_network}
use Rattle.chip_model.specs.Delivery.{network_swept, passes, window_events, IsQuiet, Delivers, rising}
use Rattle.chip_model.specs.Delivery.Delivers.{done, window}
use Rattle.net_iface.specs.OrderedNet.{NetworkState, opening_state}
use Rattle.net_iface.specs.Moves.{most_moves}
use Rattle.broadcast.specs.Sweeps.{Settles}
use Rattle.broadcast.specs.Settled.{window_settled}
use Rattle.broadcast.specs.Broadcasts.{WindowPasses}
use Rattle.broadcast.specs.Delivered.{HasBroadcast}
use Rattle.broadcast.proofs.Settling.{settled_is}

-- one more window at the end
delivers_more : (chip : Chip) (windows : List (List ℕ)) (tiles : List ℕ) (a b c : OrderedNetwork) (count : ℕ) → Delivers chip windows a b → passes chip count (network_swept chip b (window_events chip tiles)) ≡ c → IsQuiet chip c
    → Delivers chip (windows ++ tiles ∷ []) a c
delivers_more chip [] tiles a b c count done passed settled = window count passed settled done
delivers_more chip (first ∷ rest) tiles a b c count (window n before still later) passed settled = window n before still (delivers_more chip rest tiles _ b c count later passed settled)

map_append : {X Y : Type 0} (f : X → Y) (xs : List X) (x : X) → map f (xs ++ x ∷ []) ≡ map f xs ++ f x ∷ []
map_append f [] x = refl
map_append f (y ∷ xs) x = ap (λ (rest : List _). f y ∷ rest) (map_append f xs x)

-- no window yet
pub none_yet : (chip : Chip) (posts : List (List ℕ)) (room : ℕ) → HasBroadcast chip posts room 0 (opening_state chip room)
none_yet chip posts room = record { chip_is = refl; room_is = refl; delivers = done; network = refl; over = refl; few = omega arith }

-- a window, and passes until nothing moves
pub one_more_window : (chip : Chip) (posts : List (List ℕ)) (room count : ℕ) (tiles : List ℕ) (a b c : NetworkState) → count < length posts → get_or posts count [] ≡ tiles → HasBroadcast chip posts room count a
    → WindowPasses (window_events a.chip (rising a.chip tiles)) a b → Settles b c → HasBroadcast chip posts room (count + 1) c
one_more_window chip posts room count tiles a b c inside tiles_is before passed settles = record {
  chip_is = chip_is;
  room_is = settles.passes.sizes.room_is ∙ passed.sizes.room_is ∙ before.room_is;
  delivers = rw (take_more posts count [] inside, tiles_is, map_append (rising chip) (take count posts) tiles)
      (delivers_more chip (map (rising chip) (take count posts)) (rising chip tiles) (opening_network chip) a.network c.network settles.passes.count before.delivers swept settled);
  network = rw (take_more posts count [] inside, tiles_is, map_append (rising chip) (take count posts) tiles)
      (sym (settled_is chip settles.passes.count (network_swept chip a.network (window_events chip (rising chip tiles))) c.network swept settled few_passes)
      ∙ ap (λ (net : OrderedNetwork). window_settled chip net (rising chip tiles)) before.network
      ∙ sym (fold-append (window_settled chip) (opening_network chip) (map (rising chip) (take count posts)) (rising chip tiles ∷ [])));
  over = settles.passes.phase ∙ passed.over;
  few = let same = ap length settles.passes.ordered in let most = passed.few in let so_far = before.few in let tiles = ap tile_count before.chip_is in omega arith;
}
  where
    at_b : b.chip ≡ chip
    at_b = passed.sizes.chip_is ∙ before.chip_is

    chip_is : c.chip ≡ chip
    chip_is = settles.passes.sizes.chip_is ∙ at_b

    swept : passes chip settles.passes.count (network_swept chip a.network (window_events chip (rising chip tiles))) ≡ c.network
    swept =
        ap (passes chip settles.passes.count) (ap (λ (here : Chip). network_swept here a.network (window_events here (rising here tiles))) (sym before.chip_is) ∙ sym passed.swept)
        ∙ ap (λ (here : Chip). passes here settles.passes.count b.network) (sym at_b)
        ∙ settles.passes.passed

    few_passes : settles.passes.count ≤ most_moves chip (network_swept chip a.network (window_events chip (rising chip tiles)))
    few_passes =
        let begun : b.network ≡ network_swept chip a.network (window_events chip (rising chip tiles)) =
        passed.swept ∙ ap (λ (here : Chip). network_swept here a.network (window_events here (rising here tiles))) before.chip_is
        in
        let same = ap (λ (here : Chip). most_moves here b.network) at_b ∙ ap (most_moves chip) begun in
        let few = settles.few in
        omega arith

    settled : IsQuiet chip c.network
    settled = subst (λ (here : Chip). IsQuiet here c.network) chip_is settles.settled

-- there is room for one more
pub room_for_one : (tiles windows count ordered : ℕ) → count < windows → ordered ≤ count * tiles → ordered + tiles ≤ windows * tiles
room_for_one tiles windows count ordered inside few =
    let more = mul-le-mul_right tiles inside in
    omega arith
