-- At the opening the measure is at most the bound.
use Rattle.std.proofs.Common.{◌≡◌, ℕ, zero, suc, ◌+◌, ◌-◌, ◌*◌, ◌≤◌, Bool, true, false, List, [], ◌∷◌, map, Some, None, length, get_or, refl, ◌∙◌, ap, arith}
use Rattle.std.specs.Prelude.{replicate, ◌==◌, if◌then◌else◌}
use Rattle.std.specs.List.{sum_by}
use Rattle.std.proofs.Math.Nat.{mul-add, mul_comm, mul-le-mul_left}
use Rattle.std.proofs.lemmas.List.Sums.{sum_by-cons}
use Rattle.mesh_gen.specs.declared.msg.Msg.{Msg}
use Rattle.mesh_gen.specs.Grid.{Grid, tiles, diameter}
use Rattle.vc_bank.specs.Places.{at}
use Rattle.vc_bank.proofs.PlaceLaws.{weigh_none, at-empty}
use Rattle.order_tracker.specs.Order.{upwards}
use Rattle.core_isa.specs.declared.instr.Instr.{Instr}
use Rattle.doc_text.specs.Doc.{Doc}
use Rattle.chip_model.specs.declared.net_copy.NetCopy.{NetCopy}
use Rattle.chip_model.specs.Chip.{Chip, chip_of, tile_count, home}
use Rattle.chip_model.specs.Copies.{no_copies}
use Rattle.chip_model.specs.Replies.{no_replies}
use Rattle.chip_model.specs.OrderedNetwork.{Interface, opening_network}
use Rattle.chip_model.specs.Records.{opening_record}
use Rattle.chip_model.specs.Node.{words_at, record_at}
use Rattle.chip_model.specs.Units.{opening_unit}
use Rattle.chip_model.specs.ChipState.{opening, program_of}
use Rattle.chip_model.specs.Schedules.{bound}
use Rattle.flow_laws.proofs.ListSums.{sum_none}
use Rattle.bound_laws.specs.Measure.{per_posted, per_made, per_instruction, hop_weight, reply_weight, requests_to_go, answers_to_go, replies_to_go, record_promises, node_to_go, instructions_to_go, core_to_go, unit_to_go, measure}
use Rattle.bound_laws.proofs.WindowSteps.{posted-none}
use Rattle.bound_laws.proofs.CoreToGo.{instructions_le}

-- ---- sums
sum_replicate : {X : Type 0} (f : X → ℕ) (n : ℕ) (x : X) → f x ≡ 0 → sum_by f (replicate n x) ≡ 0
sum_replicate f zero x none = refl
sum_replicate f (suc n) x none = let rest = sum_replicate f n x none in omega (arith, sum_by-cons f x (replicate n x))

sum_map : {X Y : Type 0} (f : Y → ℕ) (g : X → Y) (xs : List X) → sum_by f (map g xs) ≡ sum_by (λ x. f (g x)) xs
sum_map f g [] = refl
sum_map f g (x ∷ xs) = let rest = sum_map f g xs in omega (arith, sum_by-cons f (g x) (map g xs), sum_by-cons (λ x. f (g x)) x xs)

-- where each part is at most a price for each of some and one more, so is the sum
sum_priced : {X : Type 0} (f h : X → ℕ) (price : ℕ) (xs : List X) → ((x : X) → f x ≤ price * h x + price)
    → sum_by f xs ≤ price * sum_by h xs + price * length xs
sum_priced f h price [] each = omega arith
sum_priced f h price (x ∷ xs) each =
    let rest = sum_priced f h price xs each in
    let first = each x in
    let split = ap (λ (n : ℕ). price * n) (sum_by-cons h x xs) in
    omega (arith, sum_by-cons f x xs, mul-add price (h x) (sum_by h xs), mul-add price 1 (length xs))

length-upwards : (first count : ℕ) → length (upwards first count) ≡ count
length-upwards first zero = refl
length-upwards first (suc count) = let rest = length-upwards (first + 1) count in omega arith

-- the items at some numbers weigh no more than all
shifted : {X : Type 0} (g : X → ℕ) (x d : X) (xs : List X) (first count : ℕ)
    → sum_by (λ t. g (get_or (x ∷ xs) t d)) (upwards (suc first) count) ≡ sum_by (λ t. g (get_or xs t d)) (upwards first count)
shifted g x d xs first zero = refl
shifted g x d xs first (suc count) =
    let next : suc first + 1 ≡ suc (first + 1) = omega arith in
    let rest = ap (λ (n : ℕ). sum_by (λ t. g (get_or (x ∷ xs) t d)) (upwards n count)) next ∙ shifted g x d xs (first + 1) count in
    omega (
      arith,
      sum_by-cons (λ t. g (get_or (x ∷ xs) t d)) (suc first) (upwards (suc first + 1) count),
      sum_by-cons (λ t. g (get_or xs t d)) first
          (upwards (first + 1) count),
    )

none_there : {X : Type 0} (g : X → ℕ) (d : X) (list : List ℕ) → g d ≡ 0 → sum_by (λ t. g (get_or [] t d)) list ≡ 0
none_there g d list none = sum_none (λ t. g (get_or [] t d)) list (λ k t there. none)

sum_at : {X : Type 0} (g : X → ℕ) (d : X) (xs : List X) (count : ℕ) → g d ≡ 0 → sum_by (λ t. g (get_or xs t d)) (upwards 0 count) ≤ sum_by g xs
sum_at g d [] count none = let all = none_there g d (upwards 0 count) none in omega arith
sum_at g d (x ∷ xs) zero none = omega arith
sum_at g d (x ∷ xs) (suc count) none =
    let rest = sum_at g d xs count none in
    let moved = shifted g x d xs 0 count in
    omega (arith, sum_by-cons (λ t. g (get_or (x ∷ xs) t d)) 0 (upwards 1 count), sum_by-cons g x xs)

-- ---- nothing is in the networks
no_requests : (chip : Chip) → requests_to_go chip (opening_network chip) ≡ 0
unfolding requests_to_go
no_requests chip =
    let n = tile_count chip in
    let fresh : Interface = record { made = []; posted = 0; delivered = 0 } in
    let posts = sum_replicate (λ (interface : Interface). per_made chip * (length interface.made - interface.posted)) n fresh (omega arith) in
    let deliveries = sum_replicate (λ (interface : Interface). 0 - interface.delivered) n fresh refl in
    let vectors = sum_replicate (λ count. 0 - count) n 0 refl in
    let posted = posted-none chip (opening_network chip).windows refl in
    let price = ap (λ (count : ℕ). per_posted chip * count) posted in
    let copies = weigh_none (hop_weight chip.grid) (no_copies chip.grid chip.vcs) (λ r p i copy stands. absurd (no_copy r p i copy stands)) in
    omega arith
  where
    no_copy : (r p i : ℕ) (copy : NetCopy) → at (no_copies chip.grid chip.vcs) r p i ≡ Some copy → ⊥
    no_copy r p i copy stands = let none = at-empty {P = NetCopy} (tiles chip.grid) chip.vcs true r p i in cc

no_messages : (g : Grid) (data_vcs : ℕ) → replies_to_go g (no_replies g data_vcs) ≡ 0
unfolding replies_to_go
no_messages g data_vcs = weigh_none (reply_weight g) (no_replies g data_vcs) (λ r p i msg stands. absurd (no_msg r p i msg stands))
  where
    no_msg : (r p i : ℕ) (msg : Msg) → at (no_replies g data_vcs) r p i ≡ Some msg → ⊥
    no_msg r p i msg stands = let none = at-empty {P = Msg} (tiles g) data_vcs false r p i in cc

no_answers : (d : Doc) → answers_to_go (chip_of d) (opening d) ≡ 0
unfolding answers_to_go
no_answers d = omega arith

-- ---- each unit has its program to go
no_promises : (chip : Chip) (memory : List ℕ) (tile line : ℕ) → record_promises chip.grid tile (record_at chip tile memory line) ≡ 0
no_promises chip memory tile line = by (home chip line == tile)
  where
    by : (own : Bool) → record_promises chip.grid tile (if own then Some (opening_record (words_at memory line)) else None) ≡ 0
    by true = refl
    by false = refl

unit_opens : (chip : Chip) (tile : ℕ) (program : List Instr) (memory : List ℕ)
    → unit_to_go chip (opening_unit chip tile program memory) ≤ per_instruction chip * length program + per_instruction chip
unfolding node_to_go core_to_go
unit_opens chip tile program memory =
    let unit = opening_unit chip tile program memory in
    let records = sum_map (record_promises chip.grid tile) (record_at chip tile memory) (upwards 0 chip.lines) in
    let none =
    sum_none (λ line. record_promises chip.grid tile (record_at chip tile memory line)) (upwards 0 chip.lines)
    (λ k line there. no_promises chip memory tile line) in
    let rest : instructions_to_go chip unit ≤ per_instruction chip * (length program - 0) = instructions_le chip unit in
    let whole : length program - 0 ≡ length program = omega arith in
    let price = ap (λ (n : ℕ). per_instruction chip * n) whole in
    omega arith

pub opening_below : (d : Doc) → measure (chip_of d) (opening d) ≤ bound d
opening_below d =
    let chip = chip_of d in
    let n = tile_count chip in
    let requests = no_requests chip in
    let messages = no_messages chip.grid d.data_vcs in
    let answers = no_answers d in
    let units = sum_map (unit_to_go chip) (λ tile. opening_unit chip tile (program_of d tile) d.memory) (upwards 0 n) in
    let priced =
    sum_priced (λ tile. unit_to_go chip (opening_unit chip tile (program_of d tile) d.memory)) (λ tile. length (program_of d tile)) (per_instruction chip)
    (upwards 0 n) (λ tile. unit_opens chip tile (program_of d tile) d.memory) in
    let programs = mul-le-mul_left (per_instruction chip) (sum_at (length {A = Instr}) [] d.programs n refl) in
    let tiles_are = ap (λ (count : ℕ). per_instruction chip * count) (length-upwards 0 n) in
    let price : per_instruction chip ≡ 6 * n + 2 * d.window + 2 * diameter chip.grid + 8 = omega arith in
    let product = mul-add (per_instruction chip) (sum_by length d.programs) n in
    let turned = mul_comm (per_instruction chip) (sum_by length d.programs + n) in
    let whole = ap (λ (price : ℕ). (sum_by length d.programs + n) * price) price in
    omega arith
