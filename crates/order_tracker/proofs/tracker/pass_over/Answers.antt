use Rattle.std.proofs.Common.{◌≡◌, ℕ, ◌+◌, ◌≤◌, List, ◌∷◌, length, drop, sym, ◌∙◌, ap, arith, length-drop}
use Rattle.std.proofs.lemmas.List.{take_all}
use Rattle.circular_buffer.specs.Buffer.{Buffer}
use Rattle.order_tracker.specs.Order.{order_from}
use Rattle.order_tracker.specs.Tracker.{IsWindow}
use Rattle.order_tracker.proofs.Fronts.{front_is, first_all, left_is, left_is_last}
use Rattle.order_tracker.proofs.tracker.pass_over.Goals as goal

pub returns-then-rest-eq0-clause-left : goal.returns-then-rest-eq0-clause-left
returns-then-rest-eq0-clause-left c =
    let front = sym c.in-Some.ensures.value in
    let small = (first_all (IsWindow c.args.tiles) _ _ c.requires.windows front).inside in
    let tail_is : c.pop_front.new.self.items ≡ drop 1 c.args.windows.now.items = ap (λ (b : Buffer ℕ). b.items) c.pop_front.ensures.items in
    let loses = rw c.if-rest-eq0.true at c.without-rest.ensures.tiles in
    ap (λ (ws : List ℕ). order_from c.args.tiles c.args.number.now ws) (front_is _ _ front)
    ∙ left_is_last c.args.tiles c.args.number.now c.in-Some.window c.source_of-source.result _ c.requires.tiles.0 c.requires.tiles.1 small c.source_of-source.ensures.first loses
    ∙ ap (λ (ws : List ℕ). c.source_of-source.result ∷ order_from c.args.tiles (c.args.number.now + 1) ws) (sym tail_is)

pub returns-else-rest-eq0-clause-left : goal.returns-else-rest-eq0-clause-left
returns-else-rest-eq0-clause-left c =
    let front = sym c.in-Some.ensures.value in
    let small = (first_all (IsWindow c.args.tiles) _ _ c.requires.windows front).inside in
    let tail_is : c.pop_front.new.self.items ≡ drop 1 c.args.windows.now.items = ap (λ (b : Buffer ℕ). b.items) c.pop_front.ensures.items in
    let room_is : c.pop_front.new.self.capacity ≡ c.args.windows.now.capacity = ap (λ (b : Buffer ℕ). b.capacity) c.pop_front.ensures.items in
    let fits : length (c.without-rest.result ∷ c.pop_front.new.self.items) ≤ c.pop_front.new.self.capacity = omega (arith, ap length tail_is, length-drop 1 c.args.windows.now.items) in
    let pushed_is = ap (λ (b : Buffer ℕ). b.items) c.push_front.ensures.items ∙ take_all _ _ fits ∙ ap (λ (ws : List ℕ). c.without-rest.result ∷ ws) tail_is in
    ap (λ (ws : List ℕ). order_from c.args.tiles c.args.number.now ws) (front_is _ _ front)
    ∙ left_is c.args.tiles c.args.number.now c.in-Some.window c.source_of-source.result _ c.requires.tiles.0 c.requires.tiles.1 small c.source_of-source.ensures.first c.without-rest.result c.without-rest.ensures.tiles
    ∙ ap (λ (ws : List ℕ). c.source_of-source.result ∷ order_from c.args.tiles c.args.number.now ws) (sym pushed_is)
