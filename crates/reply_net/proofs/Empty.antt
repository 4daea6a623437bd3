-- No message stands anywhere exactly where their number is 0.
use Rattle.std.proofs.Common.{◌≡◌, ℕ, zero, suc, ◌+◌, Bool, true, refl, ◌∙◌, ap, arith, Option, Some, None, List, [], ◌∷◌, ◌↔◌}
use Rattle.std.specs.Prelude.{◌==◌, ◌&&◌, is_none}
use Rattle.std.specs.List.{list_all}
use Rattle.std.proofs.Common.{eq-eqb}
use Rattle.std.proofs.lemmas.Bool.{eqb-true}
use Rattle.std.proofs.lemmas.Bool.Decides.{nat_tests}
use Rattle.mesh_gen.specs.declared.msg.Msg.{Msg}
use Rattle.vc_bank.specs.Places.{Network, at, weigh, weight, sum_from}
use Rattle.vc_bank.proofs.PlaceLaws.{weigh_at, weigh_none}
use Rattle.chip_model.specs.Replies.{is_empty}
use Rattle.reply_net.specs.ReplyNetwork.{message_count}

both_zero : (a b : ℕ) → (a + b == 0) ≡ ((a == 0) && (b == 0))
both_zero zero b = rw (zero_plus b)
  where
    zero_plus : (b : ℕ) → 0 + b ≡ b
    zero_plus b = omega arith
both_zero (suc a) b = grind (arith, nat_tests)

sum_from-zero : {X : Type 0} (f : ℕ → X → ℕ) (test : X → Bool) → ((n : ℕ) (x : X) → (f n x == 0) ≡ test x) → (n : ℕ) (xs : List X) → (sum_from f n xs == 0) ≡ list_all test xs
sum_from-zero f test each n [] = refl
sum_from-zero f test each n (x ∷ xs) =
    both_zero (f n x) (sum_from f (suc n) xs)
    ∙ ap (λ (b : Bool). b && (sum_from f (suc n) xs == 0)) (each n x)
    ∙ ap (λ (b : Bool). test x && b) (sum_from-zero f test each (suc n) xs)

one_or_none : (packet : Option Msg) → (weight (λ msg. 1) packet == 0) ≡ is_none packet
one_or_none None = refl
one_or_none (Some msg) = refl

pub is_empty-count : (net : Network Msg) → (message_count net == 0) ≡ is_empty net
unfolding weigh
is_empty-count net =
    sum_from-zero _ _ (λ r bank. sum_from-zero _ _ (λ p slots. sum_from-zero _ _ (λ i packet. one_or_none packet) 0 slots) 0 bank) 0 net

pub none_stands : (net : Network Msg) (count : ℕ) → count ≡ message_count net → ((count == 0) ≡ true) ↔ ((r p i : ℕ) → at net r p i ≡ None)
none_stands net count is = (
  (λ zero_count r p i. nothing (at net r p i) (λ msg stands. let one = weigh_at (λ router port slot msg. 1) net r p i msg stands in let none = eqb-true count 0 zero_count in omega arith)),
  (λ none. eq-eqb count 0 (is ∙ weigh_none (λ router port slot msg. 1) net (λ r p i msg stands. absurd (clash (at net r p i) msg (none r p i) stands)))),
)
  where
    nothing : (packet : Option Msg) → ((msg : Msg) → packet ≡ Some msg → ⊥) → packet ≡ None
    nothing None never = refl
    nothing (Some msg) never = absurd (never msg refl)

    clash : (packet : Option Msg) (msg : Msg) → packet ≡ None → packet ≡ Some msg → ⊥
    clash packet msg none some = cc
