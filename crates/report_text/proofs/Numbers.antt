-- Numbers below 100, as words.
use Rattle.std.proofs.Common.{◌≡◌, ℕ, ◌+◌, ◌-◌, ◌*◌, ◌/◌, ◌%◌, ◌<◌, ◌≤◌, Bool, true, false, ◌&&◌, leb, cond, List, [], ◌∷◌, ◌++◌, length, Option, Some, None, refl, sym, ap, ◌∙◌, arith, inl, inr}
use Rattle.std.specs.Char.{is_ascii_digit}
use Rattle.std.specs.Fmt.{decimal}
use Rattle.std.proofs.lemmas.Bool.{cases_lt, le-leb, leb-true, ne_eqb}
use Rattle.std.proofs.lemmas.Fmt.{decimal_digit, decimal_step}
use Rattle.std.proofs.lemmas.Nat.{div-mul-add, mod-mul-add, div-add-mod'}
use Rattle.report_text.specs.Scanning.{number_said, at_most_said}

pub and_true-left : (a b : Bool) → (a && b) ≡ true → a ≡ true
and_true-left true b e = refl
and_true-left false b e = e

pub and_true-right : (a b : Bool) → (a && b) ≡ true → b ≡ true
and_true-right true b e = e
and_true-right false b e = absurd cc

some_inverse : (a b : ℕ) → Some a ≡ Some b → a ≡ b
some_inverse a b e = cc

-- a digit's byte
digit_low : (a : ℕ) → is_ascii_digit a ≡ true → 48 ≤ a
digit_low a e = leb-true 48 a (and_true-left _ _ e)

digit_high : (a : ℕ) → is_ascii_digit a ≡ true → a ≤ 57
digit_high a e = leb-true a 57 (and_true-right _ _ e)

is_ascii_digit-add : (n : ℕ) → n < 10 → is_ascii_digit (48 + n) ≡ true
is_ascii_digit-add n h = rw (le-leb 48 (48 + n) (omega arith), le-leb (48 + n) 57 (omega arith)) refl

-- a number of two digits
decimal-two : (n : ℕ) → 10 ≤ n → n < 100 → decimal n ≡ (48 + n / 10) ∷ (48 + n % 10) ∷ []
decimal-two n low high =
    let tens : n / 10 < 10 = omega (arith, div-add-mod' n 10) in
    decimal_step n low (omega arith) ∙ ap (λ (ds : List ℕ). ds ++ ((48 + n % 10) ∷ [])) (decimal_digit (n / 10) tens)

-- a number is read from its own word
number_said-digit : (n : ℕ) → n < 10 → number_said ((48 + n) ∷ []) ≡ Some n
unfolding number_said
number_said-digit n h = rw (is_ascii_digit-add n h) (ap (λ (m : ℕ). Some m) (omega arith))

number_said-digits : (t o : ℕ) → 0 < t → t < 10 → o < 10 → number_said ((48 + t) ∷ (48 + o) ∷ []) ≡ Some (t * 10 + o)
unfolding number_said
number_said-digits t o some ht ho =
    rw (le-leb 49 (48 + t) (omega arith), le-leb (48 + t) 57 (omega arith), is_ascii_digit-add o ho) (ap (λ (m : ℕ). Some m) (omega arith))

pub number_said-decimal : (n : ℕ) → n < 100 → number_said (decimal n) ≡ Some n
number_said-decimal n h =
    elim (cases_lt n 10) [
      | inl lt ↦ ap number_said (decimal_digit n lt) ∙ number_said-digit n lt
      | inr le ↦
          let split = div-add-mod' n 10 in
          ap number_said (decimal-two n le h)
          ∙ number_said-digits (n / 10) (n % 10) (omega (arith, split)) (omega (arith, split)) (omega arith)
          ∙ ap (λ (m : ℕ). Some m) split
    ]

-- what a word is from which a number is read
pub record IsWordOf (word : List ℕ) (n : ℕ) : Type 0 where
  pub small : n < 100
  pub text : word ≡ decimal n

said_by_digit : (a n : ℕ) (b : Bool) → is_ascii_digit a ≡ b → cond b (Some (a - 48)) None ≡ Some n → IsWordOf (a ∷ []) n
said_by_digit a n true digit e =
    let low = digit_low a digit in
    let high = digit_high a digit in
    let same = some_inverse _ _ e in
    let n_small : n < 10 = omega (arith, same, low, high) in
    let a_is : a ≡ 48 + n = omega (arith, same, low) in
    record { small = omega arith; text = ap (λ (x : ℕ). x ∷ []) a_is ∙ sym (decimal_digit n n_small) }
said_by_digit a n false digit e = absurd cc

said_by_digits : (a c n : ℕ) (b : Bool) → (leb 49 a && (leb a 57 && is_ascii_digit c)) ≡ b → cond b (Some ((a - 48) * 10 + (c - 48))) None ≡ Some n → IsWordOf (a ∷ c ∷ []) n
said_by_digits a c n true digits e =
    let rest = and_true-right (leb 49 a) (leb a 57 && is_ascii_digit c) digits in
    let a_low : 49 ≤ a = leb-true 49 a (and_true-left (leb 49 a) (leb a 57 && is_ascii_digit c) digits) in
    let a_high : a ≤ 57 = leb-true a 57 (and_true-left (leb a 57) (is_ascii_digit c) rest) in
    let digit : is_ascii_digit c ≡ true = and_true-right (leb a 57) (is_ascii_digit c) rest in
    let c_low : 48 ≤ c = digit_low c digit in
    let c_high : c ≤ 57 = digit_high c digit in
    let same = some_inverse _ _ e in
    let ones : c - 48 < 10 = omega arith in
    let tens : (a - 48) * 10 + (c - 48) < 100 = omega arith in
    let low : 10 ≤ n = omega arith in
    let high : n < 100 = omega arith in
    let first : 48 + n / 10 ≡ a = ap (λ (m : ℕ). 48 + m / 10) (sym same) ∙ ap (λ (m : ℕ). 48 + m) (div-mul-add (a - 48) 10 (c - 48) ones) ∙ omega arith in
    let second : 48 + n % 10 ≡ c = ap (λ (m : ℕ). 48 + m % 10) (sym same) ∙ ap (λ (m : ℕ). 48 + m) (mod-mul-add (a - 48) 10 (c - 48) ones) ∙ omega arith in
    record { small = high; text = sym (decimal-two n low high ∙ ap (λ (x : ℕ). x ∷ (48 + n % 10) ∷ []) first ∙ ap (λ (x : ℕ). a ∷ x ∷ []) second) }
said_by_digits a c n false digits e = absurd cc

number_said-long : (a c d : ℕ) (rest : List ℕ) → number_said (a ∷ c ∷ d ∷ rest) ≡ None
unfolding number_said
number_said-long a c d rest = rw (ne_eqb (length (a ∷ c ∷ d ∷ rest)) 1 (λ e. omega arith), ne_eqb (length (a ∷ c ∷ d ∷ rest)) 2 (λ e. omega arith)) refl

pub none_some : {X : Type 0} (x : X) → None ≡ Some x → ⊥
none_some x e = absurd cc

pub decimal-number_said : (word : List ℕ) (n : ℕ) → number_said word ≡ Some n → IsWordOf word n
unfolding number_said
decimal-number_said [] n e = absurd cc
decimal-number_said (a ∷ []) n e = said_by_digit a n (is_ascii_digit a) refl e
decimal-number_said (a ∷ c ∷ []) n e = said_by_digits a c n (leb 49 a && (leb a 57 && is_ascii_digit c)) refl e
decimal-number_said (a ∷ c ∷ d ∷ rest) n e = absurd (none_some n (sym (number_said-long a c d rest) ∙ e))

-- ---- up to a limit

pub record IsWordUpTo (limit : ℕ) (word : List ℕ) (n : ℕ) : Type 0 where
  pub within : n ≤ limit
  pub text : word ≡ decimal n

at_most : (limit n m : ℕ) (b : Bool) → leb m limit ≡ b → cond b (Some m) None ≡ Some n → (m ≡ n) × (n ≤ limit)
at_most limit n m true le e =
    let same = some_inverse _ _ e in
    (same, omega (arith, same, leb-true m limit le))
at_most limit n m false le e = absurd cc

up_to : (limit : ℕ) (word : List ℕ) (n : ℕ) (o : Option ℕ) → number_said word ≡ o → at_most_said limit o ≡ Some n → IsWordUpTo limit word n
up_to limit word n None said e = absurd cc
up_to limit word n (Some m) said e =
    let found = at_most limit n m (leb m limit) refl e in
    let own = decimal-number_said word m said in
    record { within = found.1; text = own.text ∙ ap decimal found.0 }

pub decimal-up_to : (limit : ℕ) (word : List ℕ) (n : ℕ) → at_most_said limit (number_said word) ≡ Some n → IsWordUpTo limit word n
decimal-up_to limit word n e = up_to limit word n (number_said word) refl e

pub up_to-decimal : (limit n : ℕ) → n ≤ limit → n < 100 → at_most_said limit (number_said (decimal n)) ≡ Some n
up_to-decimal limit n le h = ap (at_most_said limit) (number_said-decimal n h) ∙ rw (le-leb n limit le) refl
