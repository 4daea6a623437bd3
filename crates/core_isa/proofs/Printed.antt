-- The line of an instruction, read again.
use Rattle.std.proofs.Common.{◌≡◌, ℕ, ◌+◌, ◌^◌, ◌<◌, ◌≤◌, true, false, not, List, [], ◌∷◌, ◌++◌, length, suc, lit<, lit≤, map, All, Some, None, refl, ap, arith}
use Rattle.std.specs.List.{flat_map, zip, AllByRecursion}
use Rattle.std.specs.Char.{is_ascii_digit}
use Rattle.std.specs.Fmt.{decimal}
use Rattle.std.specs.Str.{all_ascii_digits}
use Rattle.std.proofs.lemmas.Bool.{lt-ltb, le-leb, leb-true, lt-leb, eq-eqb}
use Rattle.std.proofs.lemmas.Fmt.{decimal_digit, digits_decimal, digits_value-decimal, decimal_nonempty}
use Rattle.core_isa.specs.declared.instr.Instr.{Instr}
use Rattle.core_isa.specs.declared.instr.Instr.TheVariants.{Li, Add, Sub, Addi, Ld, St, Swap, Fadd, Beq, Bne, Jmp, Tid, Halt}
use Rattle.core_isa.specs.Program.{IsWithin, limit}
use Rattle.core_isa.specs.Lines.{Line, is_label, is_line_feed, source_line}
use Rattle.core_isa.specs.Opcodes.{Shape, Register, Number, Target, form_of, opcode_named, opcode_of, operands_of, instr_with}
use Rattle.core_isa.specs.Operands.{Scope, is_operand, operand_value, fault_kind}
use Rattle.core_isa.specs.Assembly.{first_failing, operand_values, fault_of, instr_of}
use Rattle.core_isa.specs.Printing.{operand_text, text_of}
use Rattle.core_isa.specs.Reading.{IsValue, AreValues}
use Rattle.core_isa.proofs.Digits.{numerals, and_true-left, and_true-right}
use Rattle.core_isa.proofs.Words.{IsWord, spaced, plain_line, source_line-spaced, one_line}

-- an instruction is made of its opcode and its operands
pub instr_with-operands : (i : Instr) → instr_with (opcode_of i) (operands_of i) ≡ i
instr_with-operands (Li rd n) = refl
instr_with-operands (Add rd ra rb) = refl
instr_with-operands (Sub rd ra rb) = refl
instr_with-operands (Addi rd ra n) = refl
instr_with-operands (Ld rd ra n) = refl
instr_with-operands (St rs ra n) = refl
instr_with-operands (Swap rd ra n) = refl
instr_with-operands (Fadd rd ra n) = refl
instr_with-operands (Beq ra rb target) = refl
instr_with-operands (Bne ra rb target) = refl
instr_with-operands (Jmp target) = refl
instr_with-operands (Tid rd) = refl
instr_with-operands Halt = refl

pub values_of : (len : ℕ) (i : Instr) → IsWithin len i → AreValues len (form_of (opcode_of i)).shapes (operands_of i)
values_of len (Li rd n) h = (h.0, (h.1, tt))
values_of len (Add rd ra rb) h = (h.0, (h.1, (h.2, tt)))
values_of len (Sub rd ra rb) h = (h.0, (h.1, (h.2, tt)))
values_of len (Addi rd ra n) h = (h.0, (h.1, (h.2, tt)))
values_of len (Ld rd ra n) h = (h.0, (h.1, (h.2, tt)))
values_of len (St rs ra n) h = (h.0, (h.1, (h.2, tt)))
values_of len (Swap rd ra n) h = (h.0, (h.1, (h.2, tt)))
values_of len (Fadd rd ra n) h = (h.0, (h.1, (h.2, tt)))
values_of len (Beq ra rb target) h = (h.0, (h.1, (h.2, tt)))
values_of len (Bne ra rb target) h = (h.0, (h.1, (h.2, tt)))
values_of len (Jmp target) h = (h, tt)
values_of len (Tid rd) h = (h, tt)
values_of len Halt h = tt

-- the opcode's word names it and is no label
pub opcode_named-word : (i : Instr) → opcode_named (form_of (opcode_of i)).word ≡ Some (opcode_of i)
unfolding opcode_named
opcode_named-word (Li rd n) = refl
opcode_named-word (Add rd ra rb) = refl
opcode_named-word (Sub rd ra rb) = refl
opcode_named-word (Addi rd ra n) = refl
opcode_named-word (Ld rd ra n) = refl
opcode_named-word (St rs ra n) = refl
opcode_named-word (Swap rd ra n) = refl
opcode_named-word (Fadd rd ra n) = refl
opcode_named-word (Beq ra rb target) = refl
opcode_named-word (Bne ra rb target) = refl
opcode_named-word (Jmp target) = refl
opcode_named-word (Tid rd) = refl
opcode_named-word Halt = refl

pub is_label-word : (i : Instr) → is_label (form_of (opcode_of i)).word ≡ false
is_label-word (Li rd n) = refl
is_label-word (Add rd ra rb) = refl
is_label-word (Sub rd ra rb) = refl
is_label-word (Addi rd ra n) = refl
is_label-word (Ld rd ra n) = refl
is_label-word (St rs ra n) = refl
is_label-word (Swap rd ra n) = refl
is_label-word (Fadd rd ra n) = refl
is_label-word (Beq ra rb target) = refl
is_label-word (Bne ra rb target) = refl
is_label-word (Jmp target) = refl
is_label-word (Tid rd) = refl
is_label-word Halt = refl

word_word : (i : Instr) → IsWord (form_of (opcode_of i)).word
word_word (Li rd n) = record { filled = lit< tt; plain = (lit≤ tt, (lit≤ tt, tt)) }
word_word (Add rd ra rb) = record { filled = lit< tt; plain = (lit≤ tt, (lit≤ tt, (lit≤ tt, tt))) }
word_word (Sub rd ra rb) = record { filled = lit< tt; plain = (lit≤ tt, (lit≤ tt, (lit≤ tt, tt))) }
word_word (Addi rd ra n) = record { filled = lit< tt; plain = (lit≤ tt, (lit≤ tt, (lit≤ tt, (lit≤ tt, tt)))) }
word_word (Ld rd ra n) = record { filled = lit< tt; plain = (lit≤ tt, (lit≤ tt, tt)) }
word_word (St rs ra n) = record { filled = lit< tt; plain = (lit≤ tt, (lit≤ tt, tt)) }
word_word (Swap rd ra n) = record { filled = lit< tt; plain = (lit≤ tt, (lit≤ tt, (lit≤ tt, (lit≤ tt, tt)))) }
word_word (Fadd rd ra n) = record { filled = lit< tt; plain = (lit≤ tt, (lit≤ tt, (lit≤ tt, (lit≤ tt, tt)))) }
word_word (Beq ra rb target) = record { filled = lit< tt; plain = (lit≤ tt, (lit≤ tt, (lit≤ tt, tt))) }
word_word (Bne ra rb target) = record { filled = lit< tt; plain = (lit≤ tt, (lit≤ tt, (lit≤ tt, tt))) }
word_word (Jmp target) = record { filled = lit< tt; plain = (lit≤ tt, (lit≤ tt, (lit≤ tt, tt))) }
word_word (Tid rd) = record { filled = lit< tt; plain = (lit≤ tt, (lit≤ tt, (lit≤ tt, tt))) }
word_word Halt = record { filled = lit< tt; plain = (lit≤ tt, (lit≤ tt, (lit≤ tt, (lit≤ tt, tt)))) }

-- ---- operands

plain_digit : (byte : ℕ) → is_ascii_digit byte ≡ true → 36 ≤ byte
plain_digit byte e = omega (arith, leb-true 48 byte (and_true-left _ _ e))

plain_digits : (word : List ℕ) → all_ascii_digits word ≡ true → AllByRecursion (λ byte. 36 ≤ byte) word
plain_digits [] e = tt
plain_digits (byte ∷ rest) e = (plain_digit byte (and_true-left _ _ e), plain_digits rest (and_true-right _ _ e))

decimal_word : (n : ℕ) → n < 2 ^ 64 → IsWord (decimal n)
decimal_word n small = record { filled = decimal_nonempty n small; plain = plain_digits (decimal n) (digits_decimal numerals n small) }

-- a byte and a number after it
marked_word : (mark n : ℕ) → 36 ≤ mark → n < 2 ^ 64 → IsWord (mark ∷ decimal n)
marked_word mark n h small = record { filled = omega arith; plain = (h, (decimal_word n small).plain) }

small_value : (len : ℕ) (shape : Shape) (v : ℕ) → len ≤ limit → IsValue len shape v → v < 2 ^ 64
small_value len Register v le h = omega arith
small_value len Number v le h = omega arith
small_value len Target v le h = omega arith

operand_word : (len : ℕ) (shape : Shape) (v : ℕ) → len ≤ limit → IsValue len shape v → IsWord (operand_text shape v)
operand_word len Register v le h = marked_word 114 v (lit≤ tt) (small_value len Register v le h)
operand_word len Number v le h = decimal_word v (small_value len Number v le h)
operand_word len Target v le h = marked_word 64 v (lit≤ tt) (small_value len Target v le h)

operand_again : (whole : Scope) (shape : Shape) (v : ℕ) → whole.count ≤ limit → IsValue whole.count shape v → (is_operand whole shape (operand_text shape v) ≡ true) × (operand_value whole shape (operand_text shape v) ≡ v)
operand_again whole Register v le h =
    (rw (decimal_digit v (omega arith), le-leb 48 (48 + v) (omega arith), lt-ltb (48 + v) 56 (omega arith)) refl, rw (decimal_digit v (omega arith)) (omega arith))
operand_again whole Number v le h =
    let small = small_value whole.count Number v le h in
    (rw (lt-ltb 0 (length (decimal v)) (decimal_nonempty v small), digits_decimal numerals v small, digits_value-decimal numerals v small, lt-ltb v (2 ^ 32) h) refl, digits_value-decimal numerals v small)
operand_again whole Target v le h =
    let small = small_value whole.count Target v le h in
    (rw (lt-ltb 0 (length (decimal v)) (decimal_nonempty v small), digits_decimal numerals v small, digits_value-decimal numerals v small, le-leb v whole.count h) refl, digits_value-decimal numerals v small)

abbrev texts_of : List Shape → List ℕ → List (List ℕ)
texts_of shapes values = map (λ p. operand_text p.0 p.1) (zip shapes values)

-- the printed operands have no fault and these values
record AreRead (whole : Scope) (shapes : List Shape) (values : List ℕ) (texts : List (List ℕ)) : Type 0 where
  counted : length texts ≡ length shapes
  faultless : first_failing (map (λ p. record { fails = not (is_operand whole p.0 p.1); kind = fault_kind p.0 }) (zip shapes texts)) ≡ None
  valued : operand_values whole shapes texts ≡ values
  words : AllByRecursion IsWord texts

operands_again : (whole : Scope) (shapes : List Shape) (values : List ℕ) → whole.count ≤ limit → AreValues whole.count shapes values → AreRead whole shapes values (texts_of shapes values)
operands_again whole [] [] le h = record { counted = refl; faultless = refl; valued = refl; words = tt }
operands_again whole [] (v ∷ values) le h = absurd h
operands_again whole (shape ∷ shapes) [] le h = absurd h
operands_again whole (shape ∷ shapes) (v ∷ values) le h =
    let first = operand_again whole shape v le h.0 in
    let rest = operands_again whole shapes values le h.1 in
    record {
      counted = ap (λ (n : ℕ). suc n) rest.counted;
      faultless = rw first.0 rest.faultless;
      valued = rw (first.1, rest.valued) refl;
      words = (operand_word whole.count shape v le h.0, rest.words);
    }

texts_are : (pairs : List (Shape × ℕ)) → flat_map (λ p. 32 ∷ operand_text p.0 p.1) pairs ≡ flat_map (λ next. 32 ∷ next) (map (λ p. operand_text p.0 p.1) pairs)
texts_are [] = refl
texts_are (p ∷ pairs) = ap (λ (rest : List ℕ). (32 ∷ operand_text p.0 p.1) ++ rest) (texts_are pairs)

-- ---- a line

abbrev pub words_in : Instr → List (List ℕ)
words_in i = texts_of (form_of (opcode_of i)).shapes (operands_of i)

abbrev pub body_of : Instr → List ℕ
body_of i = spaced (form_of (opcode_of i)).word (words_in i)

abbrev pub line_in : Instr → Line
line_in i = plain_line ((form_of (opcode_of i)).word ∷ words_in i)

pub text_of-body : (i : Instr) → text_of i ≡ body_of i ++ 10 ∷ []
text_of-body i = ap (λ (texts : List ℕ). (form_of (opcode_of i)).word ++ texts ++ 10 ∷ []) (texts_are (zip (form_of (opcode_of i)).shapes (operands_of i)))

abbrev nowhere : ℕ → Scope
nowhere len = record { places = λ name. None; count = len }

words_plain : (len : ℕ) (i : Instr) → len ≤ limit → IsWithin len i → AllByRecursion IsWord (words_in i)
words_plain len i le h = (operands_again (nowhere len) (form_of (opcode_of i)).shapes (operands_of i) le (values_of len i h)).words

pub body_line : (len : ℕ) (i : Instr) → len ≤ limit → IsWithin len i → All (λ byte. is_line_feed byte ≡ false) (body_of i)
body_line len i le h = one_line (form_of (opcode_of i)).word (words_in i) (word_word i) (words_plain len i le h)

pub source_line-body : (len : ℕ) (i : Instr) → len ≤ limit → IsWithin len i → source_line (body_of i) ≡ line_in i
source_line-body len i le h = source_line-spaced (form_of (opcode_of i)).word (words_in i) (word_word i) (words_plain len i le h) (is_label-word i)

-- the line has no fault where the program has room for it
pub fault_of-line_in : (whole before : Scope) (i : Instr) → whole.count ≤ limit → IsWithin whole.count i → before.count < limit → fault_of whole before (line_in i) ≡ None
unfolding fault_of
fault_of-line_in whole before i le h room =
    let read = operands_again whole (form_of (opcode_of i)).shapes (operands_of i) le (values_of whole.count i h) in
    rw (opcode_named-word i, lt-leb limit before.count room, eq-eqb (length (words_in i)) (length (form_of (opcode_of i)).shapes) read.counted) read.faultless

-- and its instruction is the one that was printed
pub instr_of-line_in : (whole : Scope) (i : Instr) → whole.count ≤ limit → IsWithin whole.count i → instr_of whole (line_in i) ≡ Some i
unfolding instr_of
instr_of-line_in whole i le h =
    let read = operands_again whole (form_of (opcode_of i)).shapes (operands_of i) le (values_of whole.count i h) in
    rw (opcode_named-word i, read.valued) (ap (λ (x : Instr). Some x) (instr_with-operands i))
