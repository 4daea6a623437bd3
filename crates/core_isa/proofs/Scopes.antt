-- The labels and the instructions of lines, one line after another.
use Rattle.std.proofs.Common.{◌≡◌, ℕ, ◌+◌, ◌≤◌, Bool, true, false, cond, List, [], ◌∷◌, ◌++◌, length, Option, Some, None, refl, sym, ap, ◌∙◌, arith}
use Rattle.std.proofs.Math.Path.{fun_ext, ap₂}
use Rattle.std.specs.Option.{option_or}
use Rattle.std.proofs.lemmas.List.Sums.{sum_by-cons, sum_by_push, count_by-le-length}
use Rattle.core_isa.specs.Program.{limit}
use Rattle.core_isa.specs.Lines.{Line, has_instruction, instruction_count}
use Rattle.core_isa.specs.Operands.{Scope, is_borne, place_from, scope_of}
use Rattle.core_isa.specs.LabelsSeen.{with_line}
use Rattle.core_isa.specs.Reading.{IsExact}

-- a number, and one more where an instruction stands
abbrev pub counted : Bool → ℕ → ℕ
counted more n = cond more (n + 1) n

one_before : (more : Bool) (n : ℕ) → cond more 1 0 + n ≡ counted more n
one_before true n = omega arith
one_before false n = omega arith

counted-one : (more : Bool) (n : ℕ) → n + cond more 1 0 ≡ counted more n
counted-one true n = refl
counted-one false n = omega arith

counted-add : (more : Bool) (place n : ℕ) → counted more place + n ≡ place + counted more n
counted-add true place n = omega arith
counted-add false place n = refl

pub instruction_count-cons : (line : Line) (lines : List Line) → instruction_count (line ∷ lines) ≡ counted (has_instruction line) (instruction_count lines)
instruction_count-cons line lines = sum_by-cons (λ l. cond (has_instruction l) 1 0) line lines ∙ one_before (has_instruction line) (instruction_count lines)

pub instruction_count-push : (lines : List Line) (line : Line) → instruction_count (lines ++ line ∷ []) ≡ counted (has_instruction line) (instruction_count lines)
instruction_count-push lines line = sum_by_push (λ l. cond (has_instruction l) 1 0) lines line ∙ counted-one (has_instruction line) (instruction_count lines)

-- the place after the first line, and the instructions of the rest
after_the_first : (place : ℕ) (first : Line) (rest : List Line) → counted (has_instruction first) place + instruction_count rest ≡ place + instruction_count (first ∷ rest)
after_the_first place first rest = counted-add (has_instruction first) place (instruction_count rest) ∙ ap (λ (n : ℕ). place + n) (sym (instruction_count-cons first rest))

pick_or : (found : Bool) (place : ℕ) (o p : Option ℕ) (q : Option ℕ) → o ≡ option_or p q → cond found (Some place) o ≡ option_or (cond found (Some place) p) q
pick_or true place o p q e = refl
pick_or false place o p q e = e

place_from-push : (place : ℕ) (name : List ℕ) (lines : List Line) (line : Line)
    → place_from place name (lines ++ line ∷ []) ≡ option_or (place_from place name lines) (cond (is_borne name line.label) (Some (place + instruction_count lines)) None)
place_from-push place name [] line = ap (λ (n : ℕ). cond (is_borne name line.label) (Some n) None) (omega arith)
place_from-push place name (first ∷ rest) line =
    pick_or (is_borne name first.label) place _ (place_from (counted (has_instruction first) place) name rest) _
    (place_from-push (counted (has_instruction first) place) name rest line ∙ ap (λ (n : ℕ). option_or (place_from (counted (has_instruction first) place) name rest) (cond (is_borne name line.label) (Some n) None)) (after_the_first place first rest))

abbrev scope_with : (List ℕ → Option ℕ) → ℕ → Scope
scope_with places count = record { places = places; count = count }

pub scope_of-push : (lines : List Line) (line : Line) → scope_of (lines ++ line ∷ []) ≡ with_line (scope_of lines) line
scope_of-push lines line =
    ap₂ scope_with (fun_ext (λ name. place_from-push 0 name lines line ∙ ap (λ (n : ℕ). option_or (place_from 0 name lines) (cond (is_borne name line.label) (Some n) None)) (omega arith))) (instruction_count-push lines line)

pub instruction_count-le : (lines : List Line) → instruction_count lines ≤ length lines
instruction_count-le lines = count_by-le-length has_instruction lines

some_is : (m n : ℕ) → Some m ≡ Some n → m ≡ n
some_is m n e = cc

placed_within : (place : ℕ) (name : List ℕ) (lines : List Line) (found : ℕ) → place_from place name lines ≡ Some found → found ≤ place + instruction_count lines
placed_within place name [] found e = absurd cc
placed_within place name (first ∷ rest) found e =
    let go : (here : Bool) → cond here (Some place) (place_from (counted (has_instruction first) place) name rest) ≡ Some found → found ≤ place + instruction_count (first ∷ rest) = λ here. elim here as (λ b. cond b (Some place) (place_from (counted (has_instruction first) place) name rest) ≡ Some found → found ≤ place + instruction_count (first ∷ rest)) [
      | true ↦ λ h. let same = some_is place found h in omega (arith, same)
      | false ↦ λ h. let below = placed_within (counted (has_instruction first) place) name rest found h in let sum = after_the_first place first rest in omega (arith, below, sum)
    ] in
    go (is_borne name first.label) e

-- the places of a program's text are those of a program
pub IsExact-scope_of : (lines : List Line) → instruction_count lines ≤ limit → IsExact (scope_of lines)
IsExact-scope_of lines h = record { placed = λ name place e. omega (arith, placed_within 0 name lines place e); small = omega arith }
