-- The lines of a text, their words and their labels. A text is the list of its bytes.
use Rattle.std.specs.Prelude.{ℕ, ◌-◌, ◌==◌, Bool, false, not, ◌&&◌, ◌||◌, List, [], ◌∷◌, Option, Some, None, length, take, map, filter, count_by, slice_index, if◌then◌else◌, nat_lt}
use Rattle.std.specs.List.{slice_split, before_first, list_all}
use Rattle.std.specs.Char.{is_ascii_alphabetic, is_ascii_digit}

-- a line feed ends a line
abbrev pub is_line_feed : ℕ → Bool
is_line_feed byte = byte == 10

-- a `#` begins a comment, which ends with the line
abbrev pub is_comment_sign : ℕ → Bool
is_comment_sign byte = byte == 35

-- a space, a tab or a carriage return divides words
unfoldable pub is_white : ℕ → Bool
is_white byte = byte == 32 || byte == 9 || byte == 13

-- whether a part between white bytes is a word: it has some bytes
abbrev pub is_filled : List ℕ → Bool
is_filled word = not (length word == 0)

-- the words of a line: the parts between its white bytes, of what stands before the comment
unfoldable pub words_of : List ℕ → List (List ℕ)
words_of raw = filter is_filled (slice_split is_white (before_first is_comment_sign raw))

-- a line: the label that it bears, and its words besides the label, which are an instruction
pub record Line : Type 0 where
  pub label : Option (List ℕ)
  pub words : List (List ℕ)

-- a first word that ends in a colon is a label, without the colon
abbrev pub is_label : List ℕ → Bool
is_label word = slice_index word (length word - 1) == 58

-- the name of a label: its word without the colon
abbrev pub label_of : List ℕ → List ℕ
label_of word = take (length word - 1) word

-- the line of these words
abbrev pub line_with : List (List ℕ) → Line
line_with [] = record { label = None; words = [] }
line_with (word ∷ words) =
    if is_label word
    then record { label = Some (label_of word); words = words }
    else record { label = None; words = word ∷ words }

-- the line of a text that has no line feed
abbrev pub source_line : List ℕ → Line
source_line raw = line_with (words_of raw)

-- the lines of these texts
abbrev pub lines_with : List (List ℕ) → List Line
lines_with raws = map source_line raws

-- the lines of a text, from the first
abbrev pub lines_of : List ℕ → List Line
lines_of text = lines_with (slice_split is_line_feed text)

-- a name is a letter or `_`, and then letters, digits or `_`
abbrev pub begins_name : ℕ → Bool
begins_name byte = is_ascii_alphabetic byte || byte == 95

-- what may follow in a name
abbrev pub continues_name : ℕ → Bool
continues_name byte = begins_name byte || is_ascii_digit byte

-- whether a word is a name
abbrev pub is_name : List ℕ → Bool
is_name [] = false
is_name (byte ∷ bytes) = begins_name byte && list_all continues_name bytes

-- a line with a word besides its label counts as an instruction, also where it is bad
abbrev pub has_instruction : Line → Bool
has_instruction line = nat_lt 0 (length line.words)

-- how many lines have an instruction
abbrev pub instruction_count : List Line → ℕ
instruction_count lines = count_by has_instruction lines
