-- Lines as the code keeps them, without where their bytes lie in memory.
use Rattle.std.specs.Prelude.{ℕ, List, map, Option, option_map}
use Rattle.std.specs.Borrow.{Bor}
use Rattle.core_isa.specs.declared.line.Line as code
use Rattle.core_isa.specs.Lines.{Line, lines_with}

-- the bytes of borrowed texts
abbrev pub texts_seen : List (Bor (List ℕ)) → List (List ℕ)
texts_seen texts = map (λ text. text.now) texts

-- the bytes of a label, if there is one
abbrev pub label_seen : Option (Bor (List ℕ)) → Option (List ℕ)
label_seen label = option_map (λ text. text.now) label

-- the line that the code's line is
abbrev pub line_seen : code.Line → Line
line_seen line = record { label = label_seen line.label; words = texts_seen line.words.items }

-- the lines of these texts
abbrev pub lines_seen : List (Bor (List ℕ)) → List Line
lines_seen raws = lines_with (texts_seen raws)
