-- A value and a text from which it is read.
use Rattle.std.proofs.Common.{◌≡◌, ℕ, true, List, ◌++◌, Some}
use Rattle.std.specs.List.{list_all}
use Rattle.std.specs.Char.{is_ascii}
use Rattle.toml_parser.specs.Lexical.{first}
use Rattle.toml.specs.Data.{Data}
use Rattle.toml.specs.Parse.{val}
use Rattle.toml.proofs.Blanks.{starts_value}
use Rattle.toml.proofs.ReadValues.{EndsValue}

-- the text is read as this value, where lists nest at most this deep
pub record IsValue (depth : ℕ) (d : Data) (text : List ℕ) : Type 0 where
  pub starts : (rest : List ℕ) → starts_value (first (text ++ rest)) ≡ true
  pub reads : (rest : List ℕ) → EndsValue rest → val depth (text ++ rest) ≡ Some (d, rest)
  pub ascii : list_all is_ascii text ≡ true
