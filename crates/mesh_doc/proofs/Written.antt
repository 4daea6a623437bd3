-- From bytes to tables, and from tables to values.
use Rattle.std.proofs.Common.{◌≡◌, ℕ, Bool, true, false, if◌then◌else◌, List, Option, Some, None, IsUtf8, refl}
use Rattle.std.specs.Str.{is_utf8}
use Rattle.std.proofs.lemmas.Str.{IsUtf8-from_is_utf8, is_utf8-from_IsUtf8}
use Rattle.toml.specs.Data.{Members}
use Rattle.toml.specs.Parse.{parse_document}
use Rattle.mesh_doc.specs.Tables.{table_of}

pub table_of-written : (bytes : List ℕ) (top : Members) → IsUtf8 bytes → parse_document bytes ≡ Some top → table_of bytes ≡ Some top
unfolding table_of
table_of-written bytes top utf8 is = rw (is_utf8-from_IsUtf8 bytes utf8) is

none_if : (passes : Bool) (found : Option Members) → (passes ≡ true → found ≡ None) → (if passes then found else None) ≡ None
none_if true found none = none refl
none_if false found none = refl

pub table_of-unwritten : (bytes : List ℕ) → (IsUtf8 bytes → parse_document bytes ≡ None) → table_of bytes ≡ None
unfolding table_of
table_of-unwritten bytes none = none_if (is_utf8 bytes) (parse_document bytes) (λ passes. none (IsUtf8-from_is_utf8 bytes passes))
