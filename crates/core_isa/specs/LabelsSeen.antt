-- The labels and the instructions of the lines so far, as the code keeps them, and what one more line adds.
use Rattle.std.specs.Prelude.{ℕ, ◌+◌, List, Option, Some, None, if◌then◌else◌}
use Rattle.std.specs.Option.{option_or}
use Rattle.std.specs.BTreeMap.{BTreeMap, get_by}
use Rattle.std.specs.Borrow.{Bor}
use Rattle.std.specs.Cmp.Lexicographic.{slice_cmp}
use Rattle.std.specs.Ordering.{nat_cmp}
use Rattle.core_isa.specs.declared.labels.Labels as code
use Rattle.core_isa.specs.Lines.{Line, has_instruction}
use Rattle.core_isa.specs.Operands.{Scope, is_borne}

-- the place that a map has for a name
unfoldable pub places_seen : BTreeMap (Bor (List ℕ)) ℕ → List ℕ → Option ℕ
places_seen places name = get_by (λ label. slice_cmp nat_cmp name label.now) places

-- the scope that the code's labels are
abbrev pub scope_seen : code.Labels → Scope
scope_seen labels = record { places = places_seen labels.places; count = labels.count }

-- the places with that of one more label, unless it has one already
abbrev pub with_label : (List ℕ → Option ℕ) → Option (List ℕ) → ℕ → List ℕ → Option ℕ
with_label places label place name = option_or (places name) (if is_borne name label then Some place else None)

-- the scope of the lines so far and one more
abbrev pub with_line : Scope → Line → Scope
with_line scope line = record {
  places = with_label scope.places line.label scope.count;
  count = if has_instruction line then scope.count + 1 else scope.count;
}
