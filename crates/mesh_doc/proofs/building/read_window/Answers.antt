use Rattle.std.proofs.Common.{◌≡◌, refl, rules, true, false, is_some}
use Rattle.mesh_doc.specs.Values.{window, repeated}
use Rattle.mesh_doc.specs.Reading.{first}
use Rattle.mesh_doc.proofs.Repeats.{again, distinct}
use Rattle.mesh_doc.proofs.building.read_window.Goals as goal

pub returns-in_default : goal.returns-in_default
unfolding window
returns-in_default c = rw (← (rw c.in_default.is at c.in_ok-tiles.ensures)) refl

pub returns-then-is_some : goal.returns-then-is_some
unfolding window
returns-then-is_some c =
    let list = c.in-Some.tiles.items in
    let seen : is_some (first (repeated list)) ≡ true = search rules in
    rw (← (rw c.in-Some.is at c.in_ok-tiles.ensures), again list (repeated list) refl seen) refl

pub returns : goal.returns
unfolding window
returns c =
    let list = c.in-Some.tiles.items in
    let seen : is_some (first (repeated list)) ≡ false = search rules in
    rw (c.new.ensures, ← (rw c.in-Some.is at c.in_ok-tiles.ensures), distinct list (repeated list) refl seen) refl
