-- A name that has no place gets this one, and nothing else changes.
use Rattle.std.proofs.Common.{◌∙◌, sym}
use Rattle.std.proofs.Math.Path.{fun_ext}
use Rattle.std.proofs.lemmas.Map.Text.{btree_map_updates_str}
use Rattle.core_isa.specs.LabelsSeen.{places_seen}
use Rattle.core_isa.proofs.Places.{unnamed, placed, added, none_from_not_some}
use Rattle.core_isa.proofs.labels.add_label.Goals as goal
use Rattle.core_isa.proofs.labels.add_label.Goals.{else-is_label_name-via-then-is_label_name+else-not-contains_key, else-is_label_name-via-else-is_label_name}

pub returns-in_ok-insert : goal.returns-in_ok-insert
unfolding places_seen
returns-in_ok-insert c =
    let label = c.in-Some.label.now in
    let named = sym c.is_label_name.ensures ∙ c.if-is_label_name.true in
    let new = none_from_not_some _ (sym c.contains_key.ensures ∙ c.if-not-contains_key.true) in
    rw c.in-Some.is (fun_ext (λ name. btree_map_updates_str label c.args.places.now c.insert.new.self _ c.in_ok-insert.ensures.updates name
    ∙ added (places_seen c.args.places.now) label c.args.place name named new))

pub returns-else-is_label_name : goal.returns-else-is_label_name
unfolding places_seen
returns-else-is_label_name c =
    let label = c.in-Some.label.now in
    rw c.in-Some.is (fun_ext (λ name. elim c.else-is_label_name.branch [
      | else-is_label_name-via-then-is_label_name+else-not-contains_key w ↦ placed (places_seen c.args.places.now) label c.args.place name (sym w.contains_key.ensures ∙ w.if-not-contains_key.false)
      | else-is_label_name-via-else-is_label_name w ↦ unnamed (places_seen c.args.places.now) label c.args.place name (sym c.is_label_name.ensures ∙ w.if-is_label_name.false)
    ]))
