use Rattle.std.proofs.Common.{◌≡◌, ◌∙◌, ap, sym, true, false, take, get_or, rules, arith}
use Rattle.mesh_gen.specs.TileSet.{is_among}
use Rattle.mesh_doc.specs.Reading.{first}
use Rattle.mesh_doc.proofs.Repeats.{repeats_here, repeats_not, repeats_end}
use Rattle.mesh_doc.proofs.values.first_repeated.Goals as goal

pub returns-then-contains : goal.returns-then-contains
returns-then-contains c =
    let xs = c.args.tiles.now in
    let i = c.loop-i.i in
    let seen : c.contains.result ≡ true = search rules in
    let again : is_among (take i xs) (get_or xs i 0) ≡ true = rw (← c.split_at.ensures.front) (sym c.contains.ensures.value ∙ seen) in
    sym (ap first c.loop-i.invariant ∙ repeats_here xs i 0 c.loop-i-test.true again)

pub loop-i-preserved : goal.loop-i-preserved
loop-i-preserved c =
    let xs = c.args.tiles.now in
    let i = c.loop-i.i in
    let seen : c.contains.result ≡ false = search rules in
    let new : is_among (take i xs) (get_or xs i 0) ≡ false = rw (← c.split_at.ensures.front) (sym c.contains.ensures.value ∙ seen) in
    c.loop-i.invariant ∙ repeats_not xs i 0 c.loop-i-test.true new

pub returns : goal.returns
returns c = sym (ap first c.loop-i.invariant ∙ repeats_end c.args.tiles.now c.loop-i.i (omega arith))
