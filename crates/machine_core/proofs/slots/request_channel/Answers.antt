use Rattle.std.proofs.Common.{◌≡◌, ◌+◌, ◌*◌, ◌-◌, ◌/◌, ◌%◌, ◌<◌, arith, sym, ap, div-add-mod', mod-lt, mul_assoc}
use Rattle.chip_model.specs.Chip.{chip_of_mesh}
use Rattle.machine_core.proofs.SlotPlaces.{own_hop_at, side_hop_at, side_below}
use Rattle.machine_core.proofs.slots.request_channel.Goals as goal

pub returns-then-channel-vcs : goal.returns-then-channel-vcs
returns-then-channel-vcs c = λ r d out side.
    own_hop_at (chip_of_mesh c.args.mesh.now) r c.args.channel d (c.args.channel * 4 + d) out (omega (arith, c.if-channel-vcs.true, c.from-vcs.ensures)) (side_below d out side) (omega arith) side

pub returns : goal.returns
returns c = λ r d out side.
    let rest = c.args.channel - c.from-vcs.result in
    let each = c.from-vcs.result + 1 in
    let parts : rest / each * each + rest % each ≡ rest = div-add-mod' rest each in
    let below : rest % each < each = mod-lt rest (omega arith) in
    side_hop_at (chip_of_mesh c.args.mesh.now) r (rest / each) (rest % each) d (c.args.channel * 4 + d) c.side.result out
    c.side.ensures (omega (arith, below, c.from-vcs.ensures)) (side_below d out side)
    (omega (
      arith,
      parts,
      c.from-vcs.ensures,
      c.if-channel-vcs.false,
      ap
          (λ n. rest / each * ((n + 1) * 4)) (sym c.from-vcs.ensures),
      mul_assoc (rest / each) each 4,
    )) side
