use Rattle.std.proofs.Common.{◌≡◌, ℕ, true, replicate, ◌∙◌, ap}
use Rattle.vc_bank.specs.Channels.{empty_channels}
use Rattle.chip_model.specs.Copies.{no_copies}
use Rattle.mesh_gen.specs.Mesh.{grid}
use Rattle.router_xy.proofs.Sound.{sound_opened}
use Rattle.router_xy.proofs.routers.Routers.open.Goals as goal

opened : (c : goal.In_ok-empty_banks) → c.in_ok-empty_banks.field-0.items ≡ no_copies (grid c.args.mesh.now) c.args.mesh.now.vcs
opened c = c.in_ok-empty_banks.ensures ∙ ap (λ (count : ℕ). replicate count (empty_channels c.args.mesh.now.vcs true)) c.tiles.ensures.tiles

pub invariant_of-result : goal.invariant_of-result
invariant_of-result c =
    let given = c.args.mesh.now in
    sound_opened c.in_ok-of.field-0 (grid given) given.vcs c.in_ok-empty_banks.field-0.items c.in_ok-of.ensures given.cols_limit given.rows_limit given.vcs_limit (opened c)
