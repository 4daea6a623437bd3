use Rattle.std.proofs.Common.{◌∙◌}
use Rattle.broadcast.proofs.Broadcasting.{window_passes}
use Rattle.broadcast.proofs.window.pass_window.Goals as goal

pub returns : goal.returns
returns c =
    window_passes c.args.set c.args.net.now c.inject.new.net c.post.new.net c.tick.new.net c.inject.ensures c.post.ensures
    (c.post.ensures.phase ∙ c.inject.ensures.phase ∙ c.requires.closed) c.tick.ensures
