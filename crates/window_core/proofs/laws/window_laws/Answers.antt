use Rattle.window_core.proofs.Holds.{post_is, tick_is, take_is, WindowsFit-opening, WindowsFit-post, WindowsFit-tick, WindowsFit-take}
use Rattle.window_core.proofs.laws.window_laws.Goals as goal

pub returns-clause-opened : goal.returns-clause-opened
returns-clause-opened c = WindowsFit-opening

pub returns-clause-after_post : goal.returns-clause-after_post
returns-clause-after_post c = WindowsFit-post

pub returns-clause-after_tick : goal.returns-clause-after_tick
returns-clause-after_tick c = WindowsFit-tick

pub returns-clause-after_take : goal.returns-clause-after_take
returns-clause-after_take c = WindowsFit-take

pub returns-clause-posts : goal.returns-clause-posts
returns-clause-posts c = post_is

pub returns-clause-ticks : goal.returns-clause-ticks
returns-clause-ticks c = tick_is

pub returns-clause-takes : goal.returns-clause-takes
returns-clause-takes c = take_is
