use Rattle.core_isa.proofs.tile_core.Core.steps.Goals as goal

pub returns-clause-within : goal.returns-clause-within
returns-clause-within c =
    rw (← c.self.view_is) (record { registers = c.self.told; place = c.self.invariant })
