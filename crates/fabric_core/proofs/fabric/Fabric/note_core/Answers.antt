use Rattle.fabric_core.proofs.Entries.{core_valid}
use Rattle.fabric_core.proofs.fabric.Fabric.note_core.Goals as goal

pub note-requires-clause-valid : goal.note-requires-clause-valid
note-requires-clause-valid c = core_valid c.args.self.now _ c.requires c.networks_fit.ensures
