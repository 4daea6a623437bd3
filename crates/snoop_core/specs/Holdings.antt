-- What a node has for a line, as the code tells it: a demand is told by its kind.
use Rattle.chip_model.specs.Snoop.{Holding as ModelHolding, OwnedCopy as HasOwnedCopy, LiveBack as HasLiveBack, OpenWrite as HasOpenWrite, OpenRead as HasOpenRead, SharedCopy as HasSharedCopy, Nothing as HasNothing}
use Rattle.snoop_core.specs.declared.snoop.Holding.{Holding}
use Rattle.snoop_core.specs.declared.snoop.Holding.TheVariants.{OwnedCopy, LiveBack, OpenWrite, OpenRead, SharedCopy, Nothing}

-- what the code tells of it
abbrev pub told : ModelHolding → Holding
told (HasOwnedCopy words) = OwnedCopy words
told (HasLiveBack words) = LiveBack words
told (HasOpenWrite demand) = OpenWrite
told (HasOpenRead demand) = OpenRead
told HasSharedCopy = SharedCopy
told HasNothing = Nothing
