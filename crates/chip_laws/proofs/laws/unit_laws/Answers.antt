use Rattle.chip_laws.proofs.Opening.{fit_opened, shapes_opened}
use Rattle.chip_laws.proofs.UnitFrames.{units_fit, shapes_kept}
use Rattle.chip_laws.proofs.laws.unit_laws.Goals as goal

pub returns-clause-opened : goal.returns-clause-opened
returns-clause-opened c = fit_opened

pub returns-clause-kept : goal.returns-clause-kept
returns-clause-kept c = units_fit

pub returns-clause-shaped : goal.returns-clause-shaped
returns-clause-shaped c = shapes_opened

pub returns-clause-stepped : goal.returns-clause-stepped
returns-clause-stepped c = shapes_kept
