-- What is true of windows stays true.
use Rattle.std.proofs.Common.{ℕ, ◌<◌, ◌≤◌, length, arith}
use Rattle.mesh_gen.specs.Grid.{Grid, tiles, diameter}
use Rattle.chip_model.specs.Windows.{Windows}
use Rattle.window_core.specs.Windows.{WindowsState, WindowsHold, opening_state, AreSound}
use Rattle.window_core.proofs.Holds.{WindowsHold-opening}

-- other windows in which no more are closed
pub AreSound-step : (s : WindowsState) (new : Windows) → WindowsHold (tiles s.grid) s.ticks new → length new.closed ≤ s.room → AreSound s → AreSound (record s { windows = new })
AreSound-step s new holds room sound = record { some = sound.some; few = sound.few; wide = sound.wide; holds = holds; room = room }

-- before any tick
pub AreSound-open : (g : Grid) (ticks room : ℕ) → 0 < tiles g → tiles g ≤ 64 → diameter g ≤ ticks → 0 < ticks → AreSound (opening_state g ticks room)
AreSound-open g ticks room some few wide long = record { some = some; few = few; wide = wide; holds = WindowsHold-opening (tiles g) ticks long; room = omega arith }
