-- What a run of workers leaves.
use Rattle.std.specs.Prelude.{◌≡◌, ◌<◌, ℕ, Option}
use Rattle.device_drive.specs.Tended.{tended_moves}
use Rattle.device_model.specs.Coming.{AllCame}
use Rattle.device_model.specs.Devices.{Device, IsComplete}
use Rattle.device_model.specs.Histories.{moves_in}
use Rattle.program.specs.declared.program.Program.{Program}

-- the device is of the program, and was opened with zeros
pub record Worked (of : Program) (workers : ℕ) (tend : Option ℕ) (d : Device) : Type 0 where
  pub program : d.program ≡ of
  pub fill : d.fill ≡ 0
  -- each event could come in its turn
  pub came : AllCame d
  -- the cache moves are the first 256 of the seed's tender; without a seed there is none
  pub moves : moves_in d.history ≡ tended_moves of tend 256
  -- all nodes are done
  pub complete : 0 < workers → IsComplete d
