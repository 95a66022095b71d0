-- A program that has run on a device to its end.
use Rattle.std.specs.Prelude.{◌≡◌, ◌<◌, ℕ, List, length, Option}
use Rattle.check_program.specs.Sound.{IsSound}
use Rattle.device_drive.specs.Tended.{tended_moves}
use Rattle.device_model.specs.Coming.{AllCame}
use Rattle.device_model.specs.Devices.{Device, state_of, IsComplete, ReadsApart}
use Rattle.device_model.specs.Histories.{moves_in}
use Rattle.device_model.specs.Ready.{read_node}
use Rattle.device_run.specs.EveryRun.{InEveryRun}
use Rattle.program.specs.declared.program.Program.{Program}

-- what the host has read: the bytes of read-back k
abbrev pub read_by : Device → ℕ → List ℕ
read_by d k = (state_of d).host (read_node d.program k)

-- each event of its history could come in its turn, and each node is done
pub record HasEnded (d : Device) : Type 0 where
  pub came : AllCame d
  pub complete : IsComplete d

-- the device was opened with zeros, each event of its history could come in its turn, each node is done, and the cache moves are
-- the first 256 of the seed's tender, or none without a seed
pub record HasRun (program : Program) (tend : Option ℕ) (d : Device) : Type 0 where
  pub runs : d.program ≡ program
  pub fill : d.fill ≡ 0
  pub came : AllCame d
  pub complete : IsComplete d
  pub moves : moves_in d.history ≡ tended_moves program tend 256
  -- each read-back has the bytes that it has where all commands run one after another, in every order of the nodes
  pub apart : (k : ℕ) → k < length d.program.readbacks → ReadsApart d k (read_by d k)
  -- and the bytes that it has in every run, whatever the interleaving and the caches
  pub every : IsSound program → InEveryRun program (read_by d)
