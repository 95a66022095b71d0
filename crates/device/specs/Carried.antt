-- What a begun command carries away from its device.
use Rattle.std.specs.Prelude.{◌≡◌, ℕ, Some}
use Rattle.check_program.specs.Apart.{op_at}
use Rattle.device.specs.declared.job.Command.{Command}
use Rattle.device_model.specs.Devices.{Device, state_of}
use Rattle.program.specs.Rules.{shapes_of}

-- it is of this node, and has its operation, the shapes of all pieces, and what was loaded
pub record Carries (d : Device) (n : ℕ) (command : Command) : Type 0 where
  pub node : command.node ≡ n
  pub op : op_at d.program n ≡ Some command.op
  pub shapes : command.shapes ≡ shapes_of d.program
  pub loaded : command.loaded ≡ (state_of d).loaded n
