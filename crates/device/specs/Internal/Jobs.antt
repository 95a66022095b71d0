-- What a job has inside.
use Rattle.std.specs.Prelude.{◌≡◌}
use Rattle.std.specs.Arc.{arc_value}
use Rattle.device.specs.Internal.Loads.{IsWork, LoadsIn}
use Rattle.device.specs.declared.job.Command.{Command}
use Rattle.device.specs.declared.job.Job.TheInside.{Inside}
use Rattle.device_model.specs.Outputs.{no_old}

abbrev pub command_of : Inside → Command
command_of i = i.command

-- what is computed is of what was loaded in this program, and the room holds zeros
pub record IsJob (i : Inside) : Type 0 where
  pub work : IsWork i.command.shapes i.command.op i.command.loaded i.work
  pub loads : LoadsIn (arc_value i.program) i.command.node i.command.loaded
  pub room : i.room ≡ no_old i.command.shapes i.command.op
