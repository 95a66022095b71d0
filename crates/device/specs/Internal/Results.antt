-- What a computed command has inside.
use Rattle.std.specs.Prelude.{◌≡◌, ℕ, List, length}
use Rattle.std.specs.Arc.{arc_value}
use Rattle.base.specs.Operands.{destination_of}
use Rattle.base.specs.Shapes.{bytes_of, shape_at}
use Rattle.device.specs.Internal.Loads.{LoadsIn}
use Rattle.device.specs.declared.job.Command.{Command}
use Rattle.device.specs.declared.job.Finished.TheInside.{Inside}
use Rattle.device_model.specs.Outputs.{stored_by}

abbrev pub command_of : Inside → Command
command_of i = i.command

-- the bytes are those of the operation for what was loaded, as many as the destination has
pub record IsResult (c : Command) (bytes : List ℕ) : Type 0 where
  pub stored : bytes ≡ stored_by c.shapes c.op c.loaded
  pub long : length bytes ≡ bytes_of (shape_at c.shapes (destination_of c.op))

-- the bytes are of the command, which loaded in this program
pub record IsFinished (i : Inside) : Type 0 where
  pub result : IsResult i.command i.stored
  pub loads : LoadsIn (arc_value i.program) i.command.node i.command.loaded
