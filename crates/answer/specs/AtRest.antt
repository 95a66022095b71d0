-- Which commands need a device.
use Rattle.std.specs.Prelude.{Bool, true, false, Option, Some, None}
use Rattle.cli.specs.declared.command.Command.{Command}
use Rattle.cli.specs.declared.command.Command.TheVariants.{Frame, Submission, Gen, Run, Exec, Summary, Flight, Audit}

abbrev pub needs_device : Option Command → Bool
needs_device None = false
needs_device (Some (Frame asked)) = false
needs_device (Some (Submission asked)) = false
needs_device (Some (Gen number passes)) = false
needs_device (Some (Run options trace tight)) = true
needs_device (Some (Exec options trace)) = true
needs_device (Some (Summary number passes options)) = true
needs_device (Some (Flight options persist depth)) = true
needs_device (Some Audit) = true
