-- Which commands need workers: threads that drive a device together, and wait for each other.
use Rattle.std.specs.Prelude.{Bool, true, false, Option, Some, None}
use Rattle.cli.specs.declared.command.Command.{Command}
use Rattle.cli.specs.declared.command.Command.TheVariants.{Frame, Submission, Gen, Run, Exec, Summary, Flight, Audit}

-- `audit` needs a device, and no workers
abbrev pub needs_workers : Option Command → Bool
needs_workers None = false
needs_workers (Some (Frame asked)) = false
needs_workers (Some (Submission asked)) = false
needs_workers (Some (Gen number passes)) = false
needs_workers (Some (Run options trace tight)) = true
needs_workers (Some (Exec options trace)) = true
needs_workers (Some (Summary number passes options)) = true
needs_workers (Some (Flight options persist depth)) = true
needs_workers (Some Audit) = false
