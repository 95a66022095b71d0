-- Which commands are answered in which way.
use Rattle.std.specs.Prelude.{◌≡◌, false, true, Some}
use Rattle.answer.specs.AtRest.{needs_device}
use Rattle.cli.specs.Commands.{IsBounded}
use Rattle.cli.specs.declared.command.Command.{Command}
use Rattle.top.specs.Workers.{needs_workers}

-- by at_rest
abbrev pub IsAtRest : Command → Type 0
IsAtRest command = (needs_device (Some command) ≡ false) × IsBounded command

-- by workers, on a device
abbrev pub NeedsWorkers : Command → Type 0
NeedsWorkers command = (needs_workers (Some command) ≡ true) × IsBounded command
