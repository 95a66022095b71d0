-- What an accepted program has inside.
use Rattle.std.specs.Arc.{arc_value}
use Rattle.check_program.specs.Checked.{Accepted}
use Rattle.check_program.specs.Sound.{IsSound}
use Rattle.check_program.specs.declared.checked.Checked.TheInside.{Inside}

abbrev pub accepted_in : Inside → Accepted
accepted_in inside = record { program = arc_value inside.shaped }

abbrev pub IsAccepted : Inside → Type 0
IsAccepted inside = IsSound (arc_value inside.shaped)
