-- The first rule that a program breaks.
use Rattle.std.specs.Prelude.{◌≡◌, List, Option, Some}
use Rattle.std.specs.Option.{option_or, option_map}
use Rattle.base.specs.Broken.{of_rule}
use Rattle.base.specs.declared.broken.Broken.{Broken}
use Rattle.base.specs.declared.shape.Shape.{Shape}
use Rattle.program.specs.Limits.{limit_broken}
use Rattle.program.specs.Paths.{fault_of}
use Rattle.program.specs.Rules.{broken_at, shapes_of}
use Rattle.program.specs.declared.fault.ProgramFault.{ProgramFault}
use Rattle.program.specs.declared.location.Location.{Location}
use Rattle.program.specs.declared.program.Program.{Program}
use Rattle.program.specs.declared.rule.Rule.{Rule}
use Rattle.program.specs.declared.rule.Rule.TheVariants as rules
use Rattle.program.specs.declared.valid.ProgramError.{ProgramError}
use Rattle.program.specs.declared.valid.ProgramError.TheVariants.{Refused, NoMemory}

abbrev pub rule_broken : Rule → Program → List Shape → Option (Broken Rule Location)
rule_broken rule program shapes = option_map (of_rule rule) (broken_at rule program shapes)

abbrev pub form_broken : Program → List Shape → Option (Broken Rule Location)
form_broken program shapes =
    option_or (rule_broken rules.Range program shapes)
    (option_or (rule_broken rules.Known program shapes)
    (option_or (rule_broken rules.Stages program shapes)
    (rule_broken rules.Ignored program shapes)))

abbrev pub use_broken : Program → List Shape → Option (Broken Rule Location)
use_broken program shapes =
    option_or (rule_broken rules.Supported program shapes)
    (option_or (rule_broken rules.OnQueue program shapes)
    (option_or (rule_broken rules.Runs program shapes)
    (rule_broken rules.Timeline program shapes)))

-- one rule after another, each over the whole program
abbrev pub rules_broken : Program → List Shape → Option (Broken Rule Location)
rules_broken program shapes = option_or (form_broken program shapes) (use_broken program shapes)

abbrev pub first_broken : Program → Option (Broken Rule Location)
first_broken program = option_or (limit_broken program) (rules_broken program (shapes_of program))

abbrev pub first_fault : Program → Option ProgramFault
first_fault program = option_map fault_of (first_broken program)

-- why a program was not taken, and the program itself
abbrev pub Ends : Program → ProgramError → Type 0
Ends program (Refused fault back) = (first_fault program ≡ Some fault) × (back ≡ program)
Ends program (NoMemory back) = back ≡ program
