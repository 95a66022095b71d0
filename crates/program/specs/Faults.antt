-- The faults of submission files, by their numbers.
use Rattle.std.specs.Prelude.{ℕ, List, [], Some, None}
use Rattle.base.specs.declared.limit.Limit.{Limit}
use Rattle.base.specs.declared.path.Leg.{Leg}
use Rattle.program.specs.declared.fault.ProgramFault.{ProgramFault}
use Rattle.program.specs.declared.rule.Rule.{Rule}
use Rattle.program.specs.declared.rule.Rule.TheVariants as rules

-- the number that a fault line prints
abbrev pub number_of : Rule → ℕ
number_of rules.Limits = 1
number_of rules.Range = 2
number_of rules.Known = 3
number_of rules.Stages = 4
number_of rules.Ignored = 5
number_of rules.Supported = 6
number_of rules.OnQueue = 7
number_of rules.Runs = 8
number_of rules.Timeline = 9

-- G1, at what goes over the limit
abbrev pub over_limit : Limit → List Leg → ProgramFault
over_limit limit location = record { number = number_of rules.Limits; limit = Some limit; location = location }

-- G10, at the root of the file
abbrev pub not_json : ProgramFault
not_json = record { number = 10; limit = None; location = [] }

-- G11, at the member that does not have its form
abbrev pub misshapen : List Leg → ProgramFault
misshapen location = record { number = 11; limit = None; location = location }
