-- The faults of frame files, by their numbers.
use Rattle.std.specs.Prelude.{ℕ, List, [], Some, None}
use Rattle.base.specs.declared.limit.Limit.{Limit}
use Rattle.base.specs.declared.path.Leg.{Leg}
use Rattle.frame.specs.declared.fault.FrameFault.{FrameFault}
use Rattle.frame.specs.declared.rule.Rule.{Rule}
use Rattle.frame.specs.declared.rule.Rule.TheVariants as rules

-- the number that a fault line prints
abbrev pub number_of : Rule → ℕ
number_of rules.Limits = 4
number_of rules.Repeated = 5
number_of rules.Unknown = 6
number_of rules.Runs = 7
number_of rules.Declared = 8
number_of rules.Whole = 9
number_of rules.Unwritten = 10
number_of rules.Fits = 11
number_of rules.InPlace = 12
number_of rules.ReadNew = 13

-- F1, at the root of the file
abbrev pub not_json : FrameFault
not_json = record { number = 1; limit = None; location = [] }

-- F2, at the member that does not have its form
abbrev pub misshapen : List Leg → FrameFault
misshapen location = record { number = 2; limit = None; location = location }

-- F4, at the list, resource or draw that goes over the limit
abbrev pub over_limit : Limit → List Leg → FrameFault
over_limit limit location = record { number = number_of rules.Limits; limit = Some limit; location = location }
