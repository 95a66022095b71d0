-- Faults of files, as they are printed.
use Rattle.std.specs.Prelude.{ℕ, List, [], ◌++◌, Option, Some, None, codes}
use Rattle.std.specs.Fmt.{decimal}
use Rattle.base.specs.Limits.{limit_name}
use Rattle.base.specs.declared.limit.Limit.{Limit}
use Rattle.base.specs.declared.path.Leg.{Leg}
use Rattle.frame.specs.declared.fault.FrameFault.{FrameFault}
use Rattle.report.specs.Paths.{path_text}
use Rattle.program.specs.declared.fault.ProgramFault.{ProgramFault}

-- the name of the quantity that is over its limit, where the fault has one
abbrev pub limit_text : Option Limit → List ℕ
limit_text None = []
limit_text (Some limit) = codes " " ++ limit_name limit

-- a fault by the letter of its kind of file, its number, its limit and its place
abbrev pub fault_text : List ℕ → ℕ → Option Limit → List Leg → List ℕ
fault_text letter number limit place = codes "fault " ++ letter ++ decimal number ++ limit_text limit ++ codes " " ++ path_text place ++ codes "\n"

abbrev pub frame_fault_text : FrameFault → List ℕ
frame_fault_text fault = fault_text (codes "F") fault.number fault.limit fault.location

abbrev pub program_fault_text : ProgramFault → List ℕ
program_fault_text fault = fault_text (codes "G") fault.number fault.limit fault.location
