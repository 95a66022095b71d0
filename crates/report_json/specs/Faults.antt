-- Faults of files, as JSON.
use Rattle.std.specs.Prelude.{ℕ, List, [], ◌∷◌, ◌++◌, Option, Some, None, codes}
use Rattle.std.specs.List.{flat_map}
use Rattle.base.specs.Limits.{limit_name}
use Rattle.base.specs.declared.limit.Limit.{Limit}
use Rattle.base.specs.declared.path.Leg.{Leg}
use Rattle.base.specs.declared.path.Leg.TheVariants.{Member, Position}
use Rattle.frame.specs.declared.fault.FrameFault.{FrameFault}
use Rattle.program.specs.declared.fault.ProgramFault.{ProgramFault}
use Rattle.report.specs.Paths.{printed}
use Rattle.report_json.specs.Json.{number, string, escaped, member, array, answer}
use Rattle.report_json.specs.Verdicts.{verdict}

-- a byte of a key as it is printed
abbrev pub escaped_key : ℕ → List ℕ
escaped_key byte = escaped (printed byte)

-- a step of a path: the key of a member, or a position in a list
abbrev pub leg_json : Leg → List ℕ
leg_json (Member key) = string (flat_map escaped_key key)
leg_json (Position at) = number at

abbrev pub leg_at : ℕ → Leg → List ℕ
leg_at k leg = leg_json leg

-- the steps from the root of the file
abbrev pub path_json : List Leg → List ℕ
path_json place = array leg_at place

abbrev pub path_member : List Leg → List ℕ
path_member place = member (codes "path") (path_json place)

-- the name of the quantity that is over its limit, where the fault has one, and the place
abbrev pub place_members : Option Limit → List Leg → List (List ℕ)
place_members None place = path_member place ∷ []
place_members (Some limit) place = member (codes "limit") (string (limit_name limit)) ∷ path_member place ∷ []

-- a fault by the letter of its kind of file, its number, its limit and its place
abbrev pub fault_json : List ℕ → ℕ → Option Limit → List Leg → List ℕ
fault_json letter fault limit place = answer (verdict (codes "fault")) (member (codes "fault") (string (letter ++ number fault)) ∷ place_members limit place)

abbrev pub frame_fault_json : FrameFault → List ℕ
frame_fault_json fault = fault_json (codes "F") fault.number fault.limit fault.location

abbrev pub program_fault_json : ProgramFault → List ℕ
program_fault_json fault = fault_json (codes "G") fault.number fault.limit fault.location
