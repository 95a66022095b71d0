-- What `check` answers, as it is printed.
use Rattle.std.specs.Prelude.{ℕ, List, ◌++◌, Option, codes}
use Rattle.std.specs.Fmt.{decimal}
use Rattle.std.specs.Option.{option_map_or}
use Rattle.base.specs.Families.{family_name}
use Rattle.base.specs.declared.shape.Family.{Family}
use Rattle.vk.specs.Layouts.{layout_name}
use Rattle.check_program.specs.declared.hazard.Hazard.{Hazard}
use Rattle.check_program.specs.declared.hazard.Hazard.TheVariants.{Stuck, Sync, State, Load}
use Rattle.check_state.specs.declared.load_hazard.LoadHazard.{LoadHazard}
use Rattle.check_state.specs.declared.load_hazard.LoadHazard.TheVariants.{Undefined, Aliased}
use Rattle.check_state.specs.declared.state_hazard.StateHazard.{StateHazard}
use Rattle.check_state.specs.declared.state_hazard.StateHazard.TheVariants.{BadLayout, BadOwner, Unmatched}
use Rattle.check_sync.specs.declared.sync_hazard.Flaw.{Flaw}
use Rattle.check_sync.specs.declared.sync_hazard.Flaw.TheVariants.{Unordered, NotAvailable, NotVisible}

abbrev pub owner_name : Option Family → List ℕ
owner_name owner = option_map_or family_name owner (codes "none")

-- a field after a blank
abbrev pub field : List ℕ → List ℕ
field word = codes " " ++ word

abbrev pub number_field : ℕ → List ℕ
number_field n = field (decimal n)

abbrev pub two_numbers : ℕ → ℕ → List ℕ
two_numbers a b = number_field a ++ number_field b

-- the number of a hazard
abbrev pub flaw_number : Flaw → ℕ
flaw_number Unordered = 2
flaw_number NotAvailable = 3
flaw_number NotVisible = 4

abbrev pub state_number : StateHazard → ℕ
state_number (BadLayout node piece found wanted) = 5
state_number (BadOwner node piece found wanted) = 6
state_number (Unmatched node) = 7

abbrev pub load_number : LoadHazard → ℕ
load_number (Undefined node piece) = 8
load_number (Aliased node piece other) = 9

abbrev pub hazard_number : Hazard → ℕ
hazard_number (Stuck queue node) = 1
hazard_number (Sync sync_hazard) = flaw_number sync_hazard.flaw
hazard_number (State state_hazard) = state_number state_hazard
hazard_number (Load load_hazard) = load_number load_hazard

-- and its fields
abbrev pub state_fields : StateHazard → List ℕ
state_fields (BadLayout node piece found wanted) = two_numbers node piece ++ field (layout_name found) ++ field (layout_name wanted)
state_fields (BadOwner node piece found wanted) = two_numbers node piece ++ field (owner_name found) ++ field (family_name wanted)
state_fields (Unmatched node) = number_field node

abbrev pub load_fields : LoadHazard → List ℕ
load_fields (Undefined node piece) = two_numbers node piece
load_fields (Aliased node piece other) = two_numbers node piece ++ number_field other

abbrev pub hazard_fields : Hazard → List ℕ
hazard_fields (Stuck queue node) = two_numbers queue node
hazard_fields (Sync sync_hazard) = two_numbers sync_hazard.first sync_hazard.second
hazard_fields (State state_hazard) = state_fields state_hazard
hazard_fields (Load load_hazard) = load_fields load_hazard

abbrev pub hazard_text : Hazard → List ℕ
hazard_text hazard = codes "hazard H" ++ decimal (hazard_number hazard) ++ hazard_fields hazard ++ codes "\n"

abbrev pub check_text : ℕ → List ℕ
check_text nodes = codes "accepted " ++ decimal nodes ++ codes " nodes\n"
