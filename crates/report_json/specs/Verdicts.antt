-- What `check` answers, as JSON.
use Rattle.std.specs.Prelude.{ℕ, List, [], ◌∷◌, codes}
use Rattle.base.specs.Families.{family_name}
use Rattle.vk.specs.Layouts.{layout_name}
use Rattle.check_program.specs.declared.hazard.Hazard.{Hazard}
use Rattle.check_program.specs.declared.hazard.Hazard.TheVariants.{Stuck, Sync, State, Load}
use Rattle.check_state.specs.declared.load_hazard.LoadHazard.{LoadHazard}
use Rattle.check_state.specs.declared.load_hazard.LoadHazard.TheVariants.{Undefined, Aliased}
use Rattle.check_state.specs.declared.state_hazard.StateHazard.{StateHazard}
use Rattle.check_state.specs.declared.state_hazard.StateHazard.TheVariants.{BadLayout, BadOwner, Unmatched}
use Rattle.check_sync.specs.declared.sync_hazard.Flaw.{Flaw}
use Rattle.check_sync.specs.declared.sync_hazard.Flaw.TheVariants.{Unordered, NotAvailable, NotVisible}
use Rattle.report.specs.Hazards.{owner_name}
use Rattle.report_json.specs.Json.{number, string, member, pair, answer}

-- whether a file is sound, or has a hazard or a fault
abbrev pub verdict : List ℕ → List ℕ
verdict word = member (codes "verdict") (string word)

-- the program of so many nodes is sound
abbrev pub check_json : ℕ → List ℕ
check_json nodes = answer (verdict (codes "sound")) (member (codes "nodes") (number nodes) ∷ [])

abbrev pub numbered : List ℕ → List ℕ
numbered name = member (codes "hazard") (string name)

abbrev pub node_of : ℕ → List ℕ
node_of node = member (codes "node") (number node)

abbrev pub piece_of : ℕ → List ℕ
piece_of piece = member (codes "piece") (number piece)

-- a hazard between two nodes
abbrev pub between : List ℕ → ℕ → ℕ → List (List ℕ)
between name first second = numbered name ∷ member (codes "nodes") (pair first second) ∷ []

-- a hazard at a piece that is in another state than the one wanted
abbrev pub mismatch : List ℕ → ℕ → ℕ → List ℕ → List ℕ → List (List ℕ)
mismatch name node piece found wanted = numbered name ∷ node_of node ∷ piece_of piece ∷ member (codes "found") (string found) ∷ member (codes "wanted") (string wanted) ∷ []

abbrev pub flaw_name : Flaw → List ℕ
flaw_name Unordered = codes "H2"
flaw_name NotAvailable = codes "H3"
flaw_name NotVisible = codes "H4"

abbrev pub state_members : StateHazard → List (List ℕ)
state_members (BadLayout node piece found wanted) = mismatch (codes "H5") node piece (layout_name found) (layout_name wanted)
state_members (BadOwner node piece found wanted) = mismatch (codes "H6") node piece (owner_name found) (family_name wanted)
state_members (Unmatched node) = numbered (codes "H7") ∷ node_of node ∷ []

abbrev pub load_members : LoadHazard → List (List ℕ)
load_members (Undefined node piece) = numbered (codes "H8") ∷ node_of node ∷ piece_of piece ∷ []
load_members (Aliased node piece other) = numbered (codes "H9") ∷ node_of node ∷ piece_of piece ∷ member (codes "other") (number other) ∷ []

abbrev pub stuck_members : ℕ → ℕ → List (List ℕ)
stuck_members queue node = numbered (codes "H1") ∷ member (codes "queue") (number queue) ∷ node_of node ∷ []

abbrev pub hazard_members : Hazard → List (List ℕ)
hazard_members (Stuck queue node) = stuck_members queue node
hazard_members (Sync sync_hazard) = between (flaw_name sync_hazard.flaw) sync_hazard.first sync_hazard.second
hazard_members (State state_hazard) = state_members state_hazard
hazard_members (Load load_hazard) = load_members load_hazard

-- the first hazard of a program
abbrev pub hazard_json : Hazard → List ℕ
hazard_json hazard = answer (verdict (codes "hazard")) (hazard_members hazard)
