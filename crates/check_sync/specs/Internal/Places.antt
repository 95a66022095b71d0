-- Accesses by their places in an order.
use Rattle.std.specs.Prelude.{◌≡◌, ℕ, ◌<◌, ◌||◌, Bool, List, get_or, length, None}
use Rattle.check_access.specs.AccessKinds.{changes, transfers}
use Rattle.check_access.specs.ValidView.{Has}
use Rattle.check_access.specs.Views.{View}
use Rattle.check_access.specs.declared.access.Agent.TheVariants.{Of}
use Rattle.check_access.specs.declared.access.AccessKind.{AccessKind}
use Rattle.check_access.specs.declared.access.AccessKind.TheVariants.{Load}
use Rattle.check_access.specs.declared.node_access.NodeAccess.{NodeAccess}
use Rattle.check_sync.specs.Synchronized.{Clashing}
use Rattle.check_sync.specs.Synchronized.{Flawed, PairSynchronized}
use Rattle.check_sync.specs.declared.sync_hazard.Flaw.{Flaw}
use Rattle.check_sync.specs.declared.sync_hazard.SyncHazard.{SyncHazard}

-- what stands past the end
abbrev pub no_node_access : NodeAccess
no_node_access = record { node = 0; access = record { piece = 0; kind = Load (Of 0 0) None } }

abbrev pub node_access_at : List NodeAccess → ℕ → NodeAccess
node_access_at accesses i = get_or accesses i no_node_access

abbrev pub piece_of : List NodeAccess → ℕ → ℕ
piece_of accesses i = (node_access_at accesses i).access.piece

abbrev pub kind_of : List NodeAccess → ℕ → AccessKind
kind_of accesses i = (node_access_at accesses i).access.kind

-- more than a load
abbrev pub clashes_with_loads : AccessKind → Bool
clashes_with_loads kind = changes kind || transfers kind

-- an access of its node, and a node and a piece that are there
pub record Known (V : View) (a : NodeAccess) : Type 0 where
  pub has : Has V a.node a.access
  pub node : a.node < length V.nodes
  pub piece : a.access.piece < length V.pieces

-- the accesses at these places are synchronized
abbrev pub SynchronizedAt : View → List NodeAccess → ℕ → ℕ → Type 0
SynchronizedAt V accesses i j = PairSynchronized V (node_access_at accesses i) (node_access_at accesses j)

abbrev pub PlacesSynchronizedBelow : View → List NodeAccess → ℕ → Type 0
PlacesSynchronizedBelow V accesses n = (i j : ℕ) → i < j → j < n → SynchronizedAt V accesses i j

abbrev pub HasFlaw : Flaw → View → NodeAccess → NodeAccess → Type 0
HasFlaw flaw V a b = Clashing V a.node a.access b.node b.access × Flawed flaw V a b

-- the first that is not synchronized with the access at place j
abbrev pub IsFirstWith : View → List NodeAccess → ℕ → SyncHazard → Type 0
IsFirstWith V accesses j sync_hazard = (i : ℕ) × (i < j) × ((node_access_at accesses i).node ≡ sync_hazard.first) × ((node_access_at accesses j).node ≡ sync_hazard.second) × HasFlaw sync_hazard.flaw V (node_access_at accesses i) (node_access_at accesses j) × ((k : ℕ) → k < i → SynchronizedAt V accesses k j)
