-- What holds of the view of a program that breaks no rule.
use Rattle.std.specs.Prelude.{◌≡◌, ◌⊎◌, ℕ, ◌<◌, ◌≤◌, List, length, slice_get, true, false, Some, None}
use Rattle.base.specs.Maxima.{max_nodes, max_pieces}
use Rattle.base.specs.Shapes.{bytes_of}
use Rattle.base.specs.declared.shape.Family.{Family}
use Rattle.check_order.specs.Edges.{is_host, is_sync, node_at}
use Rattle.check_order.specs.declared.kind.Kind.TheVariants.{Command}
use Rattle.check_access.specs.AccessKinds.{changes, sets_layout, sets_owner, transfers}
use Rattle.check_access.specs.Views.{View, accesses_of, queue_at, family_at, piece_at, makes_available, makes_visible}
use Rattle.check_access.specs.declared.access.Access.{Access}
use Rattle.check_access.specs.declared.access.Agent.{Agent}
use Rattle.check_access.specs.declared.access.Agent.TheVariants as agent
use Rattle.check_access.specs.declared.access.AccessKind.{AccessKind}
use Rattle.check_access.specs.declared.node_access.NodeAccess.{NodeAccess}
use Rattle.check_access.specs.declared.access.AccessKind.TheVariants.{Load, Store, Transition, Discard, Release, Acquire}

-- a load or a store by an agent of the queue
abbrev pub IsByQueue : ℕ → AccessKind → Type 0
IsByQueue q (Load (agent.Of queue bit) layout) = queue ≡ q
IsByQueue q (Store (agent.Of queue bit) layout) = queue ≡ q
IsByQueue q (Load agent.Host layout) = ⊥
IsByQueue q (Store agent.Host layout) = ⊥
IsByQueue q (Transition layouts) = ⊥
IsByQueue q (Discard layout) = ⊥
IsByQueue q (Release handover) = ⊥
IsByQueue q (Acquire handover) = ⊥

-- a transition or a discard, or half of a transfer of ownership
abbrev pub IsByBarrier : AccessKind → Type 0
IsByBarrier kind = (sets_layout kind ≡ true) ⊎ (transfers kind ≡ true)

abbrev pub AccessAt : View → ℕ → ℕ → Access → Type 0
AccessAt V n i a = slice_get (accesses_of V n) i ≡ Some a

pub record ValidView (V : View) : Type 0 where
  pub few_nodes : length V.nodes ≤ max_nodes
  pub few_pieces : length V.pieces ≤ max_pieces
  pub effects : length V.effects ≡ length V.nodes
  pub imported : length V.imported ≡ length V.pieces
  -- pieces are there, and have bytes
  pub known : (n i : ℕ) (a : Access) → AccessAt V n i a → a.piece < length V.pieces
  pub some : (p : ℕ) → p < length V.pieces → 0 < bytes_of (piece_at V p).shape
  -- after a node's change comes nothing but its half of a transfer
  pub last : (n i j : ℕ) (a b : Access) → AccessAt V n i a → AccessAt V n j b → i < j → changes a.kind ≡ true → transfers b.kind ≡ true
  -- after a discard, a release or an acquire comes nothing
  pub final : (n i j : ℕ) (a b : Access) → AccessAt V n i a → AccessAt V n j b → i < j → sets_owner a.kind ≡ false
  -- commands load and store by agents of their queue, barriers set layouts and transfer, a host read loads, and all else does nothing
  pub command : (n i : ℕ) (a : Access) → AccessAt V n i a → (node_at V.nodes n).kind ≡ Command → IsByQueue (queue_at V n) a.kind
  pub sync : (n i : ℕ) (a : Access) → AccessAt V n i a → is_sync (node_at V.nodes n).kind ≡ true → IsByBarrier a.kind
  pub host : (n i : ℕ) (a : Access) → AccessAt V n i a → is_host (node_at V.nodes n).kind ≡ true → a.kind ≡ Load agent.Host None
  -- only barriers, waits and signals make memory available or visible
  pub available_by_sync : (n p : ℕ) (agent : Agent) → makes_available V n agent p ≡ true → is_sync (node_at V.nodes n).kind ≡ true
  pub visible_by_sync : (n p : ℕ) (agent : Agent) → makes_visible V n agent p ≡ true → is_sync (node_at V.nodes n).kind ≡ true
  -- a node of a queue has a family
  pub family : (n : ℕ) → n < length V.nodes → is_host (node_at V.nodes n).kind ≡ false → (f : Family) × (family_at V n ≡ Some f)

abbrev pub Has : View → ℕ → Access → Type 0
Has V n a = (i : ℕ) × AccessAt V n i a

-- of the accesses of node n one comes before another
abbrev pub Precedes : View → ℕ → Access → Access → Type 0
Precedes V n a b = (i : ℕ) × (j : ℕ) × (i < j) × AccessAt V n i a × AccessAt V n j b

abbrev pub NodeAccessAt : List NodeAccess → ℕ → NodeAccess → Type 0
NodeAccessAt node_accesses i a = slice_get node_accesses i ≡ Some a

-- accesses of nodes that are there, as an order lists them
pub record Listed (V : View) (node_accesses : List NodeAccess) : Type 0 where
  pub node : (i : ℕ) (a : NodeAccess) → NodeAccessAt node_accesses i a → a.node < length V.nodes
  pub has : (i : ℕ) (a : NodeAccess) → NodeAccessAt node_accesses i a → Has V a.node a.access
  -- those of one node stand in their order
  pub in_order : (i j : ℕ) (a b : NodeAccess) → NodeAccessAt node_accesses i a → NodeAccessAt node_accesses j b → i < j → a.node ≡ b.node → Precedes V a.node a.access b.access
  -- after a node's change comes nothing of that node but its half of a transfer
  pub last : (i j : ℕ) (a b : NodeAccess) → NodeAccessAt node_accesses i a → NodeAccessAt node_accesses j b → i < j → a.node ≡ b.node → changes a.access.kind ≡ true → transfers b.access.kind ≡ true
