-- The order of accesses.
use Rattle.std.specs.Prelude.{◌≡◌, ◌⊎◌, ℕ, true, List, Option, Some, None}
use Rattle.check_order.specs.Edges.{sync_edge}
use Rattle.check_order.specs.declared.node.Node.{Node}
use Rattle.base_reach.specs.Paths.{Path}
use Rattle.check_access.specs.Views.{View}
use Rattle.check_access.specs.declared.access.Access.{Access}
use Rattle.check_access.specs.declared.node_access.NodeAccess.{NodeAccess}
use Rattle.check_access_order.specs.Edges.{waits_for, lets_in}
use Rattle.check_access_order.specs.Stages.{stage_of}

-- of synchronizing nodes
abbrev pub Before : View → ℕ → ℕ → Type 0
Before V x y = Path (sync_edge V.nodes) x y

-- node x is node y, or happens before it
abbrev pub UpTo : View → ℕ → ℕ → Type 0
UpTo V x y = (x ≡ y) ⊎ Before V x y

-- what node n does in a stage leaves into node x, one that waits for it; what it does in no stage leaves into itself
abbrev pub LeavesIn : List Node → Option ℕ → ℕ → ℕ → Type 0
LeavesIn nodes (Some stage) n x = waits_for nodes stage n x ≡ true
LeavesIn nodes None n x = n ≡ x

-- node y enters what node m does in a stage
abbrev pub EntersIn : List Node → Option ℕ → ℕ → ℕ → Type 0
EntersIn nodes (Some stage) y m = lets_in nodes stage y m ≡ true
EntersIn nodes None y m = y ≡ m

-- access a of node n leaves into node x
abbrev pub Leaves : View → ℕ → Access → ℕ → Type 0
Leaves V n a x = LeavesIn V.nodes (stage_of a.kind) n x

-- node y enters access b of node m
abbrev pub Enters : View → ℕ → ℕ → Access → Type 0
Enters V y m b = EntersIn V.nodes (stage_of b.kind) y m

-- from node x on, the access is entered
abbrev pub EnteredFrom : View → ℕ → NodeAccess → Type 0
EnteredFrom V x b = (y : ℕ) × UpTo V x y × Enters V y b.node b.access

-- access a of node n is before access b of node m
abbrev pub InOrder : View → ℕ → Access → ℕ → Access → Type 0
InOrder V n a m b = (x : ℕ) × (y : ℕ) × Leaves V n a x × UpTo V x y × Enters V y m b
