-- When what an access leaves reaches a later one, by paths over all nodes.
use Rattle.std.specs.Prelude.{◌≡◌, ◌⊎◌, ℕ, true}
use Rattle.check_order.specs.Edges.{edge, is_host, node_at}
use Rattle.base_reach.specs.Paths.{Path}
use Rattle.check_access.specs.Views.{View, makes_available, makes_visible}
use Rattle.check_access.specs.declared.access.Access.{Access}
use Rattle.check_access.specs.declared.access.AccessKind.{AccessKind}
use Rattle.check_access.specs.declared.access.AccessKind.TheVariants.{Load, Store, Transition, Discard, Release, Acquire}

abbrev pub Before : View → ℕ → ℕ → Type 0
Before V x y = Path (edge V.nodes) x y

-- node x is node y, or happens before it
abbrev pub UpTo : View → ℕ → ℕ → Type 0
UpTo V x y = (x ≡ y) ⊎ Before V x y

-- right before node n, or anywhere before a host read
abbrev pub Reaches : View → ℕ → ℕ → Type 0
Reaches V y n = (edge V.nodes y n ≡ true) ⊎ ((is_host (node_at V.nodes n).kind ≡ true) × Before V y n)

-- node x makes available what node n left on the piece: after a store one that waits for it, after a transition the node itself
abbrev pub AvailableBy : AccessKind → View → ℕ → ℕ → ℕ → Type 0
AvailableBy (Store agent layout) V n piece x = (edge V.nodes n x ≡ true) × (makes_available V x agent piece ≡ true)
AvailableBy (Load agent layout) V n piece x = n ≡ x
AvailableBy (Transition layouts) V n piece x = n ≡ x
AvailableBy (Discard layout) V n piece x = n ≡ x
AvailableBy (Release handover) V n piece x = n ≡ x
AvailableBy (Acquire handover) V n piece x = n ≡ x

-- node y makes memory of the piece visible to node n: before a load or a store one that it waits for, before a transition the
-- node itself
abbrev pub VisibleBy : AccessKind → View → ℕ → ℕ → ℕ → Type 0
VisibleBy (Load agent layout) V n piece y = Reaches V y n × (makes_visible V y agent piece ≡ true)
VisibleBy (Store agent layout) V n piece y = Reaches V y n × (makes_visible V y agent piece ≡ true)
VisibleBy (Transition layouts) V n piece y = y ≡ n
VisibleBy (Discard layout) V n piece y = y ≡ n
VisibleBy (Release handover) V n piece y = y ≡ n
VisibleBy (Acquire handover) V n piece y = y ≡ n

-- node x makes available what access a of node n left
abbrev pub MadeAvailableBy : View → ℕ → Access → ℕ → Type 0
MadeAvailableBy V n a x = AvailableBy a.kind V n a.piece x

-- node y makes memory visible to access b of node n
abbrev pub MadeVisibleBy : View → ℕ → Access → ℕ → Type 0
MadeVisibleBy V n b y = VisibleBy b.kind V n b.piece y

-- what access a of node n left is made available up to node m
abbrev pub Available : View → ℕ → Access → ℕ → Type 0
Available V n a m = (x : ℕ) × MadeAvailableBy V n a x × UpTo V x m

-- what access a of node n left is made available, and after that visible to access b of node m
abbrev pub Passed : View → ℕ → Access → ℕ → Access → Type 0
Passed V n a m b = (x : ℕ) × (y : ℕ) × MadeAvailableBy V n a x × UpTo V x y × MadeVisibleBy V m b y
