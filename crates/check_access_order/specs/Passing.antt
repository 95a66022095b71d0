-- When what an access leaves reaches a later one.
use Rattle.std.specs.Prelude.{◌≡◌, ℕ, true}
use Rattle.check_access.specs.Views.{View, makes_available, makes_visible}
use Rattle.check_access.specs.declared.access.Access.{Access}
use Rattle.check_access.specs.declared.access.Agent.TheVariants as agent
use Rattle.check_access.specs.declared.access.AccessKind.{AccessKind}
use Rattle.check_access.specs.declared.access.AccessKind.TheVariants.{Load, Store}
use Rattle.check_access_order.specs.Order.{Before, UpTo, EntersIn, Leaves, Enters}
use Rattle.check_access_order.specs.Stages.{stage_of}

-- a store has to be made available, and nothing else has
abbrev pub FlushedBy : AccessKind → View → ℕ → ℕ → Type 0
FlushedBy (Store agent layout) V piece x = makes_available V x agent piece ≡ true
FlushedBy kind V piece x = Unit {0}

-- memory has to be made visible to a load and a store
abbrev pub ShownBy : AccessKind → View → ℕ → ℕ → Type 0
ShownBy (Load agent layout) V piece y = makes_visible V y agent piece ≡ true
ShownBy (Store agent layout) V piece y = makes_visible V y agent piece ≡ true
ShownBy kind V piece y = Unit {0}

-- node x makes available what access a of node n left
abbrev pub MadeAvailableBy : View → ℕ → Access → ℕ → Type 0
MadeAvailableBy V n a x = Leaves V n a x × FlushedBy a.kind V a.piece x

-- node y enters the access of node m, or is anywhere before a read by the host
abbrev pub Reaches : AccessKind → View → ℕ → ℕ → Type 0
Reaches (Load agent.Host layout) V y m = Before V y m
Reaches kind V y m = EntersIn V.nodes (stage_of kind) y m

-- node y makes memory visible to access b of node m
abbrev pub MadeVisibleBy : View → ℕ → Access → ℕ → Type 0
MadeVisibleBy V m b y = Reaches b.kind V y m × ShownBy b.kind V b.piece y

-- what access a of node n left is made available in time for access b of node m
abbrev pub Available : View → ℕ → Access → ℕ → Access → Type 0
Available V n a m b = (x : ℕ) × (y : ℕ) × MadeAvailableBy V n a x × UpTo V x y × Enters V y m b

-- and after that visible to it
abbrev pub Passed : View → ℕ → Access → ℕ → Access → Type 0
Passed V n a m b = (x : ℕ) × (y : ℕ) × MadeAvailableBy V n a x × UpTo V x y × MadeVisibleBy V m b y
