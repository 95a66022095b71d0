-- Accesses that touch the same memory are of nodes in order, and changes are passed on, by paths over all nodes.
use Rattle.std.specs.Prelude.{◌≡◌, ◌⊎◌, ℕ, ◌<◌, List, true, false}
use Rattle.check_access.specs.AccessKinds.{changes, transfers}
use Rattle.check_access.specs.ValidView.{Has, NodeAccessAt}
use Rattle.check_access.specs.Views.{View}
use Rattle.check_access.specs.declared.access.Access.{Access}
use Rattle.check_access.specs.declared.node_access.NodeAccess.{NodeAccess}
use Rattle.law_nodes.specs.Passing.{Before, Available, Passed}
use Rattle.check_sync.specs.Synchronized.{Clashing}
use Rattle.check_sync.specs.declared.sync_hazard.Flaw.{Flaw}
use Rattle.check_sync.specs.declared.sync_hazard.Flaw.TheVariants.{Unordered, NotAvailable, NotVisible}

-- of each two accesses that clash one node is before the other, and a change is passed on to what is no transfer
pub record Synchronized (V : View) : Type 0 where
  pub ordered : (x y : ℕ) (a b : Access) → Has V x a → Has V y b → Clashing V x a y b → Before V x y ⊎ Before V y x
  pub passed : (x y : ℕ) (a b : Access) → Has V x a → Has V y b → Clashing V x a y b → Before V x y → changes a.kind ≡ true → transfers b.kind ≡ false → Passed V x a y b

-- THE FIRST PAIR

-- an earlier access and a later one
abbrev pub PassedOn : View → NodeAccess → NodeAccess → Type 0
PassedOn V a b = changes a.access.kind ≡ true → transfers b.access.kind ≡ false → Passed V a.node a.access b.node b.access

abbrev pub PairSynchronized : View → NodeAccess → NodeAccess → Type 0
PairSynchronized V a b = Clashing V a.node a.access b.node b.access → Before V a.node b.node × PassedOn V a b

-- why they are not synchronized
abbrev pub Flawed : Flaw → View → NodeAccess → NodeAccess → Type 0
Flawed Unordered V a b = Before V a.node b.node → ⊥
Flawed NotAvailable V a b = Before V a.node b.node × (changes a.access.kind ≡ true) × (transfers b.access.kind ≡ false) × (Available V a.node a.access b.node → ⊥)
Flawed NotVisible V a b = Before V a.node b.node × (changes a.access.kind ≡ true) × (transfers b.access.kind ≡ false) × Available V a.node a.access b.node × (Passed V a.node a.access b.node b.access → ⊥)

-- each pair is synchronized whose later access stands below n
abbrev pub SynchronizedBelow : View → List NodeAccess → ℕ → Type 0
SynchronizedBelow V accesses n = (i j : ℕ) (a b : NodeAccess) → NodeAccessAt accesses i a → NodeAccessAt accesses j b → i < j → j < n → PairSynchronized V a b

-- the pair with the least later access, and of these with the least earlier one, that is not synchronized, and why
pub record FirstFlaw (V : View) (accesses : List NodeAccess) (i j : ℕ) (a b : NodeAccess) (flaw : Flaw) : Type 0 where
  pub first : NodeAccessAt accesses i a
  pub second : NodeAccessAt accesses j b
  pub rising : i < j
  pub clashing : Clashing V a.node a.access b.node b.access
  pub flawed : Flawed flaw V a b
  pub below : SynchronizedBelow V accesses j
  pub least : (k : ℕ) (c : NodeAccess) → k < i → NodeAccessAt accesses k c → PairSynchronized V c b
