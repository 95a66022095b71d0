-- Why what an earlier access leaves does not reach a later one, and how far that is known.
use Rattle.std.specs.Prelude.{ℕ, ◌<◌, length, Option, Some, None}
use Rattle.check_access.specs.Views.{View}
use Rattle.check_access.specs.declared.node_access.NodeAccess.{NodeAccess}
use Rattle.check_sync.specs.Internal.Around.{up_from}
use Rattle.check_access_order.specs.Order.{UpTo, EnteredFrom}
use Rattle.check_access_order.specs.Passing.{MadeAvailableBy, MadeVisibleBy, Available, Passed}
use Rattle.check_sync.specs.declared.sync_hazard.Flaw.{Flaw}
use Rattle.check_sync.specs.declared.sync_hazard.Flaw.TheVariants.{Unordered, NotAvailable, NotVisible}

-- memory is made visible to the access at node x or after it
abbrev pub VisibleFrom : View → ℕ → NodeAccess → Type 0
VisibleFrom V x b = (y : ℕ) × UpTo V x y × MadeVisibleBy V b.node b.access y

-- node x makes available what the access left, and from it on the second is entered
abbrev pub AvailableAt : View → NodeAccess → ℕ → NodeAccess → Type 0
AvailableAt V a x b = MadeAvailableBy V a.node a.access x × EnteredFrom V x b

abbrev pub NotPassed : Flaw → View → NodeAccess → NodeAccess → Type 0
NotPassed Unordered V a b = ⊥
NotPassed NotAvailable V a b = Available V a.node a.access b.node b.access → ⊥
NotPassed NotVisible V a b = Available V a.node a.access b.node b.access × (Passed V a.node a.access b.node b.access → ⊥)

-- a node from which on nothing makes memory visible to the access
pub record InvisibleFrom (V : View) (d : ℕ) (b : NodeAccess) : Type 0 where
  pub node : d < length V.nodes
  pub never : VisibleFrom V d b → ⊥

-- the first k nodes do not pass it on: none of them makes it available, or the last one that does is d, and from none of them
-- on it is made visible
abbrev pub NotPassedUntil : Option ℕ → View → NodeAccess → NodeAccess → ℕ → ℕ → Type 0
NotPassedUntil None V a b count k = (i : ℕ) → i < k → AvailableAt V a (up_from a.node count i) b → ⊥
NotPassedUntil (Some d) V a b count k = InvisibleFrom V d b × AvailableAt V a d b × ((i : ℕ) → i < k → MadeAvailableBy V a.node a.access (up_from a.node count i) → VisibleFrom V (up_from a.node count i) b → ⊥)
