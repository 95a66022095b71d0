-- The order of accesses and the order of nodes, where commands have one stage.
use Rattle.std.specs.Prelude.{◌≡◌, ◌≢◌, ◌↔◌, ℕ, true, false, List}
use Rattle.check_access.specs.AccessKinds.{changes, transfers}
use Rattle.check_access.specs.ValidView.{Has, Listed}
use Rattle.check_access.specs.Views.{View}
use Rattle.check_access.specs.declared.access.Access.{Access}
use Rattle.check_access.specs.declared.node_access.NodeAccess.{NodeAccess}
use Rattle.check_access_order.specs.Order.{InOrder}
use Rattle.check_access_order.specs.Passing.{Available, Passed}
use Rattle.check_program.specs.Sound.{Sound}
use Rattle.check_sync.specs.Synchronized.{Synchronized, FirstFlaw}
use Rattle.check_sync.specs.declared.sync_hazard.Flaw.{Flaw}
use Rattle.law_nodes.specs.Passing as nodes
use Rattle.law_nodes.specs.Sound.{SoundByNodes}
use Rattle.law_nodes.specs.Synchronized as by_nodes

-- both orders say the same of access a of node n and access b of another node m
pub record Same (V : View) (n m : ℕ) (a b : Access) : Type 0 where
  pub ordered : InOrder V n a m b ↔ nodes.Before V n m
  pub available : changes a.kind ≡ true → Available V n a m b ↔ nodes.Available V n a m
  pub passed : changes a.kind ≡ true → transfers b.kind ≡ false → Passed V n a m b ↔ nodes.Passed V n a m b

abbrev pub SamePair : View → Type 0
SamePair V = (n m : ℕ) (a b : Access) → Has V n a → Has V m b → n ≢ m → Same V n m a b

abbrev pub SameSynchronized : View → Type 0
SameSynchronized V = Synchronized V ↔ by_nodes.Synchronized V

-- the same pair is the first that is not synchronized, for the same reason
abbrev pub SameFirst : View → Type 0
SameFirst V = (accesses : List NodeAccess) → Listed V accesses → (i j : ℕ) (a b : NodeAccess) (flaw : Flaw) → FirstFlaw V accesses i j a b flaw ↔ by_nodes.FirstFlaw V accesses i j a b flaw

abbrev pub SameSound : View → Type 0
SameSound V = (order : List ℕ) → Sound V order ↔ SoundByNodes V order
