-- The first two accesses that are not synchronized, told by their nodes.
use Rattle.std.specs.Prelude.{◌≡◌, ℕ, List, length, Option, MatchOption}
use Rattle.check_order.specs.Orders.{Order}
use Rattle.check_access.specs.Views.{View, node_accesses_of}
use Rattle.check_access.specs.declared.node_access.NodeAccess.{NodeAccess}
use Rattle.check_sync.specs.Synchronized.{Synchronized, SynchronizedBelow, FirstFlaw}
use Rattle.check_sync.specs.declared.sync_hazard.SyncHazard.{SyncHazard}

pub record FirstSyncHazard (V : View) (accesses : List NodeAccess) (sync_hazard : SyncHazard) : Type 0 where
  pub i : ℕ
  pub j : ℕ
  pub a : NodeAccess
  pub b : NodeAccess
  pub first : a.node ≡ sync_hazard.first
  pub second : b.node ≡ sync_hazard.second
  pub flawed : FirstFlaw V accesses i j a b sync_hazard.flaw

-- none where each pair is synchronized, or else the first that is not
abbrev pub FindsFirst : View → List NodeAccess → Option SyncHazard → Type 0
FindsFirst V accesses found = MatchOption found (SynchronizedBelow V accesses (length accesses)) (FirstSyncHazard V accesses)

-- of all accesses, in an order of all nodes, none is found exactly where the program's accesses are synchronized
abbrev pub DecidesSynchronized : View → List NodeAccess → Option SyncHazard → Type 0
DecidesSynchronized V accesses found = (order : List ℕ) → Order V.nodes order → accesses ≡ node_accesses_of V order → MatchOption found (Synchronized V) (λ sync_hazard. Synchronized V → ⊥)
