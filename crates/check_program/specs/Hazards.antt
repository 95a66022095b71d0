-- The first thing that is wrong with a program that is not sound.
use Rattle.std.specs.Prelude.{ℕ, List, length}
use Rattle.check_program.specs.declared.hazard.Hazard.{Hazard}
use Rattle.check_program.specs.declared.hazard.Hazard.TheVariants.{Stuck, Sync, State, Load}
use Rattle.check_order.specs.Orders.{IsLeast, IsStuck}
use Rattle.check_state.specs.Initialized.{FirstLoadHazard}
use Rattle.check_state.specs.StateValid.{StateValid, FirstStateHazard}
use Rattle.check_state.specs.declared.state_hazard.StateHazard.{StateHazard}
use Rattle.check_state.specs.declared.load_hazard.LoadHazard.{LoadHazard}
use Rattle.check_sync.specs.First.{FirstSyncHazard}
use Rattle.check_sync.specs.Synchronized.{SynchronizedBelow}
use Rattle.check_access.specs.Views.{View, node_accesses_of}
use Rattle.check_access.specs.declared.node_access.NodeAccess.{NodeAccess}

-- each pair is synchronized
abbrev pub AllSynchronized : View → List NodeAccess → Type 0
AllSynchronized V accesses = SynchronizedBelow V accesses (length accesses)

-- all are synchronized, and this is the first that does not find what it wants
pub record StateHazardIsFirst (V : View) (accesses : List NodeAccess) (state_hazard : StateHazard) : Type 0 where
  pub synchronized : AllSynchronized V accesses
  pub first : FirstStateHazard V accesses state_hazard

-- all are synchronized and find what they want, and this is the first load without bytes
pub record LoadHazardIsFirst (V : View) (accesses : List NodeAccess) (load_hazard : LoadHazard) : Type 0 where
  pub synchronized : AllSynchronized V accesses
  pub state_valid : StateValid V accesses
  pub first : FirstLoadHazard V accesses load_hazard

-- of accesses in an order
abbrev pub HazardIn : View → List NodeAccess → Hazard → Type 0
HazardIn V accesses (Stuck q n) = ⊥
HazardIn V accesses (Sync sync_hazard) = FirstSyncHazard V accesses sync_hazard
HazardIn V accesses (State state_hazard) = StateHazardIsFirst V accesses state_hazard
HazardIn V accesses (Load load_hazard) = LoadHazardIsFirst V accesses load_hazard

-- of accesses in the least order
abbrev pub InLeast : View → Hazard → Type 0
InLeast V hazard = (order : List ℕ) × IsLeast V.nodes order × HazardIn V (node_accesses_of V order) hazard

-- no order exists; or in the least one
abbrev pub IsHazard : View → Hazard → Type 0
IsHazard V (Stuck q n) = IsStuck V.nodes q n
IsHazard V hazard = InLeast V hazard
