-- What is found in accesses decides whether a program is sound.
use Rattle.std.specs.Prelude.{◌≡◌, ℕ, List, Option, MatchOption}
use Rattle.check_program.specs.Hazards.{HazardIn}
use Rattle.check_program.specs.Sound.{IsSound}
use Rattle.check_program.specs.Verdicts.{Unsound}
use Rattle.check_program.specs.declared.hazard.Hazard.{Hazard}
use Rattle.check_order.specs.Orders.{Order}
use Rattle.check_state.specs.Initialized.{Initialized}
use Rattle.check_state.specs.StateValid.{StateValid}
use Rattle.program.specs.declared.program.Program.{Program}
use Rattle.check_sync.specs.Synchronized.{Synchronized}
use Rattle.check_access.specs.Views.{View, node_accesses_of}
use Rattle.check_access.specs.declared.node_access.NodeAccess.{NodeAccess}

-- nothing is wrong
pub record HasNoHazard (V : View) (accesses : List NodeAccess) : Type 0 where
  pub synchronized : Synchronized V
  pub state_valid : StateValid V accesses
  pub initialized : Initialized V accesses

-- the first hazard, with which not all is well
pub record IsFound (V : View) (accesses : List NodeAccess) (hazard : Hazard) : Type 0 where
  pub hazard_is : HazardIn V accesses hazard
  pub refutes : HasNoHazard V accesses → ⊥

-- where the accesses are those of an order of all nodes
abbrev pub Decides : View → List NodeAccess → Option Hazard → Type 0
Decides V accesses found = (order : List ℕ) → Order V.nodes order → accesses ≡ node_accesses_of V order → MatchOption found (HasNoHazard V accesses) (IsFound V accesses)

-- the first hazard of a program, or none where it is sound
abbrev pub Judges : Program → Option Hazard → Type 0
Judges program found = MatchOption found (IsSound program) (Unsound program)
