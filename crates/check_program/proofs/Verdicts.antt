-- What is found in accesses in the least order is found of the program.
use Rattle.std.proofs.Common.{◌≡◌, ℕ, List, Option, Some, None, Result, Ok, Err, IfOk, MatchOption, sym, subst}
use Rattle.check_program.specs.Internal.Decided.{HasNoHazard, Decides, IsFound, Judges}
use Rattle.check_program.specs.Hazards.{HazardIn, IsHazard}
use Rattle.check_program.specs.Sound.{Sound}
use Rattle.check_program.specs.Verdicts.{Unsound}
use Rattle.check_program.specs.declared.hazard.Hazard.{Hazard}
use Rattle.check_program.specs.declared.hazard.Hazard.TheVariants.{Stuck, Sync}
use Rattle.check_program.proofs.Least.{one_least}
use Rattle.check_order.specs.Orders.{IsLeast}
use Rattle.check_state.specs.Initialized.{Initialized}
use Rattle.check_state.specs.StateValid.{StateValid}
use Rattle.program.specs.declared.program.Program.{Program}
use Rattle.check_sync.specs.First.{DecidesSynchronized, FirstSyncHazard}
use Rattle.check_sync.specs.declared.sync_hazard.SyncHazard.{SyncHazard}
use Rattle.check_access.specs.Views.{View, view_of, node_accesses_of}
use Rattle.check_access.specs.declared.node_access.NodeAccess.{NodeAccess}

-- THE HAZARD OF WHAT IS FOUND

module _ (V : View) (accesses : List NodeAccess) where
  pub sync_hazard_found : (sync_hazard : SyncHazard) → FirstSyncHazard V accesses sync_hazard → DecidesSynchronized V accesses (Some sync_hazard) → Decides V accesses (Some (Sync sync_hazard))
  sync_hazard_found sync_hazard first decides = λ order O is. record { hazard_is = first; refutes = λ clean. decides order O is clean.synchronized }

  pub none_found : DecidesSynchronized V accesses None → StateValid V accesses → Initialized V accesses → Decides V accesses None
  none_found decides state_valid initialized = λ order O is. record { synchronized = decides order O is; state_valid = state_valid; initialized = initialized }

-- OF THE LEAST ORDER

in_least : (V : View) (hazard : Hazard) (order : List ℕ) → IsLeast V.nodes order → HazardIn V (node_accesses_of V order) hazard → IsHazard V hazard
in_least V (Stuck q n) order least h = absurd h
in_least V hazard order least h = (order, least, h)

module _ (P : Program) (V : View) (order : List ℕ) (accesses : List NodeAccess) (same : V ≡ view_of P) (least : IsLeast V.nodes order) (is : accesses ≡ node_accesses_of V order) where
  -- whatever order shows that the program is sound is this one
  clean_of : (other : List ℕ) → Sound V other → HasNoHazard V accesses
  clean_of other S =
      let all : node_accesses_of V other ≡ accesses = rw (is, one_least V.nodes order other least S.order_is) in
      record { synchronized = S.synchronized; state_valid = rw (← all) S.state_valid; initialized = rw (← all) S.initialized }

  hazard_found : (hazard : Hazard) → IsFound V accesses hazard → Unsound P hazard
  hazard_found hazard found = record {
    hazard_is = subst (λ W. IsHazard W hazard) same (in_least V hazard order least (subst (λ l. HazardIn V l hazard) is found.hazard_is));
    unsound = λ sound. found.refutes (clean_of sound.0 (subst (λ W. Sound W sound.0) (sym same) sound.1));
  }

  sound_found : HasNoHazard V accesses → Sound (view_of P) order
  sound_found clean = subst (λ W. Sound W order) same (record {
    order_is = least;
    synchronized = clean.synchronized;
    state_valid = subst (λ l. StateValid V l) is clean.state_valid;
    initialized = subst (λ l. Initialized V l) is clean.initialized;
  })

  judged : (found : Option Hazard) → MatchOption found (HasNoHazard V accesses) (IsFound V accesses) → Judges P found
  judged None clean = (order, sound_found clean)
  judged (Some hazard) is_found = hazard_found hazard is_found

  pub all_judged : {E : Type 0} (result : Result (Option Hazard) E) → IfOk result (Decides V accesses) → IfOk result (Judges P)
  all_judged (Ok found) decides = judged found (decides order least.order is)
  all_judged (Err e) decides = tt
