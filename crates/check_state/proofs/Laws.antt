-- An access with something wrong finds no valid state, or bytes that are not initialized.
use Rattle.std.proofs.Common.{ℕ, List, Option, Some, None, sym, ◌∙◌, subst, ap}
use Rattle.check_access.specs.Views.{View, family_at}
use Rattle.check_access.specs.declared.node_access.NodeAccess.{NodeAccess}
use Rattle.check_state.specs.Initialized.{InitializedAt, Initializes, IsOther, IsLoadHazard}
use Rattle.check_state.specs.PieceStates.{found_layout, found_owner, last_change}
use Rattle.check_state.specs.StateValid.{IsStateHazard, StateValidAt}
use Rattle.check_state.specs.declared.state_hazard.StateHazard.{StateHazard}
use Rattle.check_state.specs.declared.state_hazard.StateHazard.TheVariants.{BadLayout, BadOwner, Unmatched}
use Rattle.check_state.specs.declared.load_hazard.LoadHazard.{LoadHazard}
use Rattle.check_state.specs.declared.load_hazard.LoadHazard.TheVariants.{Undefined, Aliased}

pub state_hazard_here : (m : StateHazard) (V : View) (accesses : List NodeAccess) (j : ℕ) (a : NodeAccess) → IsStateHazard m V accesses j a → StateValidAt V accesses j a → ⊥
state_hazard_here (BadLayout n p found want) V accesses j a B S = B.4 (B.3 ∙ ap (λ z. found_layout accesses j z) B.1 ∙ S.layout want B.2)
state_hazard_here (BadOwner n p found want) V accesses j a B S = B.6 (B.5 ∙ ap (λ z. found_owner V accesses j z) B.1 ∙ S.owner B.3 ∙ ap (λ z. family_at V z) (sym B.0) ∙ B.4)
state_hazard_here (Unmatched n) V accesses j a B S = B.3 S.match

other_initializes_not : (V : View) (p other : ℕ) (change : Option NodeAccess) → IsOther p other change → Initializes V p change → ⊥
other_initializes_not V p other (Some change) O F = O.1 (sym O.0 ∙ F.0)
other_initializes_not V p other None O F = O

pub load_hazard_here : (u : LoadHazard) (V : View) (accesses : List NodeAccess) (j : ℕ) (a : NodeAccess) → IsLoadHazard u V accesses j a → InitializedAt V accesses j a → ⊥
load_hazard_here (Undefined n p) V accesses j a B F = B.4 (subst (λ z. Initializes V z (last_change V accesses j z)) (sym B.1) (F B.2))
load_hazard_here (Aliased n p other) V accesses j a B F = other_initializes_not V p other (last_change V accesses j p) B.3 (subst (λ z. Initializes V z (last_change V accesses j z)) (sym B.1) (F B.2))
