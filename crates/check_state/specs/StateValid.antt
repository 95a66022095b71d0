-- Each access finds its piece in the layout that it wants and owned by its family, and halves of transfers match.
use Rattle.std.specs.Prelude.{◌≡◌, ℕ, ◌<◌, List, ◌||◌, not, Bool, true, Some}
use Rattle.std.specs.List.{list_any}
use Rattle.vk.specs.declared.layout.Layout.{Layout}
use Rattle.check_order.specs.Edges.{is_host, node_at}
use Rattle.check_access.specs.AccessKinds.{wanted, is_discard, is_acquire}
use Rattle.check_access.specs.ValidView.{NodeAccessAt}
use Rattle.check_access.specs.Views.{View, accesses_of, family_at, shared_at}
use Rattle.check_access.specs.declared.access.AccessKind.{AccessKind}
use Rattle.check_access.specs.declared.access.AccessKind.TheVariants.{Release, Acquire}
use Rattle.check_access.specs.declared.node_access.NodeAccess.{NodeAccess}
use Rattle.check_state.specs.PieceStates.{found_layout, found_owner, next_transfer, last_transfer}
use Rattle.check_state.specs.declared.state_hazard.StateHazard.{StateHazard}
use Rattle.check_state.specs.declared.state_hazard.StateHazard.TheVariants.{BadLayout, BadOwner, Unmatched}

-- the node is an acquire
abbrev pub acquires : View → ℕ → Bool
acquires V n = list_any (λ a. is_acquire a.kind) (accesses_of V n)

-- discards, what an acquire does, host reads and accesses of concurrent pieces need no owner
abbrev pub needs_owner : View → NodeAccess → Bool
needs_owner V a = not (is_discard a.access.kind || (acquires V a.node || (is_host (node_at V.nodes a.node).kind || shared_at V a.access.piece)))

-- access j, which is a, finds the layout that it wants
abbrev pub LayoutAt : List NodeAccess → ℕ → NodeAccess → Type 0
LayoutAt accesses j a = (layout : Layout) → wanted a.access.kind ≡ Some layout → found_layout accesses j a.access.piece ≡ layout

-- its own family owns the piece
abbrev pub OwnerAt : View → List NodeAccess → ℕ → NodeAccess → Type 0
OwnerAt V accesses j a = needs_owner V a ≡ true → found_owner V accesses j a.access.piece ≡ family_at V a.node

-- after a release comes its acquire, and before an acquire its release
abbrev pub Matches : AccessKind → List NodeAccess → ℕ → ℕ → Type 0
Matches (Release handover) accesses j p = next_transfer accesses j p ≡ Some (Acquire handover)
Matches (Acquire handover) accesses j p = last_transfer accesses j p ≡ Some (Release handover)
Matches kind accesses j p = Unit {0}

abbrev pub MatchAt : List NodeAccess → ℕ → NodeAccess → Type 0
MatchAt accesses j a = Matches a.access.kind accesses j a.access.piece

pub record StateValidAt (V : View) (accesses : List NodeAccess) (j : ℕ) (a : NodeAccess) : Type 0 where
  pub layout : LayoutAt accesses j a
  pub owner : OwnerAt V accesses j a
  pub match : MatchAt accesses j a

abbrev pub StateValidBelow : View → List NodeAccess → ℕ → Type 0
StateValidBelow V accesses n = (j : ℕ) (a : NodeAccess) → j < n → NodeAccessAt accesses j a → StateValidAt V accesses j a

abbrev pub StateValid : View → List NodeAccess → Type 0
StateValid V accesses = (j : ℕ) (a : NodeAccess) → NodeAccessAt accesses j a → StateValidAt V accesses j a

-- THE FIRST ACCESS THAT BREAKS IT

-- another layout, else another owner, else no other half
abbrev pub IsStateHazard : StateHazard → View → List NodeAccess → ℕ → NodeAccess → Type 0
IsStateHazard (BadLayout n p found want) V accesses j a = (n ≡ a.node) × (p ≡ a.access.piece) × (wanted a.access.kind ≡ Some want) × (found ≡ found_layout accesses j p) × (found ≡ want → ⊥)
IsStateHazard (BadOwner n p found want) V accesses j a = (n ≡ a.node) × (p ≡ a.access.piece) × LayoutAt accesses j a × (needs_owner V a ≡ true) × (family_at V n ≡ Some want) × (found ≡ found_owner V accesses j p) × (found ≡ Some want → ⊥)
IsStateHazard (Unmatched n) V accesses j a = (n ≡ a.node) × LayoutAt accesses j a × OwnerAt V accesses j a × (MatchAt accesses j a → ⊥)

pub record FirstStateHazard (V : View) (accesses : List NodeAccess) (state_hazard : StateHazard) : Type 0 where
  pub place : ℕ
  pub node_access : NodeAccess
  pub at : NodeAccessAt accesses place node_access
  pub below : StateValidBelow V accesses place
  pub breaks : IsStateHazard state_hazard V accesses place node_access
