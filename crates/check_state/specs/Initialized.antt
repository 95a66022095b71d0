-- Each load finds bytes that were stored through its piece, or an import's.
use Rattle.std.specs.Prelude.{◌≡◌, ℕ, ◌<◌, List, true, Option, Some, None}
use Rattle.check_access.specs.AccessKinds.{loads, stores}
use Rattle.check_access.specs.ValidView.{NodeAccessAt}
use Rattle.check_access.specs.Views.{View, imported_at}
use Rattle.check_access.specs.declared.node_access.NodeAccess.{NodeAccess}
use Rattle.check_state.specs.PieceStates.{last_change}
use Rattle.check_state.specs.declared.load_hazard.LoadHazard.{LoadHazard}
use Rattle.check_state.specs.declared.load_hazard.LoadHazard.TheVariants.{Undefined, Aliased}

-- the last change went through the piece and left bytes, or there is none, and the piece is an import
abbrev pub Initializes : View → ℕ → Option NodeAccess → Type 0
Initializes V p (Some change) = (change.access.piece ≡ p) × (stores change.access.kind ≡ true)
Initializes V p None = imported_at V p ≡ true

abbrev pub InitializedAt : View → List NodeAccess → ℕ → NodeAccess → Type 0
InitializedAt V accesses j a = loads a.access.kind ≡ true → Initializes V a.access.piece (last_change V accesses j a.access.piece)

abbrev pub InitializedBelow : View → List NodeAccess → ℕ → Type 0
InitializedBelow V accesses n = (j : ℕ) (a : NodeAccess) → j < n → NodeAccessAt accesses j a → InitializedAt V accesses j a

abbrev pub Initialized : View → List NodeAccess → Type 0
Initialized V accesses = (j : ℕ) (a : NodeAccess) → NodeAccessAt accesses j a → InitializedAt V accesses j a

-- THE FIRST LOAD THAT BREAKS IT

-- no other piece was changed last
abbrev pub IsOwn : ℕ → Option NodeAccess → Type 0
IsOwn p (Some change) = change.access.piece ≡ p
IsOwn p None = Unit {0}

-- this other piece was
abbrev pub IsOther : ℕ → ℕ → Option NodeAccess → Type 0
IsOther p other (Some change) = (change.access.piece ≡ other) × (other ≡ p → ⊥)
IsOther p other None = ⊥

abbrev pub IsLoadHazard : LoadHazard → View → List NodeAccess → ℕ → NodeAccess → Type 0
IsLoadHazard (Undefined n p) V accesses j a = (n ≡ a.node) × (p ≡ a.access.piece) × (loads a.access.kind ≡ true) × IsOwn p (last_change V accesses j p) × (Initializes V p (last_change V accesses j p) → ⊥)
IsLoadHazard (Aliased n p other) V accesses j a = (n ≡ a.node) × (p ≡ a.access.piece) × (loads a.access.kind ≡ true) × IsOther p other (last_change V accesses j p)

pub record FirstLoadHazard (V : View) (accesses : List NodeAccess) (load_hazard : LoadHazard) : Type 0 where
  pub place : ℕ
  pub node_access : NodeAccess
  pub at : NodeAccessAt accesses place node_access
  pub below : InitializedBelow V accesses place
  pub breaks : IsLoadHazard load_hazard V accesses place node_access
