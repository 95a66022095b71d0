-- What a node finds, by what happens before it.
use Rattle.std.proofs.Common.{◌≡◌, ◌⊎◌, ℕ, Bool, true, Option, Some}
use Rattle.base.specs.declared.shape.Family.{Family}
use Rattle.vk.specs.declared.layout.Layout.{Layout}
use Rattle.vk.specs.declared.layout.Layout.TheVariants as layouts
use Rattle.check_state.specs.PieceStates.{layout_after, owner_after}
use Rattle.check_state.specs.StateValid.{needs_owner}
use Rattle.law_nodes.specs.Passing.{Before}
use Rattle.check_access.specs.AccessKinds.{changes, loads, stores, sets_layout, sets_owner, wanted}
use Rattle.check_access.specs.ValidView.{Has}
use Rattle.check_access.specs.Views.{View, overlap, imported_at, family_at, node_access}
use Rattle.check_access.specs.declared.access.Access.{Access}
use Rattle.check_access.specs.declared.access.AccessKind.{AccessKind}

-- BYTES

-- of the changes of the piece's bytes before n, w's is the last, and it went through the piece and left bytes
pub record Initializes (V : View) (n p w : ℕ) (c : Access) : Type 0 where
  pub has : Has V w c
  pub leaves : stores c.kind ≡ true
  pub piece : c.piece ≡ p
  pub before : Before V w n
  pub last : (v : ℕ) (d : Access) → Has V v d → changes d.kind ≡ true → overlap V d.piece p ≡ true → Before V v n → (v ≡ w) ⊎ Before V v w

-- there is none, and the piece has an import's bytes
pub record Imports (V : View) (n p : ℕ) : Type 0 where
  pub none : (v : ℕ) (d : Access) → Has V v d → changes d.kind ≡ true → overlap V d.piece p ≡ true → Before V v n → ⊥
  pub imported : imported_at V p ≡ true

abbrev pub InitializedBy : View → ℕ → ℕ → Type 0
InitializedBy V n p = ((w : ℕ) × (c : Access) × Initializes V n p w c) ⊎ Imports V n p

-- LAYOUTS AND OWNERS

-- of the accesses of a sort and of the piece before n, t's is the last
pub record LastOf (V : View) (sort : AccessKind → Bool) (n p t : ℕ) (d : Access) : Type 0 where
  pub has : Has V t d
  pub sorted : sort d.kind ≡ true
  pub piece : d.piece ≡ p
  pub before : Before V t n
  pub last : (v : ℕ) (c : Access) → Has V v c → sort c.kind ≡ true → c.piece ≡ p → Before V v n → (v ≡ t) ⊎ Before V v t

abbrev pub NoneOf : View → (AccessKind → Bool) → ℕ → ℕ → Type 0
NoneOf V sort n p = (v : ℕ) (c : Access) → Has V v c → sort c.kind ≡ true → c.piece ≡ p → Before V v n → ⊥

abbrev pub LayoutBy : View → ℕ → ℕ → Layout → Type 0
LayoutBy V n p layout = ((t : ℕ) × (d : Access) × LastOf V sets_layout n p t d × (layout_after d.kind ≡ layout)) ⊎ (NoneOf V sets_layout n p × (layout ≡ layouts.Undefined))

-- first gives the family of the piece's first access
abbrev pub OwnerBy : View → (ℕ → Option Family) → ℕ → ℕ → Option Family → Type 0
OwnerBy V first n p family = ((t : ℕ) × (d : Access) × LastOf V sets_owner n p t d × (owner_after d.kind (family_at V t) ≡ family)) ⊎ (NoneOf V sets_owner n p × (first p ≡ family))

-- each node finds what it wants
pub record Finds (V : View) (first : ℕ → Option Family) : Type 0 where
  pub initialized : (n : ℕ) (a : Access) → Has V n a → loads a.kind ≡ true → InitializedBy V n a.piece
  pub layout : (n : ℕ) (a : Access) (layout : Layout) → Has V n a → wanted a.kind ≡ Some layout → LayoutBy V n a.piece layout
  pub owner : (n : ℕ) (a : Access) → Has V n a → needs_owner V (node_access n a) ≡ true → OwnerBy V first n a.piece (family_at V n)
