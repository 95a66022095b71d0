-- Layouts, owners and bytes, group by group.
use Rattle.std.specs.Prelude.{◌≡◌, ℕ, ◌+◌, ◌<◌, Bool, true, false, Option, Some}
use Rattle.base.specs.declared.shape.Family.{Family}
use Rattle.vk.specs.declared.layout.Layout.{Layout}
use Rattle.law_plan.specs.Nodes.{Nodes}
use Rattle.law_plan.specs.Plans.{Plan, First}
use Rattle.law_plan.specs.Spots.{Spot, OfPrologue, OfMember, OfRelease}
use Rattle.check_order.specs.Edges.{is_host, node_at}
use Rattle.check_state.specs.PieceStates.{layout_after}
use Rattle.check_access.specs.AccessKinds.{changes, is_discard, loads, sets_layout, sets_owner, wanted}
use Rattle.check_access.specs.ValidView.{Has}
use Rattle.check_access.specs.Views.{View, family_at, imported_at, overlap, shared_at}
use Rattle.check_access.specs.declared.access.Access.{Access}
use Rattle.check_access.specs.declared.access.AccessKind.TheVariants.{Release, Acquire}
use Rattle.check_access.specs.declared.access.Handover.{Handover}

-- LAYOUTS

pub record Laid (F : Plan) (V : View) (N : Nodes) : Type 0 where
  -- whether the prologue of a group sets a layout, and that of the group
  pub sets : ℕ → Bool
  pub layout : ℕ → Layout
  pub there : (g : ℕ) → sets g ≡ true → (a : Access) × OfPrologue F V N g a × (sets_layout a.kind ≡ true)
  pub known : (g : ℕ) (a : Access) → OfPrologue F V N g a → sets_layout a.kind ≡ true → (sets g ≡ true) × (layout_after a.kind ≡ layout g)
  pub steady : (g : ℕ) → F.piece g ≡ F.piece (g + 1) → sets (g + 1) ≡ false → layout g ≡ layout (g + 1)
  -- a member wants the layout of its group, and a prologue that of the group before
  pub member : (c g : ℕ) (a : Access) (layout_wanted : Layout) → OfMember F V N c g a → wanted a.kind ≡ Some layout_wanted → layout g ≡ layout_wanted
  pub prologue : (h : ℕ) (a : Access) (layout_wanted : Layout) → OfPrologue F V N h a → wanted a.kind ≡ Some layout_wanted → (g : ℕ) × (h ≡ g + 1) × (F.piece g ≡ F.piece h) × (layout g ≡ layout_wanted)
  -- where one is wanted, the prologue of the unit's first group sets one
  pub begins : (x g i : ℕ) (a : Access) (layout_wanted : Layout) → Spot F V N x a g → wanted a.kind ≡ Some layout_wanted → First F g i → sets i ≡ true

-- OWNERS

pub record Owned (F : Plan) (V : View) (N : Nodes) : Type 0 where
  -- whether the prologue of a group decides who owns the unit, and the family of the group
  pub sets : ℕ → Bool
  pub family : ℕ → Option Family
  pub there : (g : ℕ) → sets g ≡ true → (a : Access) × OfPrologue F V N g a × (sets_owner a.kind ≡ true)
  pub known : (g : ℕ) (a : Access) → OfPrologue F V N g a → sets_owner a.kind ≡ true → sets g ≡ true
  -- of a unit that is not shared, nodes of a group are on queues of its family, and it changes by a release alone
  pub runs : (x g : ℕ) (a : Access) → Spot F V N x a g → shared_at V (F.piece g) ≡ false → is_host (node_at V.nodes x).kind ≡ false → family_at V x ≡ family g
  pub steady : (g : ℕ) → F.piece g ≡ F.piece (g + 1) → shared_at V (F.piece g) ≡ false → N.released g ≡ false → family g ≡ family (g + 1)

-- TRANSFERS

pub record Handed (F : Plan) (V : View) (N : Nodes) : Type 0 where
  -- what is handed over after a group
  pub handover : ℕ → Handover
  -- after a released group comes one of its unit, whose prologue acquires
  pub next : (g : ℕ) → N.released g ≡ true → F.piece g ≡ F.piece (g + 1)
  pub release : (g : ℕ) → N.released g ≡ true → (a : Access) × OfRelease F V N g a
  pub acquire : (g : ℕ) → N.released g ≡ true → (a : Access) × OfPrologue F V N (g + 1) a × (a.kind ≡ Acquire (handover g))
  -- and nothing else releases or acquires
  pub released : (g : ℕ) (a : Access) → OfRelease F V N g a → a.kind ≡ Release (handover g)
  pub acquired : (h : ℕ) (a : Access) (what : Handover) → OfPrologue F V N h a → a.kind ≡ Acquire what → (g : ℕ) × (h ≡ g + 1) × (N.released g ≡ true) × (what ≡ handover g)

-- BYTES

pub record Changed (F : Plan) (V : View) (N : Nodes) : Type 0 where
  -- whether a member of a group stores
  pub stores : ℕ → Bool
  pub there : (g : ℕ) → stores g ≡ true → (c : ℕ) × (a : Access) × OfMember F V N c g a × (changes a.kind ≡ true)
  pub known : (c g : ℕ) (a : Access) → OfMember F V N c g a → changes a.kind ≡ true → stores g ≡ true
  -- only the prologue of a unit's first group discards
  pub discards : (g : ℕ) (a : Access) → OfPrologue F V N g a → is_discard a.kind ≡ true → First F g g
  -- what loads from no import, loads what an earlier group stored
  pub start : (x g : ℕ) (a : Access) → Spot F V N x a g → loads a.kind ≡ true → imported_at V a.piece ≡ false → (i : ℕ) × (F.piece i ≡ F.piece g) × (i < g) × (stores i ≡ true)
  -- nothing else lies in the bytes of an import, and it is not discarded
  pub alone : (x p : ℕ) (a : Access) → Has V x a → imported_at V p ≡ true → overlap V a.piece p ≡ true → a.piece ≡ p
  pub undiscarded : (x : ℕ) (a : Access) → Has V x a → is_discard a.kind ≡ true → imported_at V a.piece ≡ false
