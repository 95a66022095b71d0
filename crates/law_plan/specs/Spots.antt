-- The group that an access belongs to.
use Rattle.std.specs.Prelude.{◌≡◌, ℕ, ◌<◌, true, false}
use Rattle.law_plan.specs.Kinds.{is_plain, is_entry, is_release}
use Rattle.law_plan.specs.Nodes.{Nodes}
use Rattle.law_plan.specs.Plans.{Plan, leads}
use Rattle.check_access.specs.AccessKinds.{changes}
use Rattle.check_access.specs.ValidView.{Has}
use Rattle.check_access.specs.Views.{View}
use Rattle.check_access.specs.declared.access.Access.{Access}

-- access a is of the prologue of group g
pub record OfPrologue (F : Plan) (V : View) (N : Nodes) (g : ℕ) (a : Access) : Type 0 where
  pub has_prologue : N.has_prologue g ≡ true
  pub has : Has V (N.prologue g) a
  pub entry : is_entry a.kind ≡ true
  pub piece : a.piece ≡ F.piece g

-- of its member c
pub record OfMember (F : Plan) (V : View) (N : Nodes) (c g : ℕ) (a : Access) : Type 0 where
  pub member : F.member c g ≡ true
  pub has : Has V (N.command c) a
  pub plain : is_plain a.kind ≡ true
  pub piece : a.piece ≡ F.piece g

-- of the release after it
pub record OfRelease (F : Plan) (V : View) (N : Nodes) (g : ℕ) (a : Access) : Type 0 where
  pub released : N.released g ≡ true
  pub has : Has V (N.release g) a
  pub release : is_release a.kind ≡ true
  pub piece : a.piece ≡ F.piece g

-- of its host read
pub record OfReader (F : Plan) (V : View) (N : Nodes) (g : ℕ) (a : Access) : Type 0 where
  pub host : F.host g ≡ true
  pub has : Has V (N.reader g) a
  pub plain : is_plain a.kind ≡ true
  pub piece : a.piece ≡ F.piece g

-- access a of node x is of group g
pub data Spot (F : Plan) (V : View) (N : Nodes) (x : ℕ) (a : Access) (g : ℕ) : Type 0 where
  at_prologue : x ≡ N.prologue g → OfPrologue F V N g a → Spot F V N x a g
  at_member : {c : ℕ} → x ≡ N.command c → OfMember F V N c g a → Spot F V N x a g
  at_release : x ≡ N.release g → OfRelease F V N g a → Spot F V N x a g
  at_reader : x ≡ N.reader g → OfReader F V N g a → Spot F V N x a g

pub record Spots (F : Plan) (V : View) (N : Nodes) : Type 0 where
  -- each access is of a group
  pub all : (x : ℕ) (a : Access) → Has V x a → (g : ℕ) × Spot F V N x a g
  pub within : (x : ℕ) (a : Access) (g : ℕ) → Spot F V N x a g → g < F.groups
  -- a group with a prologue has a member that does something, unless it is a host read's
  pub some : (g : ℕ) → N.has_prologue g ≡ true → F.host g ≡ false → (c : ℕ) × (a : Access) × OfMember F V N c g a
  -- a member that changes the unit is the only one
  pub alone : (c d g : ℕ) (a : Access) → OfMember F V N c g a → changes a.kind ≡ true → F.member d g ≡ true → c ≡ d
  -- the group of a host read has no members, and is the last one of its unit
  pub host_alone : (g c : ℕ) → F.host g ≡ true → F.member c g ≡ true → ⊥
  pub host_last : (g h : ℕ) → F.host g ≡ true → leads F g h ≡ true → ⊥
  pub host_kept : (g : ℕ) → N.released g ≡ true → F.host g ≡ false
