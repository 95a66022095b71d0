-- Where nodes that make memory available and visible can be.
use Rattle.std.proofs.Common.{◌≡◌, inl, inr, ℕ, ◌+◌, ◌<◌, length, Option, Some, None, IfSome, refl, sym, subst, below_more}
use Rattle.base_reach.specs.Paths.{one, then_on}
use Rattle.check_order.proofs.Within.{edge_within, sync_is_edge}
use Rattle.check_access_order.proofs.Forward.{sync_within}
use Rattle.check_access_order.proofs.Ways.{waits, lets, up_to_on}
use Rattle.check_access_order.specs.Order.{LeavesIn, EntersIn, EnteredFrom}
use Rattle.check_access_order.specs.Stages.{stage_by, stage_of}
use Rattle.check_access.specs.declared.access.Agent.TheVariants as agent
use Rattle.check_access.specs.Views.{View}
use Rattle.check_access.specs.declared.access.AccessKind.{AccessKind}
use Rattle.check_access.specs.declared.access.AccessKind.TheVariants.{Load, Store, Transition, Discard, Release, Acquire}
use Rattle.check_access.specs.declared.node_access.NodeAccess.{NodeAccess}
use Rattle.check_sync.specs.Internal.Around.{up_from, down_from}
use Rattle.check_access_order.specs.Order.{Before, UpTo}
use Rattle.check_access_order.specs.Passing.{Reaches, MadeAvailableBy, MadeVisibleBy, Available, Passed}
use Rattle.check_sync.specs.Internal.Places.{Known}
use Rattle.check_sync.specs.Internal.Passings.{VisibleFrom, AvailableAt, InvisibleFrom, NotPassedUntil}
use Rattle.check_sync.proofs.Around.{up_all, down_all}

path_within : (V : View) (x y : ℕ) → Before V x y → (x < length V.nodes) × (y < length V.nodes)
path_within V x y (one e) = edge_within V.nodes x y (sync_is_edge V.nodes x y e)
path_within V x y (then_on {b = z} p q) = ((path_within V x z p).0, (path_within V z y q).1)

leaves_within : (V : View) (o : Option ℕ) (n x : ℕ) → n < length V.nodes → LeavesIn V.nodes o n x → x < length V.nodes
leaves_within V None n x lt l = subst (λ z. z < length V.nodes) l lt
leaves_within V (Some stage) n x lt l = sync_within V x (waits V stage n x l).sync

enters_within : (V : View) (o : Option ℕ) (y m : ℕ) → m < length V.nodes → EntersIn V.nodes o y m → y < length V.nodes
enters_within V None y m lt l = subst (λ z. z < length V.nodes) (sym l) lt
enters_within V (Some stage) y m lt l = sync_within V y (lets V stage y m l).sync

-- what reaches an access is there, and the access is entered from it on
reaches_entered : (kind : AccessKind) (V : View) (y m : ℕ) → m < length V.nodes → Reaches kind V y m → (y < length V.nodes) × ((z : ℕ) × UpTo V y z × EntersIn V.nodes (stage_of kind) z m)
reaches_entered (Load agent.Host layout) V y m lt r = ((path_within V y m r).0, (m, inr r, refl))
reaches_entered (Load (agent.Of q bit) layout) V y m lt r = (enters_within V (stage_by (agent.Of q bit)) y m lt r, (y, inl refl, r))
reaches_entered (Store by layout) V y m lt r = (enters_within V (stage_by by) y m lt r, (y, inl refl, r))
reaches_entered (Transition layouts) V y m lt r = (enters_within V None y m lt r, (y, inl refl, r))
reaches_entered (Discard layout) V y m lt r = (enters_within V None y m lt r, (y, inl refl, r))
reaches_entered (Release handover) V y m lt r = (enters_within V None y m lt r, (y, inl refl, r))
reaches_entered (Acquire handover) V y m lt r = (enters_within V None y m lt r, (y, inl refl, r))

up_to_within : (V : View) (x y : ℕ) → UpTo V x y → y < length V.nodes → x < length V.nodes
up_to_within V x y (inl e) h = subst (λ n. n < length V.nodes) (sym e) h
up_to_within V x y (inr p) h = (path_within V x y p).0

pub none_visible : (V : View) → (x : ℕ) (b : NodeAccess) (count k : ℕ) → count ≡ length V.nodes → k ≡ count → Known V b → ((i : ℕ) → i < k → UpTo V x (down_from b.node count i) × MadeVisibleBy V b.node b.access (down_from b.node count i) → ⊥) → VisibleFrom V x b → ⊥
none_visible V x b count k e f K none (y, u, h) =
    let there : y < length V.nodes = (reaches_entered b.access.kind V y b.node K.node h.0).0 in
    let i = down_all b.node count y (subst (λ n. b.node < n) (sym e) K.node) (subst (λ n. y < n) (sym e) there) in
    none i.0 (subst (λ n. i.0 < n) (sym f) i.1) (subst (λ z. UpTo V x z × MadeVisibleBy V b.node b.access z) (sym i.2) (u, h))

pub visible_entered : (V : View) (x : ℕ) (b : NodeAccess) → Known V b → VisibleFrom V x b → EnteredFrom V x b
visible_entered V x b K (y, u, f) = let r = (reaches_entered b.access.kind V y b.node K.node f.0).1 in (r.0, up_to_on V x y r.0 u r.1, r.2)

-- what nothing makes visible from a node on nothing does from a later one on
pub invisible_on : (V : View) (d x : ℕ) (b : NodeAccess) → (VisibleFrom V d b → ⊥) → Before V d x → VisibleFrom V x b → ⊥
invisible_on V d x b never p (y, u, f) = never (y, up_to_on V d x y (inr p) u, f)

-- one node more does not make it available
pub until_more : (from : Option ℕ) (V : View) (a b : NodeAccess) (count k : ℕ) → Known V b → NotPassedUntil from V a b count k → (AvailableAt V a (up_from a.node count k) b → ⊥) → NotPassedUntil from V a b count (k + 1)
until_more None V a b count k K s none = below_more _ _ s none
until_more (Some d) V a b count k K s none = (s.0, s.1, below_more _ _ s.2 (λ l h. none (l, visible_entered V (up_from a.node count k) b K h)))

-- one node more makes it available, and none after it visible
pub until_seen : (from : Option ℕ) (V : View) (a b : NodeAccess) (count k : ℕ) → Known V b → NotPassedUntil from V a b count k → up_from a.node count k < length V.nodes → AvailableAt V a (up_from a.node count k) b → (VisibleFrom V (up_from a.node count k) b → ⊥) → NotPassedUntil (Some (up_from a.node count k)) V a b count (k + 1)
until_seen None V a b count k K s there here none = (record { node = there; never = none }, here, below_more _ _ (λ i lt l h. s i lt (l, visible_entered V (up_from a.node count i) b K h)) (λ l h. none h))
until_seen (Some d) V a b count k K s there here none = (record { node = there; never = none }, here, below_more _ _ s.2 (λ l h. none h))

up_at : (V : View) → (a : NodeAccess) (count : ℕ) → count ≡ length V.nodes → Known V a → (x : ℕ) → MadeAvailableBy V a.node a.access x → (k : ℕ) × (k < count) × (up_from a.node count k ≡ x)
up_at V a count e K x l = up_all a.node count x (subst (λ n. a.node < n) (sym e) K.node) (subst (λ n. x < n) (sym e) (leaves_within V (stage_of a.access.kind) a.node x K.node l.0))

-- no node makes it available
pub until_none : (V : View) → (a b : NodeAccess) (count k : ℕ) → count ≡ length V.nodes → k ≡ count → Known V a → NotPassedUntil None V a b count k → Available V a.node a.access b.node b.access → ⊥
until_none V a b count k e f K s h =
    let i = up_at V a count e K h.0 h.2 in
    s i.0 (subst (λ n. i.0 < n) (sym f) i.1) (subst (λ z. AvailableAt V a z b) (sym i.2) (h.2, (h.1, h.3, h.4)))

-- some do, and none makes it visible
pub until_some : (V : View) → (a b : NodeAccess) (d count k : ℕ) → count ≡ length V.nodes → k ≡ count → Known V a → NotPassedUntil (Some d) V a b count k → Available V a.node a.access b.node b.access × (Passed V a.node a.access b.node b.access → ⊥)
until_some V a b d count k e f K s = (
  (d, s.1.1.0, s.1.0, s.1.1.1, s.1.1.2),
  λ h.
      let i = up_at V a count e K h.0 h.2 in
      s.2 i.0 (subst (λ n. i.0 < n) (sym f) i.1) (subst (λ z. MadeAvailableBy V a.node a.access z) (sym i.2) h.2) (subst (λ z. VisibleFrom V z b) (sym i.2) (h.1, h.3, h.4)),
)

-- of the node that was seen last
pub until_invisible : (from : Option ℕ) (V : View) (a b : NodeAccess) (count k : ℕ) → NotPassedUntil from V a b count k → IfSome from (λ d. InvisibleFrom V d b)
until_invisible None V a b count k s = _
until_invisible (Some d) V a b count k s = s.0
