-- An access is passed on through a node that it enters and that leads to a node from which another leaves.
use Rattle.std.proofs.Common.{◌≡◌, inl, inr, ℕ, true, refl, sym, subst}
use Rattle.law_plan.proofs.Crossing.{to_sync, from_sync, to_signal, from_wait}
use Rattle.law_plan.specs.Crossings.{Sooner, Crossed, Later, Open, IsFull, Flushes, Shows}
use Rattle.law_plan.specs.Masks.{Takes, Gives, Leaves}
use Rattle.law_plan.specs.Nodes.{IsCommand, IsBarrier}
use Rattle.check_order.specs.Edges.{edge}
use Rattle.base_reach.specs.Paths.{one, then_on}
use Rattle.law_nodes.proofs.Passes.{up_to_on}
use Rattle.law_nodes.specs.Passing.{Before, UpTo, AvailableBy, VisibleBy, Available, Passed}
use Rattle.check_access.specs.ValidView.{Has}
use Rattle.check_access.specs.Views.{View}
use Rattle.check_access.specs.declared.access.Access.{Access}
use Rattle.check_access.specs.declared.access.AccessKind.{AccessKind}
use Rattle.check_access.specs.declared.access.AccessKind.TheVariants.{Load, Store, Transition, Discard, Release, Acquire}

-- what access a of node x left is made available on the way to t
pub record Enters (V : View) (x : ℕ) (a : Access) (t : ℕ) : Type 0 where
  pub before : Before V x t
  pub available : Available V x a t

-- access a of node x is done before access b of node y, and is passed on to it
pub record Synchronizes (V : View) (x : ℕ) (a : Access) (y : ℕ) (b : Access) : Type 0 where
  pub before : Before V x y
  pub passed : Passed V x a y b

-- WAYS

pub before_up : (V : View) (x y z : ℕ) → Before V x y → UpTo V y z → Before V x z
before_up V x y z p (inl e) = subst (λ u. Before V x u) e p
before_up V x y z p (inr q) = then_on p q

pub up_before : (V : View) (x y z : ℕ) → UpTo V x y → Before V y z → Before V x z
up_before V x y z (inl e) q = subst (λ u. Before V u z) (sym e) q
up_before V x y z (inr p) q = then_on p q

pub enters_then : (V : View) (x : ℕ) (a : Access) (t u : ℕ) → Enters V x a t → UpTo V t u → Enters V x a u
enters_then V x a t u E f = let s = E.available in record { before = before_up V x t u E.before f; available = (s.0, s.1, up_to_on V s.0 t u s.2 f) }

leaves_after : (V : View) (s t y : ℕ) (b : Access) → UpTo V s t → Leaves V t y b → Leaves V s y b
leaves_after V s t y b f L = let z = L.shown in record { from = up_to_on V s t y f L.from; shown = (z.0, up_to_on V s t z.0 f z.1, z.2) }

pub synchronizes_through : (V : View) (x : ℕ) (a : Access) (t y : ℕ) (b : Access) → Enters V x a t → Leaves V t y b → Synchronizes V x a y b
synchronizes_through V x a t y b E L =
    let s = E.available in
    let z = L.shown in
    record { before = before_up V x t y E.before L.from; passed = (s.0, z.0, s.1, up_to_on V s.0 t z.0 s.2 z.1, z.2) }

-- ONE EDGE

available_at : (d : AccessKind) (V : View) (x t p : ℕ) → edge V.nodes x t ≡ true → Flushes d V t p → (u : ℕ) × AvailableBy d V x p u × UpTo V u t
available_at (Store agent layout) V x t p e f = (t, (e, f), inl refl)
available_at (Load agent layout) V x t p e f = (x, refl, inr (one e))
available_at (Transition layouts) V x t p e f = (x, refl, inr (one e))
available_at (Discard layout) V x t p e f = (x, refl, inr (one e))
available_at (Release handover) V x t p e f = (x, refl, inr (one e))
available_at (Acquire handover) V x t p e f = (x, refl, inr (one e))

shown_at : (d : AccessKind) (V : View) (t y p : ℕ) → edge V.nodes t y ≡ true → Shows d V t p → (z : ℕ) × UpTo V t z × VisibleBy d V y p z
shown_at (Store agent layout) V t y p e f = (t, inl refl, (inl e, f))
shown_at (Load agent layout) V t y p e f = (t, inl refl, (inl e, f))
shown_at (Transition layouts) V t y p e f = (y, inr (one e), refl)
shown_at (Discard layout) V t y p e f = (y, inr (one e), refl)
shown_at (Release handover) V t y p e f = (y, inr (one e), refl)
shown_at (Acquire handover) V t y p e f = (y, inr (one e), refl)

enters_edge : (V : View) (x : ℕ) (a : Access) (t : ℕ) → edge V.nodes x t ≡ true → Flushes a.kind V t a.piece → Enters V x a t
enters_edge V x a t e f = record { before = one e; available = available_at a.kind V x t a.piece e f }

leaves_edge : (V : View) (t y : ℕ) (b : Access) → edge V.nodes t y ≡ true → Shows b.kind V t b.piece → Leaves V t y b
leaves_edge V t y b e f = record { from = inr (one e); shown = shown_at b.kind V t y b.piece e f }

-- ON ONE QUEUE, OR CROSSED

module _ (V : View) (D : IsFull V) where
  pub crossed_before : (x y : ℕ) → Open V.nodes x → Open V.nodes y → Crossed V.nodes x y → Before V x y
  crossed_before x y ox oy C = then_on (one (to_signal V D x C.sent ox C.signal C.after)) (then_on C.path (one (from_wait V D C.got y oy C.wait C.before)))

  -- an access of a command enters a later barrier
  pub enters_later : (x : ℕ) (a : Access) (t : ℕ) → IsCommand V x → IsBarrier V t → Has V x a → (Sooner V.nodes x t → Takes V x a t) → Later V.nodes x t → Enters V x a t
  enters_later x a t X B h f (inl s) = let T = f s in enters_edge V x a t (to_sync V.nodes x t s B.sync T.stage) T.flushes
  enters_later x a t X B h f (inr C) =
      enters_then V x a C.sent t (enters_edge V x a C.sent (to_signal V D x C.sent X.opened C.signal C.after) (D.flushed x C.sent a C.signal C.after X.kind h))
      (inr (then_on C.path (one (from_wait V D C.got t B.opened C.wait C.before))))

  -- and one of a command leaves an earlier barrier
  pub leaves_later : (t y : ℕ) (b : Access) → IsBarrier V t → IsCommand V y → Has V y b → (Sooner V.nodes t y → Gives V t y b) → Later V.nodes t y → Leaves V t y b
  leaves_later t y b B Y h f (inl s) = let G = f s in leaves_edge V t y b (from_sync V.nodes t y s B.sync G.stage) G.shows
  leaves_later t y b B Y h f (inr C) =
      leaves_after V t C.got y b (inr (then_on (one (to_signal V D t C.sent B.opened C.signal C.after)) C.path))
      (leaves_edge V C.got y b (from_wait V D C.got y Y.opened C.wait C.before) (D.shown C.got y b C.wait C.before Y.kind h))
