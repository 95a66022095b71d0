-- What is synchronized with a change that clashes with both is synchronized.
use Rattle.std.proofs.Common.{◌≡◌, ◌≢◌, ◌⊎◌, inl, inr, ℕ, ◌+◌, ◌<◌, ◌==◌, ◌&&◌, ◌||◌, true, false, length, refl, sym, ◌∙◌, eq-eqb, arith}
use Rattle.std.proofs.lemmas.Bool.{cases_eq, and_from, false≢true, or_left, lt-ltb}
use Rattle.base.specs.Shapes.{bytes_of}
use Rattle.check_access.specs.AccessKinds.{changes, transfers}
use Rattle.check_access.specs.ValidView.{ValidView}
use Rattle.check_access.specs.Views as views
use Rattle.check_access.specs.Views.{View, overlap, piece_at, is_before_end}
use Rattle.check_access.specs.declared.access.Access.{Access}
use Rattle.check_access.specs.declared.access.AccessKind.{AccessKind}
use Rattle.check_access.specs.declared.access.AccessKind.TheVariants.{Load, Store, Transition, Discard, Release, Acquire}
use Rattle.check_access.specs.declared.node_access.NodeAccess.{NodeAccess}
use Rattle.check_access_order.specs.Passing.{Reaches, Passed}
use Rattle.check_sync.specs.Synchronized.{Clashing, PairSynchronized}
use Rattle.check_access_order.proofs.StagesOf.{stage_one}
use Rattle.check_access_order.proofs.Through.{join, goes_through}
use Rattle.check_access_order.proofs.Ways.{up_to_on}
use Rattle.check_access_order.specs.Stages.{stage_of}
use Rattle.check_access_order.specs.Order.{EntersIn, InOrder}

pub change_plain : (d : AccessKind) → changes d ≡ true → transfers d ≡ false
change_plain (Load agent layout) h = absurd (false≢true h)
change_plain (Store agent layout) h = refl
change_plain (Transition layouts) h = refl
change_plain (Discard layout) h = refl
change_plain (Release handover) h = absurd (false≢true h)
change_plain (Acquire handover) h = absurd (false≢true h)

-- a piece that has bytes overlaps itself
pub itself : (V : View) (p : ℕ) → ValidView V → p < length V.pieces → overlap V p p ≡ true
itself V p S h =
    let P = piece_at V p in
    let e : is_before_end P P ≡ true = lt-ltb P.offset (P.offset + bytes_of P.shape) (omega (arith, S.some p h)) in
    and_from (P.memory == P.memory) (is_before_end P P && is_before_end P P) (eq-eqb P.memory P.memory refl) (and_from (is_before_end P P) (is_before_end P P) e e)

pub clash_change : (V : View) (a b : Access) → overlap V a.piece b.piece ≡ true → (changes a.kind || changes b.kind) ≡ true → views.clash V a b ≡ true
clash_change V a b over change = or_left (overlap V a.piece b.piece && (changes a.kind || changes b.kind)) ((a.piece == b.piece) && (transfers a.kind || transfers b.kind)) (and_from (overlap V a.piece b.piece) (changes a.kind || changes b.kind) over change)

-- a change is entered by what makes memory visible to it
change_entered : (V : View) (kind : AccessKind) (y m : ℕ) → changes kind ≡ true → Reaches kind V y m → EntersIn V.nodes (stage_of kind) y m
change_entered V (Store by layout) y m c r = r
change_entered V (Transition layouts) y m c r = r
change_entered V (Discard layout) y m c r = r
change_entered V (Load by layout) y m c r = absurd (false≢true c)
change_entered V (Release handover) y m c r = absurd (false≢true c)
change_entered V (Acquire handover) y m c r = absurd (false≢true c)

pub passed_through : (V : View) (n m k : ℕ) (a c b : Access) → changes c.kind ≡ true → Passed V n a m c → Passed V m c k b → Passed V n a k b
passed_through V n m k a c b e (x, y, l, u, f) (z, w, g, v, h) =
    (x, w, l, up_to_on V x y w u (up_to_on V y z w (join V (stage_of c.kind) y m z (stage_one c.kind) (change_entered V c.kind y m e f.0) g.0) v), h)

module _ (V : View) (a c b : NodeAccess) (change : changes c.access.kind ≡ true) (T : PairSynchronized V a c) (U : PairSynchronized V c b) (ac : views.clash V a.access c.access ≡ true) (cb : views.clash V c.access b.access ≡ true) where
  on_left : a.node ≢ c.node → Clashing V a.node a.access c.node c.access
  on_left h = record { apart = h; clash = ac }

  on_right : c.node ≢ b.node → Clashing V c.node c.access b.node b.access
  on_right h = record { apart = h; clash = cb }

  ordered : (a.node ≡ c.node → InOrder V c.node c.access b.node b.access → InOrder V a.node a.access b.node b.access) → (c.node ≡ b.node → InOrder V a.node a.access c.node c.access → InOrder V a.node a.access b.node b.access) → a.node ≢ b.node → (a.node ≡ c.node) ⊎ (a.node ≢ c.node) → (c.node ≡ b.node) ⊎ (c.node ≢ b.node) → InOrder V a.node a.access b.node b.access
  ordered left right apart (inl e) (inl f) = absurd (apart (e ∙ f))
  ordered left right apart (inl e) (inr g) = left e (U (on_right g)).0
  ordered left right apart (inr g) (inl f) = right f (T (on_left g)).0
  ordered left right apart (inr g) (inr h) = goes_through V a.node c.node b.node a.access c.access b.access (T (on_left g)).0 (U (on_right h)).0

  -- after a node's change comes nothing of that node but its half of a transfer
  pub through : (a.node ≡ c.node → InOrder V c.node c.access b.node b.access → InOrder V a.node a.access b.node b.access) → (c.node ≡ b.node → InOrder V a.node a.access c.node c.access → InOrder V a.node a.access b.node b.access) → (a.node ≡ c.node → changes a.access.kind ≡ true → transfers c.access.kind ≡ true) → (c.node ≡ b.node → transfers b.access.kind ≡ true) → PairSynchronized V a b
  through left right first last C = (
    ordered left right C.apart (cases_eq a.node c.node) (cases_eq c.node b.node),
    λ ha hb.
        passed_through V a.node c.node b.node a.access c.access b.access change
        ((T (on_left (λ e. false≢true (sym (change_plain c.access.kind change) ∙ first e ha)))).1 ha (change_plain c.access.kind change))
        ((U (on_right (λ e. false≢true (sym hb ∙ last e)))).1 change hb),
  )
