-- Alike views tie the same accesses.
use Rattle.std.proofs.Common.{◌≡◌, ◌↔◌, inl, inr, ℕ, List, Option, Some, None, refl, sym, ◌∙◌, subst, ⊎_elim, slice_get}
use Rattle.base_reach.specs.Paths.{one, then_on}
use Rattle.check_sync.specs.Synchronized.{Clashing}
use Rattle.check_sync.specs.declared.sync_hazard.Flaw.{Flaw}
use Rattle.check_sync.specs.declared.sync_hazard.Flaw.TheVariants.{Unordered, NotAvailable, NotVisible}
use Rattle.check_access.specs.ValidView.{Has, NodeAccessAt}
use Rattle.check_access.specs.Views.{View, accesses_of}
use Rattle.check_access.specs.declared.access.Access.{Access}
use Rattle.check_access.specs.declared.access.Agent.TheVariants as agent
use Rattle.check_access.specs.declared.access.AccessKind.{AccessKind}
use Rattle.check_access.specs.declared.access.AccessKind.TheVariants.{Load, Store, Transition, Discard, Release, Acquire}
use Rattle.check_access.specs.declared.node_access.NodeAccess.{NodeAccess}
use Rattle.law_alike.specs.Alike.{Alike}
use Rattle.check_access_order.specs.Order.{Before, UpTo, LeavesIn, EntersIn, Leaves, Enters, InOrder}
use Rattle.check_access_order.specs.Passing.{Reaches, MadeAvailableBy, MadeVisibleBy, Available, Passed}
use Rattle.check_access_order.specs.Stages.{stage_of}
use Rattle.check_sync.specs.Synchronized.{Synchronized, PairSynchronized, Flawed, FirstFlaw}

has_in : (V W : View) (n : ℕ) (a : Access) → accesses_of V n ≡ accesses_of W n → Has V n a → Has W n a
has_in V W n a e (i, h) = (i, subst (λ l. slice_get l i ≡ Some a) e h)

pub turned : (V W : View) → Alike V W → Alike W V
turned V W K = record {
  accesses = λ n. sym (K.accesses n);
  clash = λ a b. sym (K.clash a b);
  edge = λ x y. sym (K.edge x y);
  waits = λ n x stage a h e. sym (K.waits n x stage a (back n a h) e);
  lets = λ y m stage b h e. sym (K.lets y m stage b (back m b h) e);
  flushed = λ n x a h. let f = K.flushed n x a (back n a h) in (f.1, f.0);
  shown = λ m y b h. let f = K.shown m y b (back m b h) in (f.1, f.0);
}
  where
    back : (n : ℕ) (a : Access) → Has W n a → Has V n a
    back n a h = has_in W V n a (sym (K.accesses n)) h

module _ (V W : View) (K : Alike V W) where
  pub has_on : (n : ℕ) (a : Access) → Has V n a → Has W n a
  has_on n a h = has_in V W n a (K.accesses n) h

  pub has_back : (n : ℕ) (a : Access) → Has W n a → Has V n a
  has_back n a h = has_in W V n a (sym (K.accesses n)) h

  before_on : (x y : ℕ) → Before V x y → Before W x y
  before_on x y (one e) = one (sym (K.edge x y) ∙ e)
  before_on x y (then_on {b = z} p q) = then_on (before_on x z p) (before_on z y q)

  up_to_on : (x y : ℕ) → UpTo V x y → UpTo W x y
  up_to_on x y (inl e) = inl e
  up_to_on x y (inr p) = inr (before_on x y p)

  leaves_by : (n x : ℕ) (a : Access) (o : Option ℕ) → Has V n a → stage_of a.kind ≡ o → LeavesIn V.nodes o n x → LeavesIn W.nodes o n x
  leaves_by n x a None h e l = l
  leaves_by n x a (Some stage) h e l = sym (K.waits n x stage a h e) ∙ l

  leaves_on : (n x : ℕ) (a : Access) → Has V n a → Leaves V n a x → Leaves W n a x
  leaves_on n x a h l = leaves_by n x a (stage_of a.kind) h refl l

  enters_by : (y m : ℕ) (b : Access) (o : Option ℕ) → Has V m b → stage_of b.kind ≡ o → EntersIn V.nodes o y m → EntersIn W.nodes o y m
  enters_by y m b None h e l = l
  enters_by y m b (Some stage) h e l = sym (K.lets y m stage b h e) ∙ l

  enters_on : (y m : ℕ) (b : Access) → Has V m b → Enters V y m b → Enters W y m b
  enters_on y m b h l = enters_by y m b (stage_of b.kind) h refl l

  pub order_on : (n m : ℕ) (a b : Access) → Has V n a → Has V m b → InOrder V n a m b → InOrder W n a m b
  order_on n m a b ha hb (x, y, l, u, e) = (x, y, leaves_on n x a ha l, up_to_on x y u, enters_on y m b hb e)

  reaches_by : (kind : AccessKind) (y m : ℕ) → (EntersIn V.nodes (stage_of kind) y m → EntersIn W.nodes (stage_of kind) y m) → Reaches kind V y m → Reaches kind W y m
  reaches_by (Load agent.Host layout) y m f r = before_on y m r
  reaches_by (Load (agent.Of q bit) layout) y m f r = f r
  reaches_by (Store by layout) y m f r = f r
  reaches_by (Transition layouts) y m f r = f r
  reaches_by (Discard layout) y m f r = f r
  reaches_by (Release handover) y m f r = f r
  reaches_by (Acquire handover) y m f r = f r

  flushes_on : (n x : ℕ) (a : Access) → Has V n a → MadeAvailableBy V n a x → MadeAvailableBy W n a x
  flushes_on n x a h (l, f) = (leaves_on n x a h l, (K.flushed n x a h).0 f)

  shows_on : (m y : ℕ) (b : Access) → Has V m b → MadeVisibleBy V m b y → MadeVisibleBy W m b y
  shows_on m y b h (r, f) = (reaches_by b.kind y m (enters_on y m b h) r, (K.shown m y b h).0 f)

  pub available_on : (n m : ℕ) (a b : Access) → Has V n a → Has V m b → Available V n a m b → Available W n a m b
  available_on n m a b ha hb (x, y, f, u, e) = (x, y, flushes_on n x a ha f, up_to_on x y u, enters_on y m b hb e)

  pub passed_on : (n m : ℕ) (a b : Access) → Has V n a → Has V m b → Passed V n a m b → Passed W n a m b
  passed_on n m a b ha hb (x, y, f, u, g) = (x, y, flushes_on n x a ha f, up_to_on x y u, shows_on m y b hb g)

  pub clashing_on : (x y : ℕ) (a b : Access) → Clashing V x a y b → Clashing W x a y b
  clashing_on x y a b c = record { apart = c.apart; clash = sym (K.clash a b) ∙ c.clash }

-- TIED

module _ (V W : View) (K : Alike V W) where
  abbrev L : Alike W V
  L = turned V W K

  synchronized_on : Synchronized V → Synchronized W
  synchronized_on T = record {
    ordered = λ x y a b ha hb c. ⊎_elim
        (λ p. inl (order_on V W K x y a b (has_back V W K x a ha) (has_back V W K y b hb) p))
        (λ p. inr (order_on V W K y x b a (has_back V W K y b hb) (has_back V W K x a ha) p))
        (T.ordered x y a b (has_back V W K x a ha) (has_back V W K y b hb) (clashing_on W V L x y a b c));
    passed = λ x y a b ha hb c p k t. passed_on V W K x y a b (has_back V W K x a ha) (has_back V W K y b hb)
        (T.passed x y a b (has_back V W K x a ha) (has_back V W K y b hb) (clashing_on W V L x y a b c) (order_on W V L x y a b ha hb p) k t);
  }

  pair_on : (a b : NodeAccess) → Has V a.node a.access → Has V b.node b.access → PairSynchronized V a b → PairSynchronized W a b
  pair_on a b ha hb h c =
      let p = h (clashing_on W V L a.node b.node a.access b.access c) in
      (order_on V W K a.node b.node a.access b.access ha hb p.0, λ k t. passed_on V W K a.node b.node a.access b.access ha hb (p.1 k t))

  flaw_on : (flaw : Flaw) (a b : NodeAccess) → Has V a.node a.access → Has V b.node b.access → Flawed flaw V a b → Flawed flaw W a b
  flaw_on Unordered a b ha hb f = λ p. f (order_on W V L a.node b.node a.access b.access (has_on V W K a.node a.access ha) (has_on V W K b.node b.access hb) p)
  flaw_on NotAvailable a b ha hb (p, k, t, f) =
      (order_on V W K a.node b.node a.access b.access ha hb p, k, t, λ h. f (available_on W V L a.node b.node a.access b.access (has_on V W K a.node a.access ha) (has_on V W K b.node b.access hb) h))
  flaw_on NotVisible a b ha hb (p, k, t, e, f) =
      (order_on V W K a.node b.node a.access b.access ha hb p, k, t, available_on V W K a.node b.node a.access b.access ha hb e, λ h. f (passed_on W V L a.node b.node a.access b.access (has_on V W K a.node a.access ha) (has_on V W K b.node b.access hb) h))

  pub first_on : (accesses : List NodeAccess) → ((i : ℕ) (a : NodeAccess) → NodeAccessAt accesses i a → Has V a.node a.access) → (i j : ℕ) (a b : NodeAccess) (flaw : Flaw) → FirstFlaw V accesses i j a b flaw → FirstFlaw W accesses i j a b flaw
  first_on accesses has i j a b flaw F = record {
    first = F.first;
    second = F.second;
    rising = F.rising;
    clashing = clashing_on V W K a.node b.node a.access b.access F.clashing;
    flawed = flaw_on flaw a b (has i a F.first) (has j b F.second) F.flawed;
    below = λ k l c d hc hd lt low. pair_on c d (has k c hc) (has l d hd) (F.below k l c d hc hd lt low);
    least = λ k c lt hc. pair_on c b (has k c hc) (has j b F.second) (F.least k c lt hc);
  }

pub alike_synchronized : (V W : View) → Alike V W → Synchronized V ↔ Synchronized W
alike_synchronized V W K = (synchronized_on V W K, synchronized_on W V (turned V W K))
