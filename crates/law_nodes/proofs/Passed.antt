-- What is passed on by the order of accesses is passed on by that of nodes, and the other way.
use Rattle.std.proofs.Common.{◌≡◌, inl, inr, ℕ, true, false, None, refl, sym, ◌∙◌, subst, ⊎_elim}
use Rattle.base.proofs.Booleans.{clash}
use Rattle.check_order.specs.Edges.{is_sync, is_host}
use Rattle.check_order.specs.declared.kind.Kind.{Kind}
use Rattle.check_order.specs.declared.kind.Kind.TheVariants.{Command, Barrier, Wait, Signal, Host}
use Rattle.base_reach.specs.Paths.{one}
use Rattle.law_nodes.proofs.Passes as paths
use Rattle.law_nodes.specs.Passing as nodes
use Rattle.check_access.specs.AccessKinds.{changes, transfers}
use Rattle.check_access.specs.ValidView.{ValidView, Has}
use Rattle.check_access.specs.Views.{View}
use Rattle.check_access.specs.declared.access.Access.{Access}
use Rattle.check_access.specs.declared.access.Agent.{Agent}
use Rattle.check_access.specs.declared.access.Agent.TheVariants as agent
use Rattle.check_access.specs.declared.access.AccessKind.{AccessKind}
use Rattle.check_access.specs.declared.access.AccessKind.TheVariants.{Load, Store, Transition, Discard, Release, Acquire}
use Rattle.check_access_order.proofs.NodeKinds.{sync_alone, host_alone}
use Rattle.check_access_order.proofs.Sites.{Site, site}
use Rattle.law_nodes.proofs.Sites.{leaves_out, out_leaves, enters_in, in_enters, edge_out, edge_in, out_edge, in_edge}
use Rattle.check_access_order.proofs.Ways.{at, commands}
use Rattle.law_nodes.proofs.Ways.{In, path_leads, up_to_old, up_to_new, before_old, in_old, lone_out}
use Rattle.check_access_order.specs.Order.{Before, UpTo, LeavesIn, EntersIn}
use Rattle.check_access_order.specs.Passing.{FlushedBy, ShownBy, Reaches, Available, Passed}
use Rattle.check_access_order.specs.Single.{Single}
use Rattle.check_access_order.specs.Stages.{stage_of}

no_host : (kind : Kind) → is_sync kind ≡ true → is_host kind ≡ true → ⊥
no_host Command h g = clash h
no_host Barrier h g = clash g
no_host (Wait queue value) h g = clash g
no_host (Signal value) h g = clash g
no_host Host h g = clash h

module _ (V : View) (A : ValidView V) (S : Single V) where
  alone : (n : ℕ) → is_sync (at V n).kind ≡ true → commands V n ≡ false
  alone n h = sync_alone (at V n).kind h

  -- a store is made by a command
  store_node : (n : ℕ) (by : Agent) (layout : _) → Site V n (Store by layout) → commands V n ≡ true
  store_node n by layout (inl c) = c.node
  store_node n by layout (inr (inl b)) = absurd (⊎_elim (λ e. clash e) (λ e. clash e) b.barrier)
  store_node n by layout (inr (inr r)) = absurd cc

  -- what neither loads nor stores is made by a barrier
  free_node : (n : ℕ) (kind : AccessKind) → stage_of kind ≡ None → Site V n kind → commands V n ≡ false
  free_node n kind e (inl c) = absurd cc
  free_node n kind e (inr (inl b)) = alone n b.node
  free_node n kind e (inr (inr r)) = host_alone (at V n).kind r.node

  -- AVAILABLE

  abbrev Flushes : AccessKind → ℕ → ℕ → ℕ → Type 0
  Flushes kind n piece x = LeavesIn V.nodes (stage_of kind) n x × FlushedBy kind V piece x

  flushes : (kind : AccessKind) (n piece x : ℕ) → Site V n kind → changes kind ≡ true → nodes.AvailableBy kind V n piece x → Flushes kind n piece x × (commands V x ≡ false)
  flushes (Store by layout) n piece x s c h =
      ((out_leaves V (Store by layout) n x s (edge_out V n x (store_node n by layout s) h.0), h.1), alone x (A.available_by_sync x piece by h.1))
  flushes (Transition layouts) n piece x s c h = ((h, _), subst (λ z. commands V z ≡ false) h (free_node n (Transition layouts) refl s))
  flushes (Discard layout) n piece x s c h = ((h, _), subst (λ z. commands V z ≡ false) h (free_node n (Discard layout) refl s))
  flushes (Load by layout) n piece x s c h = absurd (clash c)
  flushes (Release handover) n piece x s c h = absurd (clash c)
  flushes (Acquire handover) n piece x s c h = absurd (clash c)

  flushes_old : (kind : AccessKind) (n piece x : ℕ) → Site V n kind → changes kind ≡ true → Flushes kind n piece x → nodes.AvailableBy kind V n piece x
  flushes_old (Store by layout) n piece x s c h = (out_edge V n x (store_node n by layout s) (leaves_out V (Store by layout) n x s h.0), h.1)
  flushes_old (Transition layouts) n piece x s c h = h.0
  flushes_old (Discard layout) n piece x s c h = h.0
  flushes_old (Load by layout) n piece x s c h = absurd (clash c)
  flushes_old (Release handover) n piece x s c h = absurd (clash c)
  flushes_old (Acquire handover) n piece x s c h = absurd (clash c)

  -- VISIBLE

  abbrev Shows : AccessKind → ℕ → ℕ → ℕ → Type 0
  Shows kind m piece y = Reaches kind V y m × ShownBy kind V piece y

  -- what is right before a command enters it
  entered : (kind : AccessKind) (y m : ℕ) → Site V m kind → commands V m ≡ true → nodes.Reaches V y m → EntersIn V.nodes (stage_of kind) y m
  entered kind y m s e (inl h) = in_enters V kind y m s (edge_in V y m e h)
  entered kind y m s e (inr h) = absurd (clash (sym (host_alone (at V m).kind h.0) ∙ e))

  queue_node : (m q bit : ℕ) (layout : _) → Site V m (Load (agent.Of q bit) layout) → commands V m ≡ true
  queue_node m q bit layout (inl c) = c.node
  queue_node m q bit layout (inr (inl b)) = absurd (⊎_elim (λ e. clash e) (λ e. clash e) b.barrier)
  queue_node m q bit layout (inr (inr r)) = absurd cc

  host_node : (m : ℕ) (layout : _) → Site V m (Load agent.Host layout) → is_host (at V m).kind ≡ true
  host_node m layout (inl c) = absurd cc
  host_node m layout (inr (inl b)) = absurd (⊎_elim (λ e. clash e) (λ e. clash e) b.barrier)
  host_node m layout (inr (inr r)) = r.node

  read_before : (y m : ℕ) → is_sync (at V y).kind ≡ true → is_host (at V m).kind ≡ true → nodes.Reaches V y m → Before V y m
  read_before y m s h r = ⊎_elim
      (λ e. absurd (no_host (at V y).kind s (subst (λ z. is_host (at V z).kind ≡ true) (sym e) h)))
      (λ p. p)
      (up_to_new V S y m (alone y s) (host_alone (at V m).kind h) (inr (⊎_elim (λ e. one e) (λ p. p.1) r)))

  shows : (kind : AccessKind) (m piece y : ℕ) → Site V m kind → transfers kind ≡ false → nodes.VisibleBy kind V m piece y → Shows kind m piece y × (commands V y ≡ false)
  shows (Load (agent.Of q bit) layout) m piece y s t h =
      ((entered (Load (agent.Of q bit) layout) y m s (queue_node m q bit layout s) h.0, h.1), alone y (A.visible_by_sync y piece (agent.Of q bit) h.1))
  shows (Load agent.Host layout) m piece y s t h =
      let v = A.visible_by_sync y piece agent.Host h.1 in
      ((read_before y m v (host_node m layout s) h.0, h.1), alone y v)
  shows (Store by layout) m piece y s t h = ((entered (Store by layout) y m s (store_node m by layout s) h.0, h.1), alone y (A.visible_by_sync y piece by h.1))
  shows (Transition layouts) m piece y s t h = ((h, _), subst (λ z. commands V z ≡ false) (sym h) (free_node m (Transition layouts) refl s))
  shows (Discard layout) m piece y s t h = ((h, _), subst (λ z. commands V z ≡ false) (sym h) (free_node m (Discard layout) refl s))
  shows (Release handover) m piece y s t h = absurd (clash (sym t))
  shows (Acquire handover) m piece y s t h = absurd (clash (sym t))

  shows_old : (kind : AccessKind) (m piece y : ℕ) → Site V m kind → transfers kind ≡ false → Shows kind m piece y → nodes.VisibleBy kind V m piece y
  shows_old (Load (agent.Of q bit) layout) m piece y s t h = (inl (in_edge V y m (queue_node m q bit layout s) (enters_in V (Load (agent.Of q bit) layout) y m s h.0)), h.1)
  shows_old (Load agent.Host layout) m piece y s t h = (inr (host_node m layout s, before_old V y m h.0), h.1)
  shows_old (Store by layout) m piece y s t h = (inl (in_edge V y m (store_node m by layout s) (enters_in V (Store by layout) y m s h.0)), h.1)
  shows_old (Transition layouts) m piece y s t h = h.0
  shows_old (Discard layout) m piece y s t h = h.0
  shows_old (Release handover) m piece y s t h = absurd (clash (sym t))
  shows_old (Acquire handover) m piece y s t h = absurd (clash (sym t))

  -- PASSED ON

  pub passed_new : (n m : ℕ) (a b : Access) → Has V n a → Has V m b → changes a.kind ≡ true → transfers b.kind ≡ false → nodes.Passed V n a m b → Passed V n a m b
  passed_new n m a b ha hb c t (x, y, f, u, g) =
      let p = flushes a.kind n a.piece x (site V A S n a ha) c f in
      let q = shows b.kind m b.piece y (site V A S m b hb) t g in
      (x, y, p.0, up_to_new V S x y p.1 q.1 u, q.0)

  pub passed_old : (n m : ℕ) (a b : Access) → Has V n a → Has V m b → changes a.kind ≡ true → transfers b.kind ≡ false → Passed V n a m b → nodes.Passed V n a m b
  passed_old n m a b ha hb c t (x, y, f, u, g) =
      (x, y, flushes_old a.kind n a.piece x (site V A S n a ha) c f, up_to_old V x y u, shows_old b.kind m b.piece y (site V A S m b hb) t g)

  -- from a synchronizing node up to a node: into what enters it
  enters_by : (x m : ℕ) → commands V x ≡ false → nodes.UpTo V x m → (y : ℕ) × UpTo V x y × In V y m
  enters_by x m e (inl h) = (x, inl refl, inl (subst (λ z. commands V z ≡ false) h e, h))
  enters_by x m e (inr p) =
      let l = path_leads V S x m p in
      (l.y, subst (λ z. UpTo V z l.y) (sym (lone_out V S x l.x e l.out)) l.way, l.into)

  pub available_new : (n m : ℕ) (a b : Access) → Has V n a → Has V m b → changes a.kind ≡ true → nodes.Available V n a m → Available V n a m b
  available_new n m a b ha hb c (x, f, u) =
      let p = flushes a.kind n a.piece x (site V A S n a ha) c f in
      let e = enters_by x m p.1 u in
      (x, e.0, p.0, e.1, in_enters V b.kind e.0 m (site V A S m b hb) e.2)

  pub available_old : (n m : ℕ) (a b : Access) → Has V n a → Has V m b → changes a.kind ≡ true → Available V n a m b → nodes.Available V n a m
  available_old n m a b ha hb c (x, y, f, u, e) =
      (x, flushes_old a.kind n a.piece x (site V A S n a ha) c f, join (up_to_old V x y u) (in_old V y m (enters_in V b.kind y m (site V A S m b hb) e)))
    where
      join : nodes.UpTo V x y → nodes.UpTo V y m → nodes.UpTo V x m
      join p q = paths.up_to_on V x y m p q
