-- Where accesses leave to and are entered from, by paths over all nodes.
use Rattle.std.proofs.Common.{◌≡◌, ◌≢◌, inl, inr, ℕ, Bool, true, false, ◌||◌, ◌&&◌, nat_lt, refl, sym, ap, ◌∙◌, subst, ⊎_elim}
use Rattle.std.proofs.lemmas.Bool.{or_cases}
use Rattle.base.proofs.Booleans.{clash}
use Rattle.check_order.specs.Edges as all
use Rattle.check_order.specs.Edges.{is_sync}
use Rattle.check_access.specs.ValidView.{ValidView, Has}
use Rattle.check_access.specs.Views.{View}
use Rattle.check_access.specs.declared.access.Access.{Access}
use Rattle.check_access.specs.declared.access.AccessKind.{AccessKind}
use Rattle.check_access_order.proofs.NodeKinds.{sync_alone, host_alone, command_unsynced, link_alone}
use Rattle.check_access_order.proofs.Sites.{Site, site, barrier_stage}
use Rattle.check_access_order.proofs.Ways.{at, commands, link, waits, waits_from, Lets, lets, lets_from}
use Rattle.check_access_order.specs.Order.{LeavesIn, EntersIn, InOrder}
use Rattle.check_access_order.specs.Single.{Single}
use Rattle.check_access_order.specs.Stages.{stage_of}
use Rattle.law_nodes.proofs.Passes as paths
use Rattle.law_nodes.proofs.Ways.{held_parts, Out, In, path_leads, up_to_old, out_held, in_held, out_old, in_old}
use Rattle.law_nodes.specs.Passing as nodes

module _ (V : View) where
  -- WHERE AN ACCESS LEAVES TO

  pub leaves_out : (kind : AccessKind) (n x : ℕ) → Site V n kind → LeavesIn V.nodes (stage_of kind) n x → Out V n x
  leaves_out kind n x (inl c) l = inr (c.node, waits V (at V n).dst_stages.0 n x (subst (λ o. LeavesIn V.nodes o n x) c.stage l))
  leaves_out kind n x (inr (inl b)) l = inl (sync_alone (at V n).kind b.node, subst (λ o. LeavesIn V.nodes o n x) (barrier_stage kind b.barrier) l)
  leaves_out kind n x (inr (inr r)) l = inl (host_alone (at V n).kind r.node, subst (λ k. LeavesIn V.nodes (stage_of k) n x) r.read l)

  pub out_leaves : (kind : AccessKind) (n x : ℕ) → Site V n kind → Out V n x → LeavesIn V.nodes (stage_of kind) n x
  out_leaves kind n x (inl c) (inl o) = absurd (clash (sym o.0 ∙ c.node))
  out_leaves kind n x (inl c) (inr o) = subst (λ s. LeavesIn V.nodes s n x) (sym c.stage) (waits_from V (at V n).dst_stages.0 n x o.1)
  out_leaves kind n x (inr (inl b)) (inl o) = subst (λ s. LeavesIn V.nodes s n x) (sym (barrier_stage kind b.barrier)) o.1
  out_leaves kind n x (inr (inl b)) (inr o) = absurd (clash (sym (sync_alone (at V n).kind b.node) ∙ o.0))
  out_leaves kind n x (inr (inr r)) (inl o) = subst (λ k. LeavesIn V.nodes (stage_of k) n x) (sym r.read) o.1
  out_leaves kind n x (inr (inr r)) (inr o) = absurd (clash (sym (host_alone (at V n).kind r.node) ∙ o.0))

  pub enters_in : (kind : AccessKind) (y m : ℕ) → Site V m kind → EntersIn V.nodes (stage_of kind) y m → In V y m
  enters_in kind y m (inl c) l = inr (c.node, subst (λ s. Lets V s y m) (sym c.same) (lets V (at V m).dst_stages.0 y m (subst (λ o. EntersIn V.nodes o y m) c.stage l)))
  enters_in kind y m (inr (inl b)) l = inl (sync_alone (at V m).kind b.node, subst (λ o. EntersIn V.nodes o y m) (barrier_stage kind b.barrier) l)
  enters_in kind y m (inr (inr r)) l = inl (host_alone (at V m).kind r.node, subst (λ k. EntersIn V.nodes (stage_of k) y m) r.read l)

  pub in_enters : (kind : AccessKind) (y m : ℕ) → Site V m kind → In V y m → EntersIn V.nodes (stage_of kind) y m
  in_enters kind y m (inl c) (inl o) = absurd (clash (sym o.0 ∙ c.node))
  in_enters kind y m (inl c) (inr o) = subst (λ s. EntersIn V.nodes s y m) (sym c.stage) (lets_from V (at V m).dst_stages.0 y m (subst (λ s. Lets V s y m) c.same o.1))
  in_enters kind y m (inr (inl b)) (inl o) = subst (λ s. EntersIn V.nodes s y m) (sym (barrier_stage kind b.barrier)) o.1
  in_enters kind y m (inr (inl b)) (inr o) = absurd (clash (sym (sync_alone (at V m).kind b.node) ∙ o.0))
  in_enters kind y m (inr (inr r)) (inl o) = subst (λ k. EntersIn V.nodes (stage_of k) y m) (sym r.read) o.1
  in_enters kind y m (inr (inr r)) (inr o) = absurd (clash (sym (host_alone (at V m).kind r.node) ∙ o.0))

  -- an edge from a command leads out of it, and one to a command into it
  pub edge_out : (n x : ℕ) → commands V n ≡ true → all.edge V.nodes n x ≡ true → Out V n x
  edge_out n x e h = ⊎_elim
      (λ f.
      let p = held_parts V n x f in
      inr (e, record { rising = p.0.rising; queue = p.0.queue; sync = ap (λ t. t || is_sync (at V x).kind) (sym (command_unsynced (at V n).kind e)) ∙ p.1; meet = p.0.meet }))
      (λ f. absurd (clash (sym (link_alone V.nodes n x f).0 ∙ e)))
      (or_cases (nat_lt n x && all.holds_back (at V n) (at V x)) (link V n x) h)

  pub edge_in : (y m : ℕ) → commands V m ≡ true → all.edge V.nodes y m ≡ true → In V y m
  edge_in y m e h = ⊎_elim
      (λ f.
      let p = held_parts V y m f in
      inr (e, record { rising = p.0.rising; queue = p.0.queue; sync = left (is_sync (at V y).kind) (is_sync (at V m).kind) (command_unsynced (at V m).kind e) p.1; meet = p.0.meet }))
      (λ f. absurd (clash (sym (link_alone V.nodes y m f).1 ∙ e)))
      (or_cases (nat_lt y m && all.holds_back (at V y) (at V m)) (link V y m) h)
    where
      left : (a b : Bool) → b ≡ false → (a || b) ≡ true → a ≡ true
      left true b g t = refl
      left false b g t = absurd (clash (sym g ∙ t))

  -- and the other way
  pub out_edge : (n x : ℕ) → commands V n ≡ true → Out V n x → all.edge V.nodes n x ≡ true
  out_edge n x e (inl o) = absurd (clash (sym o.0 ∙ e))
  out_edge n x e (inr o) = out_held V n x o.1

  pub in_edge : (y m : ℕ) → commands V m ≡ true → In V y m → all.edge V.nodes y m ≡ true
  in_edge y m e (inl o) = absurd (clash (sym o.0 ∙ e))
  in_edge y m e (inr o) = in_held V y m o.1

  -- THE ORDER OF TWO ACCESSES

  module _ (A : ValidView V) (S : Single V) where
    pub in_order_old : (n m : ℕ) (a b : Access) → Has V n a → Has V m b → n ≢ m → InOrder V n a m b → nodes.Before V n m
    in_order_old n m a b ha hb apart (x, y, l, u, e) = strict
        (paths.up_to_on V n x m (out_old V n x (leaves_out a.kind n x (site V A S n a ha) l))
        (paths.up_to_on V x y m (up_to_old V x y u) (in_old V y m (enters_in b.kind y m (site V A S m b hb) e))))
      where
        strict : nodes.UpTo V n m → nodes.Before V n m
        strict (inl q) = absurd (apart q)
        strict (inr p) = p

    pub in_order_new : (n m : ℕ) (a b : Access) → Has V n a → Has V m b → nodes.Before V n m → InOrder V n a m b
    in_order_new n m a b ha hb p =
        let l = path_leads V S n m p in
        (l.x, l.y, out_leaves a.kind n l.x (site V A S n a ha) l.out, l.way, in_enters b.kind l.y m (site V A S m b hb) l.into)
