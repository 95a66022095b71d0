-- The law of crossing: what reaches a command on another queue has a signal after it that leads to a wait before the command.
use Rattle.std.proofs.Common.{◌≡◌, ◌⊎◌, inl, inr, ℕ, ◌+◌, nat_lt, true, false, ◌&&◌, ◌||◌, ◌==◌, List, refl, sym, ◌∙◌, subst, eq-eqb, eqb-true, arith}
use Rattle.std.proofs.lemmas.Bool.{cases_Bool, and_from, and_parts, or_left, or_right, or_cases, lt-ltb}
use Rattle.vk.specs.Sets.{meets}
use Rattle.law_plan.specs.Crossings.{Sooner, Later, Open, IsFull, wait_stages}
use Rattle.law_plan.specs.Nodes.{Nodes, Places}
use Rattle.law_plan.specs.Plans.{Plan, leads, Reach, by_queue, by_need, then_reach}
use Rattle.check_order.proofs.Bridge.{signal_sync, wait_sync}
use Rattle.check_order.specs.Edges.{edge, holds_back, is_at, is_signal, is_sync, is_wait, meeting, node_at, signalled}
use Rattle.check_order.specs.declared.node.Node.{Node}
use Rattle.base_reach.specs.Paths.{one, then_on}
use Rattle.check_access.specs.Views.{View}

-- WHAT A GROUP LEADS TO

pub next_leads : (F : Plan) (g : ℕ) → F.piece g ≡ F.piece (g + 1) → leads F g (g + 1) ≡ true
next_leads F g e = or_left ((g + 1 == g + 1) && (F.piece g == F.piece (g + 1))) (F.over g (g + 1)) (and_from (g + 1 == g + 1) (F.piece g == F.piece (g + 1)) (eq-eqb (g + 1) (g + 1) refl) (eq-eqb (F.piece g) (F.piece (g + 1)) e))

pub over_leads : (F : Plan) (g h : ℕ) → F.over g h ≡ true → leads F g h ≡ true
over_leads F g h e = or_right ((h == g + 1) && (F.piece g == F.piece h)) (F.over g h) e

pub leads_cases : (F : Plan) (g h : ℕ) → leads F g h ≡ true → ((h ≡ g + 1) × (F.piece g ≡ F.piece h)) ⊎ (F.over g h ≡ true)
leads_cases F g h e = go (or_cases ((h == g + 1) && (F.piece g == F.piece h)) (F.over g h) e)
  where
    go : (((h == g + 1) && (F.piece g == F.piece h)) ≡ true) ⊎ (F.over g h ≡ true) → ((h ≡ g + 1) × (F.piece g ≡ F.piece h)) ⊎ (F.over g h ≡ true)
    go (inl q) = let r = and_parts (h == g + 1) (F.piece g == F.piece h) q in inl (eqb-true h (g + 1) r.0, eqb-true (F.piece g) (F.piece h) r.1)
    go (inr q) = inr q

-- EDGES OF ONE QUEUE

-- nodes of one queue have an edge where their stages meet, except between commands
near : (nodes : List Node) (x y : ℕ) → Sooner nodes x y → (is_sync (node_at nodes x).kind || is_sync (node_at nodes y).kind) ≡ true → meets (node_at nodes x).dst_stages.0 (node_at nodes y).src_stages.0 ≡ true → edge nodes x y ≡ true
near nodes x y s k m =
    let a = node_at nodes x in
    let b = node_at nodes y in
    or_left (nat_lt x y && holds_back a b) (signalled nodes x y || is_at (meeting nodes b.kind) x)
    (and_from (nat_lt x y) (holds_back a b) (lt-ltb x y s.less)
    (and_from (a.queue == b.queue) ((is_sync a.kind || is_sync b.kind) && meets a.dst_stages.0 b.src_stages.0) (eq-eqb a.queue b.queue s.same)
    (and_from (is_sync a.kind || is_sync b.kind) (meets a.dst_stages.0 b.src_stages.0) k m)))

pub to_sync : (nodes : List Node) (x y : ℕ) → Sooner nodes x y → is_sync (node_at nodes y).kind ≡ true → meets (node_at nodes x).dst_stages.0 (node_at nodes y).src_stages.0 ≡ true → edge nodes x y ≡ true
to_sync nodes x y s k m = near nodes x y s (or_right (is_sync (node_at nodes x).kind) (is_sync (node_at nodes y).kind) k) m

pub from_sync : (nodes : List Node) (x y : ℕ) → Sooner nodes x y → is_sync (node_at nodes x).kind ≡ true → meets (node_at nodes x).dst_stages.0 (node_at nodes y).src_stages.0 ≡ true → edge nodes x y ≡ true
from_sync nodes x y s k m = near nodes x y s (or_left (is_sync (node_at nodes x).kind) (is_sync (node_at nodes y).kind) k) m

module _ (V : View) (D : IsFull V) where
  -- from an open node to a later signal, from a wait to a later open node, and from a wait to a later signal
  pub to_signal : (x s : ℕ) → Open V.nodes x → is_signal (node_at V.nodes s).kind ≡ true → Sooner V.nodes x s → edge V.nodes x s ≡ true
  to_signal x s O h k = to_sync V.nodes x s k (signal_sync (node_at V.nodes s).kind h) (subst (λ z. meets (node_at V.nodes x).dst_stages.0 z ≡ true) (sym (D.signals s h)) O.out)

  pub from_wait : (w y : ℕ) → Open V.nodes y → is_wait (node_at V.nodes w).kind ≡ true → Sooner V.nodes w y → edge V.nodes w y ≡ true
  from_wait w y O h k = from_sync V.nodes w y k (wait_sync (node_at V.nodes w).kind h) (subst (λ z. meets z (node_at V.nodes y).src_stages.0 ≡ true) (sym (D.waits w h)) O.into)

  wait_signal : (w s : ℕ) → is_wait (node_at V.nodes w).kind ≡ true → is_signal (node_at V.nodes s).kind ≡ true → Sooner V.nodes w s → edge V.nodes w s ≡ true
  wait_signal w s hw hs k = from_sync V.nodes w s k (wait_sync (node_at V.nodes w).kind hw) (subst (λ z. meets z (node_at V.nodes s).src_stages.0 ≡ true) (sym (D.waits w hw)) (subst (λ z. meets wait_stages z ≡ true) (sym (D.signals s hs)) refl))

  -- LATER GOES ON

  sooner_then : (x y z : ℕ) → Sooner V.nodes x y → Sooner V.nodes y z → Sooner V.nodes x z
  sooner_then x y z p q = record { same = p.same ∙ q.same; less = omega (arith, p.less, q.less) }

  pub later_then : (x y z : ℕ) → Later V.nodes x y → Later V.nodes y z → Later V.nodes x z
  later_then x y z (inl p) (inl q) = inl (sooner_then x y z p q)
  later_then x y z (inl p) (inr q) = inr (record { sent = q.sent; got = q.got; signal = q.signal; wait = q.wait; after = sooner_then x y q.sent p q.after; before = q.before; path = q.path })
  later_then x y z (inr p) (inl q) = inr (record { sent = p.sent; got = p.got; signal = p.signal; wait = p.wait; after = p.after; before = sooner_then p.got y z p.before q; path = p.path })
  later_then x y z (inr p) (inr q) =
      inr (record {
        sent = p.sent;
        got = q.got;
        signal = p.signal;
        wait = q.wait;
        after = p.after;
        before = q.before;
        path = then_on p.path (then_on (one (wait_signal p.got q.sent p.wait q.signal (sooner_then p.got y q.sent p.before q.after))) q.path);
      })

  -- THE LAW

  module _ (F : Plan) (N : Nodes) (P : Places F V N) where
    -- from a member of a group to the prologue of the next group of its unit
    into_next : (g c : ℕ) → F.piece g ≡ F.piece (g + 1) → F.member c g ≡ true → Later V.nodes (N.command c) (N.prologue (g + 1))
    into_next g c e m = go (cases_Bool (N.released g))
      where
        go : (N.released g ≡ true) ⊎ (N.released g ≡ false) → Later V.nodes (N.command c) (N.prologue (g + 1))
        go (inl r) = later_then (N.command c) (N.release g) (N.prologue (g + 1)) (P.into_release g c r m) (inr (P.into_acquire g (g + 1) r (next_leads F g e)))
        go (inr r) = P.into_prologue g c e r m

    pub crossing : (c d : ℕ) → Reach F c d → Later V.nodes (N.command c) (N.command d)
    crossing c d (by_queue e lt h) = inl (P.steps c d e lt h)
    crossing c d (by_need {g = g} e hc hd) = later_then (N.command c) (N.prologue (g + 1)) (N.command d) (into_next g c e hc) (P.onto (g + 1) d (P.has_prologue g (g + 1) (next_leads F g e)) hd)
    crossing c d (then_reach {d = m} p q) = later_then (N.command c) (N.command m) (N.command d) (crossing c m p) (crossing m d q)
