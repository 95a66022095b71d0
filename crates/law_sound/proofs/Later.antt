-- What comes later goes on, and what holds what back on a queue.
use Rattle.std.proofs.Common.{◌≡◌, inl, inr, ℕ, ◌==◌, ◌&&◌, ◌||◌, nat_lt, true, List, refl, sym, ◌∙◌, subst, eq-eqb, arith}
use Rattle.std.proofs.lemmas.Bool.{and_from, lt-ltb, or_left}
use Rattle.vk.specs.Sets.{meets}
use Rattle.law_plan.specs.Crossings.{Sooner, Crossed, Later, IsFull, wait_stages}
use Rattle.check_order.proofs.Bridge.{wait_sync}
use Rattle.check_order.specs.Edges.{edge, holds_back, is_at, is_signal, is_sync, is_wait, meeting, node_at, signalled}
use Rattle.check_order.specs.Nodes.{program_nodes}
use Rattle.check_order.specs.declared.node.Node.{Node}
use Rattle.base_reach.specs.Paths.{one, then_on}
use Rattle.program.specs.declared.program.Program.{Program}
use Rattle.check_access.specs.Views.{view_of}

module _ (nodes : List Node) where
  pub sooner_then : (x y z : ℕ) → Sooner nodes x y → Sooner nodes y z → Sooner nodes x z
  sooner_then x y z a b = let l = a.less in let m = b.less in record { same = a.same ∙ b.same; less = omega (arith, l, m) }

  pub sooner_crossed : (x y z : ℕ) → Sooner nodes x y → Crossed nodes y z → Crossed nodes x z
  sooner_crossed x y z a b = record { sent = b.sent; got = b.got; signal = b.signal; wait = b.wait; after = sooner_then x y b.sent a b.after; before = b.before; path = b.path }

  crossed_sooner : (x y z : ℕ) → Crossed nodes x y → Sooner nodes y z → Crossed nodes x z
  crossed_sooner x y z a b = record { sent = a.sent; got = a.got; signal = a.signal; wait = a.wait; after = a.after; before = sooner_then a.got y z a.before b; path = a.path }

  -- a barrier, wait or signal holds back what comes later on its queue, where their stages meet
  pub held_back : (x y : ℕ) → Sooner nodes x y → is_sync (node_at nodes x).kind ≡ true → meets (node_at nodes x).dst_stages.0 (node_at nodes y).src_stages.0 ≡ true → edge nodes x y ≡ true
  held_back x y before sync held =
      or_left (nat_lt x y && holds_back (node_at nodes x) (node_at nodes y)) (signalled nodes x y || is_at (meeting nodes (node_at nodes y).kind) x)
      (and_from (nat_lt x y) (holds_back (node_at nodes x) (node_at nodes y)) (lt-ltb x y before.less)
      (and_from ((node_at nodes x).queue == (node_at nodes y).queue) ((is_sync (node_at nodes x).kind || is_sync (node_at nodes y).kind) && meets (node_at nodes x).dst_stages.0 (node_at nodes y).src_stages.0) (eq-eqb (node_at nodes x).queue (node_at nodes y).queue before.same)
      (and_from (is_sync (node_at nodes x).kind || is_sync (node_at nodes y).kind) (meets (node_at nodes x).dst_stages.0 (node_at nodes y).src_stages.0) (or_left (is_sync (node_at nodes x).kind) (is_sync (node_at nodes y).kind) sync) held)))

module _ (P : Program) (full : IsFull (view_of P)) where
  -- signals wait for the waits before them
  wait_signal : (w s : ℕ) → is_wait (node_at (program_nodes P) w).kind ≡ true → is_signal (node_at (program_nodes P) s).kind ≡ true → Sooner (program_nodes P) w s → edge (program_nodes P) w s ≡ true
  wait_signal w s hw hs k = held_back (program_nodes P) w s k (wait_sync (node_at (program_nodes P) w).kind hw) (subst (λ z. meets z (node_at (program_nodes P) s).src_stages.0 ≡ true) (sym (full.waits w hw)) (subst (λ z. meets wait_stages z ≡ true) (sym (full.signals s hs)) refl))

  pub later_then : (x y z : ℕ) → Later (program_nodes P) x y → Later (program_nodes P) y z → Later (program_nodes P) x z
  later_then x y z (inl p) (inl q) = inl (sooner_then (program_nodes P) x y z p q)
  later_then x y z (inl p) (inr q) = inr (sooner_crossed (program_nodes P) x y z p q)
  later_then x y z (inr p) (inl q) = inr (crossed_sooner (program_nodes P) x y z p q)
  later_then x y z (inr p) (inr q) = inr (record {
    sent = p.sent;
    got = q.got;
    signal = p.signal;
    wait = q.wait;
    after = p.after;
    before = q.before;
    path = then_on p.path (then_on (one (wait_signal p.got q.sent p.wait q.signal (sooner_then (program_nodes P) p.got y q.sent p.before q.after))) q.path);
  })
