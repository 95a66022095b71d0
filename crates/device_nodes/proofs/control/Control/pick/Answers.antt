use Rattle.std.proofs.Common.{◌≡◌, ◌+◌, ◌<◌, ◌≤◌, ℕ, length, get_or, sym, ap, subst, ◌∙◌, arith}
use Rattle.device_nodes.proofs.Gathering.{nothing_blocked}
use Rattle.device_nodes.proofs.Needing.{none_below_from}
use Rattle.device_nodes.proofs.Readiness.{NoneBelow, none_first, none_more, next_not, next_here, none_at_all}
use Rattle.device_nodes.proofs.Spanning.{done_below}
use Rattle.device_nodes.proofs.control.Control.pick.Goals as goal
use Rattle.device_nodes.specs.Internal.Blocked.{Gathers}
use Rattle.device_nodes.specs.Internal.Kept.{control_in}
use Rattle.device_nodes.specs.Internal.Spans.{from_of, to_of}
use Rattle.device_nodes.specs.Controls.{Control, phase_of}
use Rattle.check_access.specs.Views.{queue_at}

pub loop-n-init : goal.loop-n-init
loop-n-init c =
    let i = c.self.inside in
    let q = c.args.queue in
    let from = c.from-from.result in
    let le : from ≤ from_of i.spans q = omega (arith, c.from-from.ensures) in
    let done = done_below i.view (phase_of (control_in i)) i.spans c.self.invariant.spanned q from le in
    let G : Control → Type 0 = λ z. Gathers z.view (phase_of z) q from c.nothing-blocked.result in
    let N : Control → Type 0 = λ z. NoneBelow z q from in
    record {
      gathers = subst G c.self.view_is (nothing_blocked i.view (phase_of (control_in i)) q from done c.nothing-blocked.result c.nothing-blocked.ensures.by_syncs c.nothing-blocked.ensures.by_all c.nothing-blocked.ensures.signal);
      none = subst N c.self.view_is (none_first (control_in i) q from done);
    }

pub loop-n-preserved : goal.loop-n-preserved
loop-n-preserved c = record {
  gathers = c.past-blocked.ensures;
  none = none_more c.args.self.now c.args.queue c.loop-n.n c.loop-n.invariant.none (next_not c.args.self.now c.args.queue c.loop-n.n (sym c.is_next.ensures ∙ c.if-is_next.false));
}

pub returns-then-not-some_might_come-clause-none : goal.returns-then-not-some_might_come-clause-none
returns-then-not-some_might_come-clause-none c =
    let now = c.args.self.now in
    let q = c.args.queue in
    let n = c.loop-n.n in
    none_below_from now q (n + 1) (none_more now q n c.loop-n.invariant.none (next_not now q n (sym c.is_next.ensures ∙ c.if-is_next.false)))
    (c.all_wait.ensures c.if-all_wait.true (c.some_might_come.ensures c.if-not-some_might_come.true))

pub returns-then-is_next-clause-some : goal.returns-then-is_next-clause-some
returns-then-is_next-clause-some c = next_here c.args.self.now c.args.queue c.loop-n.n c.loop-n.invariant.none (sym c.is_next.ensures ∙ c.if-is_next.true)

pub returns-clause-none : goal.returns-clause-none
returns-clause-none c =
    let i = c.self.inside in
    let q = c.args.queue in
    let P : Control → Type 0 = λ z. (k : ℕ) → k < length z.view.nodes → queue_at z.view k ≡ q → k < c.loop-n.n in
    none_at_all c.args.self.now q c.loop-n.n c.loop-n.invariant.none (subst P c.self.view_is (λ k lt on.
    let to : get_or i.spans.to (queue_at i.view k) (length i.view.nodes) ≡ to_of i.view i.spans q = ap (λ z. get_or i.spans.to z (length i.view.nodes)) on in
    omega (arith, c.self.invariant.spanned.ends.above k lt, to, c.to-n-end.ensures, c.loop-n-test.false)))
