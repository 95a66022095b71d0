use Rattle.std.proofs.Common.{◌≡◌, ◌<◌, length, get_or, slice_set, true, false, Some, None, sym, ap, subst, ◌∙◌}
use Rattle.device_nodes.proofs.Readiness.{signal_within}
use Rattle.device_nodes.proofs.Signals.{last_kept, last_set}
use Rattle.device_nodes.proofs.lasts.put_signal.Goals as goal
use Rattle.check_order.specs.Edges.{is_signal}
use Rattle.device_model.specs.Ready.{kind_at}
use Rattle.check_access.specs.Views.{queue_at}

pub returns-then-not-is_signal-clause-each : goal.returns-then-not-is_signal-clause-each
returns-then-not-is_signal-clause-each c = λ q h.
    let e : is_signal (kind_at c.args.view.now c.args.n) ≡ false = ap (λ z. is_signal z.kind) (sym c.node-node.ensures) ∙ sym c.is_signal.ensures ∙ c.if-not-is_signal.true in
    last_kept c.args.view.now c.args.n q e c.args.lasts.now h

pub set-requires : goal.set-requires
set-requires c =
    let e : is_signal (kind_at c.args.view.now c.args.n) ≡ true = ap (λ z. is_signal z.kind) (sym c.node-node.ensures) ∙ sym c.is_signal.ensures ∙ c.if-not-is_signal.false in
    subst (λ z. z.queue < length c.args.lasts.now) (sym c.node-node.ensures) (subst (λ m. queue_at c.args.view.now c.args.n < m) (sym c.requires.size) (signal_within c.args.view.now c.requires.shaped c.args.n c.requires.n e))

pub returns-clause-each : goal.returns-clause-each
returns-clause-each c = λ q h.
    let e : is_signal (kind_at c.args.view.now c.args.n) ≡ true = ap (λ z. is_signal z.kind) (sym c.node-node.ensures) ∙ sym c.is_signal.ensures ∙ c.if-not-is_signal.false in
    ap (λ l. get_or l q None) (c.set.ensures ∙ ap (λ z. slice_set c.args.lasts.now z.queue (Some c.args.n)) c.node-node.ensures)
    ∙ last_set c.args.view.now c.args.n q e c.args.lasts.now (subst (λ m. queue_at c.args.view.now c.args.n < m) (sym c.requires.size) (signal_within c.args.view.now c.requires.shaped c.args.n c.requires.n e)) h
