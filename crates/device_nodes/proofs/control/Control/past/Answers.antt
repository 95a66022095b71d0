use Rattle.std.proofs.Common.{◌≡◌, ◌<◌, length, sym, ap, ◌∙◌, subst}
use Rattle.std.proofs.lemmas.Bool.{ne_eqb}
use Rattle.device_nodes.proofs.Gathering.{passed_by, gathered_by}
use Rattle.device_nodes.proofs.Lists.{read_at}
use Rattle.device_nodes.proofs.control.Control.past.Goals as goal
use Rattle.device_nodes.specs.Controls.{phase_of}
use Rattle.check_order.specs.Edges.{node_at}
use Rattle.device_model.specs.States.{is_done}
use Rattle.device_model.specs.declared.phase.Phase.TheVariants.{Idle}
use Rattle.check_access.specs.Views.{queue_at}

pub returns-then-node-queue : goal.returns-then-node-queue
returns-then-node-queue c =
    let old = c.args.self.now in
    let on : c.node-node.result.queue ≡ queue_at old.view c.args.n = ap (λ z. z.queue) c.node-node.ensures ∙ ap (λ s. queue_at s.view c.args.n) c.self.view_is in
    passed_by old.view (phase_of old) c.args.queue c.args.n c.args.blocked c.requires.blocked (ne_eqb (queue_at old.view c.args.n) c.args.queue (λ e. c.if-node-queue.true (on ∙ e)))

pub returns : goal.returns
returns c =
    let old = c.args.self.now in
    let node : c.node-node.result ≡ node_at old.view.nodes c.args.n = c.node-node.ensures ∙ ap (λ s. node_at s.view.nodes c.args.n) c.self.view_is in
    let lt = subst (λ m. c.args.n < m) (sym c.self.invariant.phase_count) (subst (λ s. c.args.n < length s.view.nodes) (sym c.self.view_is) c.requires.n) in
    let phase : phase_of old c.args.n ≡ c.index.result.now = ap (λ s. phase_of s c.args.n) (sym c.self.view_is) ∙ read_at c.self.inside.phases c.args.n c.index.result.now Idle lt c.index.ensures in
    gathered_by old.view (phase_of old) c.args.queue c.args.n c.args.blocked c.requires.blocked c.past.result c.node-node.result c.is_done.result node (c.is_done.ensures ∙ ap is_done (sym phase)) c.if-node-queue.false c.past.ensures.by_syncs c.past.ensures.by_all c.past.ensures.signal
