use Rattle.std.proofs.Common.{◌≡◌, ◌&&◌, sym, ap, subst, ◌∙◌, eq-eqb}
use Rattle.std.proofs.lemmas.Bool.{ne_eqb}
use Rattle.device_nodes.proofs.control.Control.is_next.Goals as goal
use Rattle.device_nodes.specs.Internal.Blocked.{Gathers}
use Rattle.device_nodes.specs.Controls.{phase_of, is_ready}
use Rattle.check_access.specs.Views.{queue_at}

pub returns-then-node-queue : goal.returns-then-node-queue
returns-then-node-queue c =
    let old = c.args.self.now in
    let on : c.node.result.queue ≡ queue_at old.view c.args.n = ap (λ z. z.queue) c.node.ensures ∙ ap (λ s. queue_at s.view c.args.n) c.self.view_is in
    sym (ap (λ b. b && is_ready old c.args.n) (ne_eqb (queue_at old.view c.args.n) c.args.queue (λ e. c.if-node-queue.true (on ∙ e))))

pub may_go-requires-clause-blocked : goal.may_go-requires-clause-blocked
may_go-requires-clause-blocked c =
    let old = c.args.self.now in
    let on : c.node.result.queue ≡ queue_at old.view c.args.n = ap (λ z. z.queue) c.node.ensures ∙ ap (λ s. queue_at s.view c.args.n) c.self.view_is in
    subst (λ q. Gathers old.view (phase_of old) q c.args.n c.args.blocked) (sym c.if-node-queue.false ∙ on) c.requires.blocked

pub returns : goal.returns
returns c =
    let old = c.args.self.now in
    let on : c.node.result.queue ≡ queue_at old.view c.args.n = ap (λ z. z.queue) c.node.ensures ∙ ap (λ s. queue_at s.view c.args.n) c.self.view_is in
    c.may_go.ensures ∙ sym (ap (λ b. b && is_ready old c.args.n) (eq-eqb (queue_at old.view c.args.n) c.args.queue (sym on ∙ c.if-node-queue.false)))
