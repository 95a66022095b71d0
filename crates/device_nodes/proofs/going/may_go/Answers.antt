use Rattle.std.proofs.Common.{◌∙◌, get_or, sym, ap}
use Rattle.device_nodes.proofs.Readiness.{busy, blocked_up, waits_only}
use Rattle.device_nodes.proofs.going.may_go.Goals as goal
use Rattle.device_model.specs.Ready.{reached}
use Rattle.device_model.specs.declared.phase.Phase.TheVariants.{Idle}

pub returns-then-not-is_idle : goal.returns-then-not-is_idle
returns-then-not-is_idle c = sym (busy c.args.view.now (λ x. get_or c.args.phases.now x Idle) (λ q. get_or c.args.counters.now q 0) c.args.n (sym c.is_idle.ensures ∙ c.if-not-is_idle.true))

pub returns-then-not-follows_done : goal.returns-then-not-follows_done
returns-then-not-follows_done c = sym (blocked_up c.args.view.now (λ x. get_or c.args.phases.now x Idle) (λ q. get_or c.args.counters.now q 0) c.args.n (sym c.follows_done.ensures ∙ c.if-not-follows_done.true))

pub returns : goal.returns
returns c =
    c.has_reached.ensures ∙ ap (λ node. reached node.kind (λ q. get_or c.args.counters.now q 0)) c.node.ensures
    ∙ sym (waits_only c.args.view.now (λ x. get_or c.args.phases.now x Idle) (λ q. get_or c.args.counters.now q 0) c.args.n c.requires.n (sym c.is_idle.ensures ∙ c.if-not-is_idle.false) (sym c.follows_done.ensures ∙ c.if-not-follows_done.false))
