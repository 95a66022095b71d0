use Rattle.std.proofs.Common.{true, false, ◌∙◌, List, ◌∷◌, [], ◌++◌, sym, ap, subst}
use Rattle.device_audit.proofs.Made.{begins, cannot, follows_begin}
use Rattle.device_audit.proofs.follower.Follower.begin.Goals as goal
use Rattle.device_audit.specs.Internal.Following.{Follows}
use Rattle.base.specs.declared.event.Event.TheVariants.{Begin}
use Rattle.device.specs.declared.job.Command.{Command}
use Rattle.device_model.specs.Devices.{Device}

pub returns-then-not-may_begin : goal.returns-then-not-may_begin
returns-then-not-may_begin g c = subst (λ (d : Device). Follows d d (Begin c.args.node) false) c.self.view_is (cannot c.self.inside.device (Begin c.args.node) c.may_begin.result c.may_begin.ensures c.if-not-may_begin.true)

pub invariant_of-self-2 : goal.invariant_of-self-2
invariant_of-self-2 g c =
    let d = c.self.inside.device in
    begins d c.begin.new.self c.args.node (c.event_laws.ensures.nodes d c.args.node) (sym c.may_begin.ensures ∙ c.if-not-may_begin.false) c.in_ok-job.ensures.event
    c.self.inside.begun.items c.push_reserved.new.self.items c.compute.result c.self.invariant
    (c.push_reserved.ensures.items ∙ ap (λ (l : List Command). l ++ c.compute.result ∷ []) c.in_ok-reserve.ensures.items)
    (ap (λ (x : Command). x.node) c.compute.ensures ∙ c.in_ok-job.ensures.job.node)

pub returns : goal.returns
returns g c =
    let d = c.self.inside.device in
    subst (λ (x : Device). Follows x c.begin.new.self (Begin c.args.node) true) c.self.view_is (follows_begin d c.begin.new.self c.args.node (c.event_laws.ensures.nodes d c.args.node) (sym c.may_begin.ensures ∙ c.if-not-may_begin.false) c.in_ok-job.ensures.event)
