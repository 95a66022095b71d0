use Rattle.std.proofs.Common.{◌∙◌, ap, get_or}
use Rattle.device_nodes.proofs.control.Control.may_go.Goals as goal
use Rattle.device_nodes.specs.Controls.{is_ready}
use Rattle.device_model.specs.Ready.{may_go}
use Rattle.device_model.specs.declared.phase.Phase.TheVariants.{Idle}

pub returns : goal.returns
returns c =
    c.may_go.ensures ∙ ap (λ l. may_go c.self.inside.view (λ x. get_or l x Idle) (λ q. get_or c.deref-2.result.now q 0) c.args.n) c.deref.ensures
    ∙ ap (λ l. may_go c.self.inside.view (λ x. get_or c.self.inside.phases x Idle) (λ q. get_or l q 0) c.args.n) c.deref-2.ensures
    ∙ ap (λ s. is_ready s c.args.n) c.self.view_is
