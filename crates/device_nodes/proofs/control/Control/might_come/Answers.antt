use Rattle.std.proofs.Common.{◌≡◌, ◌<◌, ◌&&◌, not, length, get_or, false, sym, ap, subst, ◌∙◌}
use Rattle.device_nodes.proofs.Needing.{may_not}
use Rattle.device_nodes.proofs.control.Control.might_come.Goals as goal
use Rattle.device_nodes.specs.Internal.Blocked.{is_open}
use Rattle.device_nodes.specs.Internal.Kept.{control_in}
use Rattle.device_nodes.specs.Controls.{is_ready}
use Rattle.check_order.specs.Edges.{meeting}
use Rattle.device_model.specs.Ready.{kind_at}
use Rattle.device_model.specs.States.{is_idle}
use Rattle.device_model.specs.declared.phase.Phase.TheVariants.{Idle}

pub returns-then-node-queue : goal.returns-then-node-queue
returns-then-node-queue c = λ e on.
    let i = c.self.inside in
    let n = c.args.n in
    let lt : n < length i.view.nodes = subst (λ z. n < length z.view.nodes) (sym c.self.view_is) c.requires in
    let met = meeting i.view.nodes (kind_at i.view n) in
    let same = c.might_go.ensures ∙ ap (λ l. is_idle (get_or l n Idle) && not (is_open (λ x. get_or l x Idle) met)) c.deref.ensures in
    subst (λ z. is_ready z n ≡ false) c.self.view_is (may_not (control_in i) n lt (sym same ∙ e))
