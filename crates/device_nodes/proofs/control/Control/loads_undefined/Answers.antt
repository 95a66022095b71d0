use Rattle.std.proofs.Common.{◌≡◌, ◌<◌, ◌∙◌, length, sym, subst}
use Rattle.vk.specs.declared.layout.Layout.TheVariants.{Undefined}
use Rattle.device_nodes.proofs.Agreement.{undefined}
use Rattle.device_nodes.proofs.Lists.{read_at}
use Rattle.device_nodes.proofs.control.Control.loads_undefined.Goals as goal
use Rattle.device_nodes.specs.Internal.Kept.{control_in}
use Rattle.device_nodes.specs.Controls.{Control, Agrees}
use Rattle.device_model.specs.Ready.{loads_undefined}
use Rattle.device_model.specs.States.{State}
use Rattle.device_model.specs.declared.owner.Owner.TheVariants.{Unused}

pub returns : goal.returns
returns c =
    let i = c.self.inside in
    let keeps = c.self.invariant in
    let a = c.args.access in
    let lt : a.piece < length i.view.pieces = subst (λ z. a.piece < length z.view.pieces) (sym c.self.view_is) c.requires.piece in
    let P : Control → Type 0 = λ z. (s : State) → Agrees z s → c.loads_undefined.result ≡ loads_undefined z.view s c.args.node a in
    subst P c.self.view_is (λ s A. c.loads_undefined.ensures ∙ undefined (control_in i) s A i.running keeps.running c.args.node a c.index.result.now c.index-2.result.now
    (sym (read_at i.layouts a.piece c.index.result.now Undefined (subst (λ m. a.piece < m) (sym keeps.layout_count) lt) c.index.ensures))
    (sym (read_at i.owners a.piece c.index-2.result.now Unused (subst (λ m. a.piece < m) (sym keeps.owner_count) lt) c.index-2.ensures)))
