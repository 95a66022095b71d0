use Rattle.std.proofs.Common.{◌≡◌, ◌∙◌, ℕ, List, [], None, sym, ap, subst}
use Rattle.std.specs.Arc.{arc_value}
use Rattle.std.proofs.lemmas.List.{get_or_read}
use Rattle.device.proofs.Sights.{read_inside, done_is, bytes_are}
use Rattle.device.proofs.device.Device.readback.Goals as goal
use Rattle.device_model.specs.Devices.{Device, ReadsApart}
use Rattle.device_model.specs.Ready.{read_node}
use Rattle.program.specs.FirstFault.{first_fault}
use Rattle.program.specs.declared.program.Program.{Program}

pub returns-then-is_done-clause-some : goal.returns-then-is_done-clause-some
returns-then-is_done-clause-some c =
    let i = c.self.inside in
    let d = c.args.self.now in
    let k = c.args.k in
    let node : c.read_node.result ≡ read_node (arc_value i.program) k = c.read_node.ensures.node ∙ ap (λ (p : Program). read_node p k) c.deref.ensures in
    let done = sym c.is_done.ensures ∙ c.if-is_done.true in
    let inside = read_inside i c.self.invariant d c.self.view_is k c.requires c.read_node.result node in
    (sym (done_is i c.self.invariant d c.self.view_is k c.requires c.read_node.result node) ∙ done, c.as_slice.ensures ∙ get_or_read i.reads.items k c.index.result.now inside c.index.ensures [] ∙ bytes_are i c.self.invariant d c.self.view_is k c.requires c.read_node.result node done)

pub returns-then-is_done-clause-apart : goal.returns-then-is_done-clause-apart
returns-then-is_done-clause-apart c =
    let d = c.args.self.now in
    let r = returns-then-is_done-clause-some c in
    let faultless : first_fault d.program ≡ None = subst (λ (d : Device). first_fault d.program ≡ None) c.self.view_is c.self.invariant.faultless in
    subst (λ (bytes : List ℕ). ReadsApart d c.args.k bytes) (sym r.1) ((c.device_laws.ensures.runs d faultless).read c.args.k c.requires r.0)
